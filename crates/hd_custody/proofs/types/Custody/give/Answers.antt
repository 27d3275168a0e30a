use Rattle.hd_custody.proofs.HeldOnBlock.{granted_has, granted_view}
use Rattle.hd_custody.proofs.types.Custody.give.Goals as goal

pub fill-requires-clause-slots : goal.fill-requires-clause-slots
fill-requires-clause-slots g c =
    granted_has c.args.kind c.args.block c.args.extra c.args.caller.now c.assign.new.caller
    c.assign_data.new.caller c.requires.kind c.assign.ensures.apart c.assign.ensures.view
    c.assign_data.ensures.view _

pub returns : goal.returns
returns g c = record {
  view = granted_view c.args.kind c.args.block c.args.extra c.args.caller.now c.assign.new.caller
      c.assign_data.new.caller c.requires.kind c.assign.ensures.apart c.assign.ensures.view
      c.assign_data.ensures.view c.fill.new.caller c.fill.ensures.view;
}
