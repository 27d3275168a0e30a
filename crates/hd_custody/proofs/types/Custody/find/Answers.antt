use Rattle.hd_custody.proofs.Basics.{Kinded, missed, subst, sym, to_look, with_slot, ◌+◌, ◌∙◌}
use Rattle.hd_custody.proofs.CallPhases.{held_is, table_is, then_as}
use Rattle.hd_custody.proofs.AllocateSteps.{came_none, came_some, offers_since}
use Rattle.hd_custody.proofs.types.Custody.find.Goals as goal

pub returns-then-slot-ne0-clause-made : goal.returns-then-slot-ne0-clause-made
returns-then-slot-ne0-clause-made g c =
    came_some (to_look c.args.self.now.blocks 1) missed c.probe-slot.result c.if-slot-ne0.true
    c.probe-slot.ensures.made

pub search-requires : goal.search-requires
search-requires g c =
    let held = c.args.caller.now.view.held in
    let so = came_none (to_look c.args.self.now.blocks 1) c.probe-slot.result held c.if-slot-ne0.false
    c.probe-slot.ensures.made in record {
      seat = table_is so ∙ c.requires.seat;
      kind = c.requires.kind;
      kinded = subst Kinded (sym (held_is so)) c.requires.kinded;
    }

pub returns-clause-made : goal.returns-clause-made
returns-clause-made g c =
    then_as (with_slot c.search.result (c.args.kind + 1))
    (came_none (to_look c.args.self.now.blocks 1) c.probe-slot.result c.args.caller.now.view.held
    c.if-slot-ne0.false c.probe-slot.ensures.made) c.search.ensures.made

pub returns-clause-offers : goal.returns-clause-offers
returns-clause-offers g c =
    offers_since g.W.Held c.args.kind c.search.result
    (came_none (to_look c.args.self.now.blocks 1) c.probe-slot.result
    c.args.caller.now.view.held c.if-slot-ne0.false c.probe-slot.ensures.made) c.search.ensures.offers
