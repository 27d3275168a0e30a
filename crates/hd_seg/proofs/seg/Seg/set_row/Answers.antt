use Rattle.hd_seg.proofs.Basics.{arith}
use Rattle.hd_seg.proofs.RowCalls.{aim-seg, aim-view, live_slot}
use Rattle.hd_seg.proofs.seg.Seg.set_row.Goals as goal

pub index_mut-requires : goal.index_mut-requires
index_mut-requires c =
    let known = live_slot c.self.invariant c.args.slot.0 c.self.view_is c.requires in
    omega (arith, known, c.self.inside.targets.ok.0)

pub invariant_of-self : goal.invariant_of-self
invariant_of-self c = aim-seg c.self.invariant c.args.slot.0 c.self.view_is c.requires c.args.target

pub returns : goal.returns
returns c = aim-view c.self.invariant c.args.slot.0 c.self.view_is c.requires c.args.target
