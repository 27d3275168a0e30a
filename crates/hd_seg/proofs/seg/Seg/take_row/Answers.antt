use Rattle.hd_seg.proofs.Basics.{ROWS, arith, get_or_read, ◌/◌}
use Rattle.hd_seg.proofs.RowCalls.{live_mask, take-seg, take-view, take_live}
use Rattle.hd_seg.proofs.seg.Seg.take_row.Goals as goal

pub index_mut-requires : goal.index_mut-requires
index_mut-requires c =
    let known = live_mask c.self.invariant c.args.slot.0 c.self.view_is c.requires in
    omega (arith, known, c.self.inside.masks.ok.0)

pub overflow_sub-self : goal.overflow_sub-self
overflow_sub-self c = omega (arith, take_live c.self.invariant c.args.slot.0 c.self.view_is c.requires)

pub invariant_of-self : goal.invariant_of-self
invariant_of-self c =
    take-seg c.self.invariant c.args.slot.0 c.self.view_is c.requires c.index_mut.result.now c.bit.result
    (get_or_read c.self.inside.masks.items (c.args.slot.0 / ROWS) c.index_mut.result.now
    (live_mask c.self.invariant c.args.slot.0 c.self.view_is c.requires) c.index_mut.ensures.value 0)
    c.bit.ensures.value

pub returns : goal.returns
returns c =
    take-view c.self.invariant c.args.slot.0 c.self.view_is c.requires c.index_mut.result.now c.bit.result
    (get_or_read c.self.inside.masks.items (c.args.slot.0 / ROWS) c.index_mut.result.now
    (live_mask c.self.invariant c.args.slot.0 c.self.view_is c.requires) c.index_mut.ensures.value 0)
    c.bit.ensures.value
