use Rattle.hd_seg.proofs.Basics.{ROWS, arith, get_or_read, ◌/◌}
use Rattle.hd_seg.proofs.RowCalls.{plain-seg, plain-view, put_live, put_mask, put_slot}
use Rattle.hd_seg.proofs.BlockChange.{single_in}
use Rattle.hd_seg.proofs.seg.Seg.put_plain_row.Goals as goal

pub index_mut-requires : goal.index_mut-requires
index_mut-requires c =
    let known =
    put_slot c.self.invariant c.args.slot.0 c.self.view_is c.requires.vacant _
    (single_in _ c.requires.single).0 in
    omega (arith, known, c.self.inside.targets.ok.0)

pub index_mut-requires-2 : goal.index_mut-requires-2
index_mut-requires-2 c =
    let known =
    put_mask c.self.invariant c.args.slot.0 c.self.view_is c.requires.vacant _
    (single_in _ c.requires.single).0 in
    omega (arith, known, c.self.inside.masks.ok.0)

pub overflow_add-self : goal.overflow_add-self
overflow_add-self c =
    let known =
    put_live c.self.invariant c.args.slot.0 c.self.view_is c.requires.vacant _
    (single_in _ c.requires.single).0 in
    omega (arith, known)

pub invariant_of-self : goal.invariant_of-self
invariant_of-self c =
    plain-seg c.self.invariant c.args.slot.0 c.self.view_is c.requires.vacant _
    (single_in _ c.requires.single).0 (single_in _ c.requires.single).1 c.args.target
    c.index_mut-2.result.now c.bit.result
    (get_or_read c.self.inside.masks.items (c.args.slot.0 / ROWS) c.index_mut-2.result.now
    (put_mask c.self.invariant c.args.slot.0 c.self.view_is c.requires.vacant _
    (single_in _ c.requires.single).0) c.index_mut-2.ensures.value 0)
    c.bit.ensures.value

pub returns : goal.returns
returns c =
    plain-view c.self.invariant c.args.slot.0 c.self.view_is c.requires.vacant _
    (single_in _ c.requires.single).0 (single_in _ c.requires.single).1 c.args.target
    c.index_mut-2.result.now c.bit.result
    (get_or_read c.self.inside.masks.items (c.args.slot.0 / ROWS) c.index_mut-2.result.now
    (put_mask c.self.invariant c.args.slot.0 c.self.view_is c.requires.vacant _
    (single_in _ c.requires.single).0) c.index_mut-2.ensures.value 0)
    c.bit.ensures.value
