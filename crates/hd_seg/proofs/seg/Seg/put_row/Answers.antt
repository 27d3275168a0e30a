use Rattle.hd_seg.proofs.Basics.{ROWS, arith, bit_or, get_or_read, set, ◌/◌, ◌∙◌}
use Rattle.hd_seg.proofs.RowVectors.{extras_back, seg_back, view_back}
use Rattle.hd_seg.proofs.RowCalls.{fits_handles, put-seg, put-view, put_high, put_live, put_low, put_mask, put_slot}
use Rattle.hd_seg.proofs.seg.Seg.put_row.Goals as goal

pub extra_index-index-requires-clause-low : goal.extra_index-index-requires-clause-low
extra_index-index-requires-clause-low c =
    put_low c.self.invariant c.args.slot.0 c.self.view_is c.requires.vacant _
    (fits_handles _ _ c.requires.fitting).0

pub extra_index-index-requires-clause-high : goal.extra_index-index-requires-clause-high
extra_index-index-requires-clause-high c =
    put_high c.self.invariant c.args.slot.0 c.self.view_is c.requires.vacant _
    (fits_handles _ _ c.requires.fitting).0

pub index_mut-requires : goal.index_mut-requires
index_mut-requires c =
    let known =
    put_slot c.self.invariant c.args.slot.0 c.self.view_is c.requires.vacant _
    (fits_handles _ _ c.requires.fitting).0 in
    omega (arith, known, c.self.inside.targets.ok.0)

pub index_mut-requires-2 : goal.index_mut-requires-2
index_mut-requires-2 c =
    let known =
    put_mask c.self.invariant c.args.slot.0 c.self.view_is c.requires.vacant _
    (fits_handles _ _ c.requires.fitting).0 in
    omega (arith, known, c.self.inside.masks.ok.0)

pub overflow_add-self : goal.overflow_add-self
overflow_add-self c =
    let known =
    put_live c.self.invariant c.args.slot.0 c.self.view_is c.requires.vacant _
    (fits_handles _ _ c.requires.fitting).0 in
    omega (arith, known)

pub invariant_of-self : goal.invariant_of-self
invariant_of-self c =
    seg_back (extras_back _ _ c.write_extra.ensures c.deref_mut.ensures.value c.extra_index-index.ensures
    c.self.inside.extras.ok.0)
    (put-seg c.self.invariant c.args.slot.0 c.self.view_is c.requires.vacant _
    (fits_handles _ _ c.requires.fitting).0 c.args.row (fits_handles _ _ c.requires.fitting).1
    c.index_mut-2.result.now c.bit.result
    (get_or_read c.self.inside.masks.items (c.args.slot.0 / ROWS) c.index_mut-2.result.now
    (put_mask c.self.invariant c.args.slot.0 c.self.view_is c.requires.vacant _
    (fits_handles _ _ c.requires.fitting).0) c.index_mut-2.ensures.value 0)
    c.bit.ensures.value)

pub returns : goal.returns
returns c =
    view_back c.self.inside.blocks (set c.self.inside.targets.items c.args.slot.0 c.args.row.target)
    (set c.self.inside.masks.items (c.args.slot.0 / ROWS) (bit_or c.index_mut-2.result.now c.bit.result))
    (extras_back _ _ c.write_extra.ensures c.deref_mut.ensures.value c.extra_index-index.ensures
    c.self.inside.extras.ok.0)
    ∙ put-view c.self.invariant c.args.slot.0 c.self.view_is c.requires.vacant _
    (fits_handles _ _ c.requires.fitting).0 c.args.row (fits_handles _ _ c.requires.fitting).1
    c.index_mut-2.result.now c.bit.result
    (get_or_read c.self.inside.masks.items (c.args.slot.0 / ROWS) c.index_mut-2.result.now
    (put_mask c.self.invariant c.args.slot.0 c.self.view_is c.requires.vacant _
    (fits_handles _ _ c.requires.fitting).0) c.index_mut-2.ensures.value 0)
    c.bit.ensures.value
