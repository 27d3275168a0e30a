use Rattle.hd_seg.proofs.Basics.{Addr, Handle, Table, ap, is_some, refl}
use Rattle.hd_seg.proofs.RowRewrite.{put_row, again, live_after}
use Rattle.hd_seg.proofs.change.rewrite_row.Goals as goal

pub set_row-requires : goal.set_row-requires
set_row-requires c =
    ap is_some (put_row c.args.seg.now c.args.slot.0 _ _ c.set_extra.new.self c.set_extra.ensures refl).at

pub returns : goal.returns
returns c =
    let t : Table = c.args.seg.now in
    let written = put_row t c.args.slot.0 _ _ c.set_extra.new.self c.set_extra.ensures refl in
    again t c.args.slot.0 c.set_extra.new.self c.set_row.new.self _ _ written
    (put_row c.set_extra.new.self c.args.slot.0 _ _ c.set_row.new.self c.set_row.ensures
    (ap (λ (q : Handle Addr). record q { target = c.args.row.target })
    (live_after t c.args.slot.0 _ _ written)))
