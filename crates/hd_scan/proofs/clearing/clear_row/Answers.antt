use Rattle.hd_scan.proofs.Basics.{Addr, Handle, Row, ap, is_lost, live_at, put_row, rules, takes, true, ◌&&◌, ◌≡◌}
use Rattle.hd_scan.proofs.HandleClear.{swept_lost}
use Rattle.hd_scan.proofs.clearing.clear_row.Goals.{then-takes_row, else-takes_row}
use Rattle.hd_scan.proofs.clearing.clear_row.Goals as goal

pub returns-then-lost-clause-row : goal.returns-then-lost-clause-row
returns-then-lost-clause-row g c =
    let h : Handle Addr = live_at c.args.seg.now c.args.slot.0 in
    let taken : c.takes_row.result ≡ takes c.args.task h =
    c.takes_row.ensures h c.requires.of_kind c.row_by-row.ensures.value in
    let target : c.row_by-row.result.target ≡ h.target =
    ap (λ (r : Row). r.target) c.row_by-row.ensures.value in
    let lost : (takes c.args.task h && is_lost (g.M.Marker.promoted c.args.marker.now) h.target) ≡ true =
    search (rules, taken, target) in
    put_row c.args.seg.now c.args.slot.0 _ _ c.set_row.new.self c.set_row.ensures
    (swept_lost c.args.task (g.M.Marker.promoted c.args.marker.now) h lost)
