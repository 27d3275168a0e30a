use Rattle.hd_scan.proofs.Basics.{Addr, Handle, None, Rewrites, Row, Some, Table, ap, extra_again, extra_of, fits_secondary, live_at, live_row, option_map, put_row, refl, rename_extra, row_of, subst, sym, ℕ, ⊎_elim, ◌∙◌, ◌≡◌}
use Rattle.hd_model.specs.declared.data.Strength.{Strength}
use Rattle.hd_scan.proofs.HandleRelocate.{handle_moved, extra_stays, same_row}
use Rattle.hd_model.specs.State as state
use Rattle.hd_model.specs.declared.handle.Extra.TheVariants as extra
use Rattle.hd_scan.proofs.relocation.relocate_row.Given.{Over}
use Rattle.hd_scan.proofs.relocation.relocate_row.Goals.{In-Nothing}
use Rattle.hd_scan.proofs.relocation.relocate_row.Goals as goal

pub rewrite_row-requires-clause-fitting : goal.rewrite_row-requires-clause-fitting
rewrite_row-requires-clause-fitting g c =
    let t : Table = c.args.seg.now in
    let h : Handle Addr = live_at t c.args.slot.0 in
    let was_stored : c.row_by-row.result ≡ row_of h = c.row_by-row.ensures.value in
    fits_secondary h.kind h.extra c.in-Secondary.secondary c.moved_name.result
    (sym (extra_again h.extra) ∙ ap (λ (r : Row). extra_of r.extra) (sym was_stored)
    ∙ ap extra_of c.in-Secondary.is)
    (c.row_by-row.ensures.table.rows c.args.slot.0 h (live_row t c.args.slot.0 c.requires.live)).fits

pub returns-in-Secondary : goal.returns-in-Secondary
returns-in-Secondary g c =
    let t : Table = c.args.seg.now in
    let h : Handle Addr = live_at t c.args.slot.0 in
    let forwarding : Addr → Addr = g.F.Forward.forwarding c.args.forward.now in
    let was_stored : c.row_by-row.result ≡ row_of h = c.row_by-row.ensures.value in
    let is : h.extra ≡ state.secondary c.in-Secondary.secondary =
    sym (extra_again h.extra) ∙ ap (λ (r : Row). extra_of r.extra) (sym was_stored)
    ∙ ap extra_of c.in-Secondary.is in
    subst (λ (q : Handle Addr). Rewrites c.args.slot.0 q t c.rewrite_row.new.seg)
    (handle_moved forwarding h c.moved_name-target.result (state.secondary c.moved_name.result)
    (c.moved_name-target.ensures ∙ ap (λ (r : Row). option_map forwarding r.target) was_stored)
    (ap (λ o. let e : state.Extra Addr = state.secondary o in e) c.moved_name.ensures
    ∙ sym (ap (rename_extra forwarding) is)))
    c.rewrite_row.ensures

-- an extra without a secondary stays as it is
stays : (g : Over) (c : In-Nothing g) → (live_at c.args.seg.now c.args.slot.0).extra
    ≡ rename_extra (g.F.Forward.forwarding c.args.forward.now) (live_at c.args.seg.now c.args.slot.0).extra
stays g c =
    let h : Handle Addr = live_at c.args.seg.now c.args.slot.0 in
    let forwarding : Addr → Addr = g.F.Forward.forwarding c.args.forward.now in
    let row : Row = c.row_by-row.result in
    let held : h.extra ≡ extra_of row.extra =
    sym (extra_again h.extra) ∙ ap (λ (r : Row). extra_of r.extra) (sym c.row_by-row.ensures.value) in
    ⊎_elim (λ e. extra_stays forwarding h.extra state.nothing (held ∙ ap extra_of e) refl)
    (λ rest. ⊎_elim
    (λ (s : (x : Strength) × (row.extra ≡ extra.Strength x)).
    extra_stays forwarding h.extra (state.strength s.0) (held ∙ ap extra_of s.1) refl)
    (λ (s : (x : ℕ) × (row.extra ≡ extra.Count x)).
    extra_stays forwarding h.extra (state.count s.0) (held ∙ ap extra_of s.1) refl)
    rest)
    c.in-Nothing.is

pub returns-in-Some : goal.returns-in-Some
returns-in-Some g c =
    let t : Table = c.args.seg.now in
    let h : Handle Addr = live_at t c.args.slot.0 in
    let forwarding : Addr → Addr = g.F.Forward.forwarding c.args.forward.now in
    put_row t c.args.slot.0 _ _ c.retarget.new.self c.retarget.ensures
    (handle_moved forwarding h (Some c.moved.result) h.extra
    (ap (λ x. Some x) c.moved.ensures ∙ sym (ap (option_map forwarding) c.in-Some.is)
    ∙ ap (λ (r : Row). option_map forwarding r.target) c.row_by-row.ensures.value)
    (stays g (goal.at.returns-in-Some g c).In-Nothing))

pub returns-in_default : goal.returns-in_default
returns-in_default g c =
    let t : Table = c.args.seg.now in
    let h : Handle Addr = live_at t c.args.slot.0 in
    let forwarding : Addr → Addr = g.F.Forward.forwarding c.args.forward.now in
    let none : h.target ≡ None = ap (λ (r : Row). r.target) (sym c.row_by-row.ensures.value) ∙ c.in_default.is in
    same_row t c.args.slot.0 _
    (live_row t c.args.slot.0 c.requires.live
    ∙ ap (λ q. Some q) (handle_moved forwarding h h.target h.extra
    (none ∙ sym (ap (option_map forwarding) none)) (stays g (goal.at.returns-in_default g c).In-Nothing)))
