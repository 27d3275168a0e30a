use Rattle.std.proofs.Common.{ap, subst, sym, ℕ, ◌∙◌}
use Rattle.std.specs.FinMap as map
use Rattle.std.specs.FinMap.{FinMap, get}
use Rattle.std.specs.Ordering.{nat_cmp}
use Rattle.hd_maps.specs.Inside.{AreInverse}
use Rattle.hd_maps.proofs.PinnedMaps.{put_and_taken, put_inverse}
use Rattle.hd_maps.proofs.pinned_addresses.PinnedAddresses.put.Goals as goal

pub invariant_of-self-in-Ok : goal.invariant_of-self-in-Ok
invariant_of-self-in-Ok c =
    let m = c.self.inside.by_id in
    let n = c.self.inside.by_address in
    let id = c.args.id.0 in
    subst (λ (z : FinMap nat_cmp ℕ). AreInverse z c.insert-2.new.self) (sym c.in_ok-insert.ensures)
    (subst (λ (z : FinMap nat_cmp ℕ). AreInverse (map.insert m id c.args.address) z)
    (sym (c.in-Ok.ensures ∙ ap (λ k. map.insert n k id) c.from.ensures))
    (put_inverse m n c.self.invariant id c.args.address
    (ap (λ (z : FinMap nat_cmp ℕ). get z id) c.self.view_is ∙ c.requires.none)
    (λ y e. c.requires.free y (ap (λ (z : FinMap nat_cmp ℕ). get z y) (sym c.self.view_is) ∙ e))))

pub invariant_of-self-in-Err : goal.invariant_of-self-in-Err
invariant_of-self-in-Err c =
    let m = c.self.inside.by_id in
    let id = c.args.id.0 in
    let none = ap (λ (z : FinMap nat_cmp ℕ). get z id) c.self.view_is ∙ c.requires.none in
    subst (λ (z : FinMap nat_cmp ℕ). AreInverse z c.insert-2.new.self)
    (sym (c.remove.ensures.0 ∙ ap (λ (z : FinMap nat_cmp ℕ). map.remove z id) c.in_ok-insert.ensures
    ∙ put_and_taken m id c.args.address none))
    (subst (λ (z : FinMap nat_cmp ℕ). AreInverse m z) (sym c.in-Err.ensures) c.self.invariant)

pub returns-in-Err : goal.returns-in-Err
returns-in-Err c =
    let id = c.args.id.0 in
    c.remove.ensures.0 ∙ ap (λ (z : FinMap nat_cmp ℕ). map.remove z id) c.in_ok-insert.ensures
    ∙ put_and_taken c.self.inside.by_id id c.args.address
    (ap (λ (z : FinMap nat_cmp ℕ). get z id) c.self.view_is ∙ c.requires.none) ∙ c.self.view_is
