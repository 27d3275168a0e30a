use Rattle.std.proofs.Common.{ap, subst, sym, ℕ, ◌∙◌}
use Rattle.std.specs.FinMap as map
use Rattle.std.specs.FinMap.{FinMap}
use Rattle.std.specs.Ordering.{nat_cmp}
use Rattle.hd_maps.specs.Inside.{AreInverse}
use Rattle.hd_maps.proofs.PinnedMaps.{absent_inverse, take_inverse}
use Rattle.hd_maps.proofs.pinned_addresses.PinnedAddresses.take.Goals as goal

pub invariant_of-self : goal.invariant_of-self
invariant_of-self c =
    let m = c.self.inside.by_id in
    let n = c.self.inside.by_address in
    subst (λ (z : FinMap nat_cmp ℕ). AreInverse z c.remove-in-Some.new.self) (sym c.remove.ensures.0)
    (subst (λ (z : FinMap nat_cmp ℕ). AreInverse (map.remove m c.args.id) z)
    (sym (c.remove-in-Some.ensures.0 ∙ ap (λ k. map.remove n k) c.from.ensures))
    (take_inverse m n c.self.invariant c.args.id c.in-Some.address (sym c.remove.ensures.1 ∙ c.in-Some.is)))

pub invariant_of-self-in_default : goal.invariant_of-self-in_default
invariant_of-self-in_default c =
    subst (λ (z : FinMap nat_cmp ℕ). AreInverse z c.self.inside.by_address) (sym c.remove.ensures.0)
    (absent_inverse c.self.inside.by_id c.self.inside.by_address c.self.invariant c.args.id 0
    (sym c.remove.ensures.1 ∙ c.in_default.is))
