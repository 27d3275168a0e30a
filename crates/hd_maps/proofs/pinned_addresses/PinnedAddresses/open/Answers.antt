use Rattle.std.proofs.Common.{subst, sym, ℕ}
use Rattle.std.specs.FinMap.{FinMap, empty}
use Rattle.std.specs.Ordering.{nat_cmp}
use Rattle.hd_maps.specs.Inside.{AreInverse}
use Rattle.hd_maps.proofs.PinnedMaps.{none_inverse}
use Rattle.hd_maps.proofs.pinned_addresses.PinnedAddresses.open.Goals as goal

pub invariant_of-result : goal.invariant_of-result
invariant_of-result c =
    subst (λ (m : FinMap nat_cmp ℕ). AreInverse m c.new-2.result) (sym c.new.ensures)
    (subst (λ (n : FinMap nat_cmp ℕ). AreInverse empty n) (sym c.new-2.ensures) none_inverse)
