use Rattle.std.proofs.Common.{ap, arith, subst, sym, ◌<◌, ◌^◌, ◌∙◌}
use Rattle.hd_model.specs.declared.limits.TheConstants.{OLDEST}
use Rattle.hd_maps.specs.StoredObjects.{IsYoungest, cells_of}
use Rattle.hd_maps.proofs.ObjectCells.{cells-empty, youngest-none}
use Rattle.hd_maps.proofs.store.Objects.open.Goals as goal

pub invariant_of-result : goal.invariant_of-result
invariant_of-result c =
    let none = ap cells_of c.new-stored.ensures ∙ cells-empty in (
      record { count = sym none; low = subst (λ n. n < 2 ^ 32) (sym none) (omega arith) },
      subst (λ m. IsYoungest OLDEST m) (sym c.new-stored.ensures) youngest-none,
    )
