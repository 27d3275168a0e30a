-- A set of marked objects, and those of them whose edges are still to be followed.
use Rattle.std.specs.Prelude.{ℕ, List, refl}
use Rattle.std.specs.Coded.{Coded, code_by, coded×, coded_ℕ, coded_list}
use base.Stored.{coded_unit}
use Rattle.std.specs.FinMap as map
use Rattle.std.specs.FinMap.{FinMap}
use Rattle.std.specs.Ordering.{nat_cmp}

pub record Marked : Type 0 where
  pub marked : FinMap nat_cmp (Unit {0})
  pub left : List ℕ

abbrev pub marked_code : Coded Marked
marked_code = code_by (FinMap nat_cmp (Unit {0}) × List ℕ)
    (coded× (map.code coded_ℕ coded_unit) (coded_list coded_ℕ))
    (λ m. (m.marked, m.left)) (λ p. record { marked = p.0; left = p.1 }) (λ _. refl)
