-- A walk over the objects of one region.
use Rattle.std.specs.Prelude.{ℕ, ◌+◌, ◌*◌, ◌-◌, refl}
use Rattle.std.specs.Coded.{Coded, code_by, coded×, coded_ℕ}
use Rattle.hd_model.specs.declared.limits.TheConstants.{HEADER, REGION}
use Rattle.hd_model.specs.Heap.{Heap}
use Rattle.hd_model.specs.Code.{heap_code}
use Rattle.hd_heap.specs.declared.condemned.ObjectHeader.{ObjectHeader}

-- the heap, the region, and how far the walk has come, in cells from the start of the region
pub record WalkOf : Type 0 where
  pub heap : Heap
  pub region : ℕ
  pub end : ℕ

abbrev pub walk_code : Coded WalkOf
walk_code =
    code_by (Heap × (ℕ × ℕ)) (coded× heap_code (coded× coded_ℕ coded_ℕ)) (λ w. (w.heap, (w.region, w.end)))
    (λ p. record { heap = p.0; region = p.1.0; end = p.1.1 }) (λ _. refl)

-- where an object ends in its region
abbrev pub end_in : ℕ → ObjectHeader → ℕ
end_in region o = o.at.0 - region * REGION + o.fields + HEADER
