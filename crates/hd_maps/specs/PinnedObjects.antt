-- The objects that have pinned addresses: their cells, and their order.
use Rattle.std.specs.Prelude.{ℕ, Some, ◌≡◌, ◌<◌, ◌≢◌}
use Rattle.std.specs.FinMap.{FinMap, get}
use Rattle.std.specs.Ordering.{nat_cmp}
use Rattle.hd_model.specs.declared.data.Id.{Id}
use Rattle.hd_model.specs.State.{Object}
use Rattle.hd_model.specs.PinnedAddresses.{Range, range_at, Meet}
use Rattle.hd_maps.specs.StoredObjects.{object_in}

-- the cells of a range share none with those of an object that has a pinned address
abbrev pub IsApart : FinMap nat_cmp (Object Id) → FinMap nat_cmp ℕ → Range → Type 0
IsApart objects pinned range =
    (y : Id) (other : ℕ) → get pinned y.0 ≡ Some other
    → Meet range (range_at other (object_in objects y.0)) → ⊥

-- no two objects that have pinned addresses share a cell
abbrev pub AreApart : FinMap nat_cmp (Object Id) → FinMap nat_cmp ℕ → Type 0
AreApart objects pinned =
    (x y : Id) (first other : ℕ) → get pinned x.0 ≡ Some first → get pinned y.0 ≡ Some other → x ≢ y
    → Meet (range_at first (object_in objects x.0)) (range_at other (object_in objects y.0)) → ⊥

-- the address of an object is below that of another
abbrev pub IsBelow : FinMap nat_cmp ℕ → ℕ → ℕ → Type 0
IsBelow pinned x y = (p q : ℕ) → get pinned x ≡ Some p → get pinned y ≡ Some q → p < q
