-- What private clauses alone cite.
use Rattle.std.specs.Prelude.{◌≡◌, ◌≢◌, ℕ, ◌+◌, ◌*◌, ◌/◌, ◌%◌, ◌^◌, ◌<◌, ◌≤◌, ◌==◌, nat_le, List, [], ◌∷◌, length, slice_index, Option, Some, None, MatchOption}
use Rattle.std.specs.Ordering.{nat_cmp}
use Rattle.hd_cells.specs.declared.cells.TheConstants.{CELLS, FIELDS, HEADER, SHAPE, VALUE, REGISTERED}
use Rattle.hd_cells.specs.{Object.Object, Region.Contents}
use Rattle.hd_cells.specs.Cells.{cell, count_at, object_in, extent_at, objects_of, contents_of}
use Rattle.std.specs.FinMap as map

-- an object is at `at`; the limit of its fields is this project's own
pub record IsBody (cells : List ℕ) (at : ℕ) : Type 0 where
  pub identified : cell cells at ≢ 0
  pub shaped : cell cells (at + SHAPE) < 2 * REGISTERED
  pub few_fields : count_at cells at ≤ FIELDS
  pub addresses : (i : ℕ) → i < count_at cells at → cell cells (at + HEADER + i) < 2 ^ 32

-- a gap is at `at`
pub record IsGap (cells : List ℕ) (at : ℕ) : Type 0 where
  pub unnamed : cell cells at ≡ 0
  pub long : HEADER ≤ cell cells (at + SHAPE)

-- objects and gaps follow one another from an offset up to `stop`, and these are the objects
pub data IsTiled (cells : List ℕ) (stop : ℕ) : ℕ → List (ℕ × Object) → Type 0 where
  ended : IsTiled cells stop stop []
  gap : {at : ℕ} {os : List (ℕ × Object)} → IsGap cells at → IsTiled cells stop (at + extent_at cells at) os
      → IsTiled cells stop at os
  body : {at : ℕ} {os : List (ℕ × Object)} → IsBody cells at → IsTiled cells stop (at + extent_at cells at) os
      → IsTiled cells stop at ((at, object_in cells at) ∷ os)

-- the allocation pointer and objects of a region with these cells; nothing is said of the cells from the
-- pointer on
pub record IsLaid (cells : List ℕ) (fill : ℕ) (os : List (ℕ × Object)) : Type 0 where
  pub tiled : IsTiled cells fill 0 os
  pub within : fill ≤ CELLS

-- these are the cells and the allocation pointer of a region
abbrev pub IsRegion : List ℕ → ℕ → Type 0
IsRegion cells fill = IsLaid cells fill (objects_of cells fill)

-- where objects begin: an object takes three cells or more, so at most one begins among cells 3 k to 3 k + 2,
-- and entry k is its offset (an object-start map, as other collectors have)
abbrev pub IsIndexed : List ℕ → Contents → Type 0
IsIndexed starts r = (q : ℕ) → q + HEADER ≤ CELLS
    → (slice_index starts (q / HEADER) == q) ≡ map.contains_key r.objects q

-- above the allocation pointer, the cells from `stale` on are 0
pub record IsCleared (cells : List ℕ) (fill stale : ℕ) : Type 0 where
  pub within : stale ≤ CELLS
  pub nulls : (k : ℕ) → fill ≤ k → stale ≤ k → k < CELLS → cell cells k ≡ 0

-- what is always true of a region
pub record IsWhole (cells : List ℕ) (fill : ℕ) (starts : List ℕ) (stale : ℕ) : Type 0 where
  pub region : IsRegion cells fill
  pub indexed : IsIndexed starts (contents_of cells fill)
  pub cleared : IsCleared cells fill stale

-- an object or a gap begins at this offset, or nothing was put from it on; and each object at or after `from`
-- is in the rest from there on
pub record IsReached (cells : List ℕ) (fill from at : ℕ) : Type 0 where
  pub rest : List (ℕ × Object)
  pub tiled : IsTiled cells fill at rest
  pub skipped : (q : ℕ) → from ≤ q → map.find nat_cmp q (objects_of cells fill) ≡ map.find nat_cmp q rest

-- the first object of the cells at or after `from`
abbrev pub IsFirstIn : List ℕ → (fill from : ℕ) → Option ℕ → Type 0
IsFirstIn cells fill from answer = MatchOption answer
    ((q : ℕ) → from ≤ q → map.find nat_cmp q (objects_of cells fill) ≡ None)
    (λ at. (from ≤ at) × (map.find nat_cmp at (objects_of cells fill) ≡ Some (object_in cells at))
    × ((q : ℕ) → from ≤ q → q < at → map.find nat_cmp q (objects_of cells fill) ≡ None))

-- these cells begin with an object, as it was put or written
pub record HoldsObject (cells : List ℕ) (o : Object) : Type 0 where
  pub long : length o.fields + HEADER ≤ length cells
  pub identity : cell cells 0 ≡ o.identity
  pub identified : o.identity ≢ 0
  pub shaped : cell cells SHAPE < 2 * REGISTERED
  pub count : cell cells SHAPE % REGISTERED ≡ length o.fields
  pub few_fields : length o.fields ≤ FIELDS
  pub registered : nat_le REGISTERED (cell cells SHAPE) ≡ o.registered
  pub value : cell cells VALUE ≡ o.value
  pub field : (i : ℕ) → i < length o.fields → cell cells (HEADER + i) ≡ slice_index o.fields i
  pub addresses : (i : ℕ) → i < length o.fields → cell cells (HEADER + i) < 2 ^ 32
