-- A region as its callers see it: its objects by their offsets, and its allocation pointer.
use Rattle.std.specs.Prelude.{◌≢◌, ℕ, ◌+◌, ◌^◌, ◌<◌, ◌≤◌, List, length, IsTrue, All, Option, MatchOption, unwrap_or, refl}
use Rattle.std.specs.Ordering.{nat_cmp}
use Rattle.std.specs.FinMap as map
use Rattle.std.specs.Coded.{Coded, code_by, coded×, coded_ℕ}
use Rattle.hd_cells.specs.declared.cells.TheConstants.{CELLS, FIELDS}
use Rattle.hd_cells.specs.Object.{Object, object_code, no_object, size_of}

-- the objects by offset, and the first cell after the last object put
pub record Contents : Type 0 where
  pub objects : map.FinMap nat_cmp Object
  pub fill : ℕ

-- the contents are stored as the pair of the map and the allocation pointer
abbrev pub contents_code : Coded Contents
contents_code =
    code_by (map.FinMap nat_cmp Object × ℕ) (coded× (map.code coded_ℕ object_code) coded_ℕ)
    (λ r. (r.objects, r.fill)) (λ p. record { objects = p.0; fill = p.1 }) (λ _. refl)

-- a region in which nothing was put
abbrev pub empty_region : Contents
empty_region = record { objects = map.empty; fill = 0 }

-- an object begins at this offset
abbrev pub IsObject : Contents → ℕ → Type 0
IsObject r at = IsTrue (map.contains_key r.objects at)

-- the object that begins at this offset
abbrev pub object_at : Contents → ℕ → Object
object_at r at = unwrap_or (map.get r.objects at) no_object

-- its fields
abbrev pub fields_at : Contents → ℕ → List ℕ
fields_at r at = (object_at r at).fields

-- the region with another object at this offset, and all else as it was
abbrev pub with_object : Contents → ℕ → Object → Contents
with_object r at o = record r { objects = map.insert r.objects at o }

-- the region with an object put after all others
abbrev pub with_put : Contents → Object → Contents
with_put r o = record { objects = map.insert r.objects r.fill o; fill = r.fill + size_of o }

-- the region with no object at this offset, and all else as it was
abbrev pub without_object : Contents → ℕ → Contents
without_object r at = record r { objects = map.remove r.objects at }

-- the offset of the first object at or after `from`, or None where there is none
abbrev pub IsFirstFrom : Contents → ℕ → Option ℕ → Type 0
IsFirstFrom r from answer = MatchOption answer
    ((q : ℕ) → from ≤ q → ¬ (IsObject r q))
    (λ at. (from ≤ at) × IsObject r at × ((q : ℕ) → from ≤ q → q < at → ¬ (IsObject r q)))

-- an object of a region: it has an identity and at most 61 fields, and each of these is null or
-- an address, which is below 2 ^ 32
pub record IsWellFormed (o : Object) : Type 0 where
  pub identified : o.identity ≢ 0
  pub few_fields : length o.fields ≤ FIELDS
  pub addresses : All (λ f. f < 2 ^ 32) o.fields

-- objects are below the allocation pointer, one after another, and it is at most a region's cells
pub record IsLaidOut (r : Contents) : Type 0 where
  pub within_region : r.fill ≤ CELLS
  pub well_formed : (at : ℕ) → IsObject r at → IsWellFormed (object_at r at)
  pub below_fill : (at : ℕ) → IsObject r at → at + size_of (object_at r at) ≤ r.fill
  pub apart : (a b : ℕ) → IsObject r a → IsObject r b → a < b → a + size_of (object_at r a) ≤ b
