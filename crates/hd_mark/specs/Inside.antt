-- What private clauses alone cite.
use Rattle.std.specs.Prelude.{if◌then◌else◌, ◌≡◌, ◌≢◌, ◌⊎◌, true, List, ◌∷◌, ◌++◌, fold, length, take, drop, Contains, AllPairs, Option, Some, None, ℕ, ◌+◌, ◌*◌, ◌<◌, ◌≤◌, not, filter, slice_index, is_some, option_map}
use Rattle.std.specs.{FinSet.FinSet, FinSet.contains, Ordering.nat_cmp}
use Rattle.hd_model.specs.{declared.data.Addr.Addr, Leads.Grows, Names.HasClosedFields, Counting.Counts, declared.limits.TheConstants.REGION, declared.limits.TheConstants.REGIONS}
use Rattle.hd_model.specs.Scene.{IsField, IsCondemned, IsYoungField}
use Rattle.hd_model.specs.Heap.{objects_of, Heap, Basis, region_of, offset_of, has_object}
use Rattle.hd_heap.specs.Calls.{is_condemned}
use Rattle.hd_mark.specs.Marks.{MarksOf, is_older, IsSettledMarks, log_of, pinned_in, promoted_in, pushed}
use Rattle.hd_mark.specs.{declared.bits.TheConstants.WORDS, declared.indexes.Indexes.Indexes}
use Rattle.hd_mark.specs.Fields.{index_of, set_of, seen}
use Rattle.std.specs.FinSet as set

-- an object is pinned, unless it is older
abbrev pub pinned_also : MarksOf → Addr → MarksOf
pinned_also m a = if is_older m.basis a then m else (record m { pins = set.insert m.pins a.0 })

-- ---- how marks grow by the steps of a drain

-- what a field references is pushed
abbrev pub pushed_field : MarksOf → Option Addr → MarksOf
pushed_field m None = m
pushed_field m (Some y) = pushed m y

-- what the fields of an object reference is pushed, in their order
abbrev pub scanned : MarksOf → List (Option Addr) → MarksOf
scanned m fields = fold pushed_field m fields

-- a list has what is marked, each once
pub record IsLog (marks : FinSet nat_cmp) (log : List Addr) : Type 0 where
  pub apart : AllPairs (λ x y. x ≢ y) log
  pub each : (x : Addr) → Contains log x → contains marks x.0 ≡ true
  pub all : (x : Addr) → contains marks x.0 ≡ true → Contains log x

-- what is marked is condemned and in the log, and is to be scanned or was: its fields reference promoted
-- objects alone
pub record IsTraced (m : MarksOf) : Type 0 where
  pub fields : HasClosedFields (objects_of m.basis)
  pub marked : (x : Addr) → contains m.marks x.0 ≡ true → IsCondemned (objects_of m.basis) m.basis.condemned x
  pub log : IsLog m.marks (log_of m)
  pub scanned : (x : Addr) → contains m.marks x.0 ≡ true
      → Contains m.unscanned x ⊎ ((y : Addr) → IsField (objects_of m.basis) x y → promoted_in m y ≡ true)

-- the fields of the next object to scan reference promoted objects alone
pub record IsNextDone (m : MarksOf) : Type 0 where
  pub next : Addr
  pub rest : List Addr
  pub unscanned_is : m.unscanned ≡ next ∷ rest
  pub done : (y : Addr) → IsField (objects_of m.basis) next y → promoted_in m y ≡ true

-- it counts as scanned
abbrev pub advanced : MarksOf → MarksOf
advanced m =
    record m { scanned = m.scanned ++ take 1 m.unscanned; unscanned = drop 1 m.unscanned }

-- an object is promoted, with what it leads to, and nothing is left to scan
pub record Marked (a : Addr) (old new : MarksOf) : Type 0 where
  pub settled : IsSettledMarks new
  pub basis : new.basis ≡ old.basis
  pub grows : Grows (IsYoungField (objects_of old.basis) old.basis.condemned) (λ x. x ≡ a) (promoted_in old)
      (promoted_in new)
  pub pinned : pinned_in new ≡ pinned_in old
  pub log : take (length (log_of old)) (log_of new) ≡ log_of old

-- ---- how marks and pins are stored in bits, and what is always true
-- of the fields of marks.

-- the index of a region among the condemned ones, if it is one
abbrev pub index_at : List ℕ → ℕ → Option ℕ
index_at indexes r = index_of (slice_index indexes r)

-- the number of the bit of an address, if its region has an index
abbrev pub bit_of : List ℕ → Addr → Option ℕ
bit_of indexes a = option_map (λ p. p * REGION + offset_of a) (index_at indexes (region_of a))

-- indices are below the number of condemned regions, and no two regions share one
pub record IsTable (indexes : List ℕ) (regions : ℕ) : Type 0 where
  pub few : regions ≤ REGIONS
  pub within : (r p : ℕ) → index_at indexes r ≡ Some p → p < regions
  pub apart : (r s p : ℕ) → index_at indexes r ≡ Some p → index_at indexes s ≡ Some p → r ≡ s

-- each region of an object is in the table; those of condemned objects have an index, those of older ones
-- have none
pub record HasIndexes (h : Heap) (n : ℕ) (p : Indexes) : Type 0 where
  pub table : IsTable p.indexes.items p.regions
  pub covers : (a : Addr) → has_object h a ≡ true
      → is_some (index_at p.indexes.items (region_of a)) ≡ is_condemned h n a
  pub span : (a : Addr) → has_object h a ≡ true → region_of a < length p.indexes.items

-- how many of these addresses are not in a set
abbrev pub left : FinSet nat_cmp → List Addr → ℕ
left s members = length (filter (λ a. not (contains s a.0)) members)

-- each condemned object has a mark bit and a pin bit, the log has room for those that are not marked, and
-- what was scanned names promoted objects alone
pub record AreMarks (b : Basis) (p : Indexes) (marks pins : List ℕ) (log : List Addr) (next room : ℕ) : Type 0
  where
    pub indexes : HasIndexes b.heap b.condemned p
    pub marks_long : length marks ≡ WORDS * p.regions
    pub pins_long : length pins ≡ WORDS * p.regions
    pub number : ℕ
    pub condemned : Counts (λ a. is_condemned b.heap b.condemned a ≡ true) number
    pub room_left : length log + left (set_of p.indexes.items marks) condemned.members ≤ room
    pub within : next ≤ length log
    pub traced : IsTraced (seen b p.indexes.items marks pins log next)
