-- What private clauses alone cite.
use Rattle.std.specs.Prelude.{ℕ, Option, Some, ◌≡◌, None, ◌+◌, ◌<◌, ◌≤◌, ◌^◌, IsSome}
use Rattle.std.specs.FinMap.{FinMap, get}
use Rattle.std.specs.Ordering.{nat_cmp}
use Rattle.hd_model.specs.declared.data.Id.{Id}
use Rattle.hd_model.specs.State.{WeakEntry, Object, size_of}
use Rattle.hd_model.specs.declared.limits.TheConstants.{BLOCKS}
use Rattle.hd_maps.specs.declared.data.WeakEntry.{WeakEntry as Pair}
use Rattle.hd_maps.specs.declared.data.BlockUse.{BlockUse as Use}
use Rattle.hd_maps.specs.Fields.{held_as}
use Rattle.hd_maps.specs.TableViews.{Row, slots_of}
use Rattle.hd_maps.specs.StoredObjects.{object_in, cells_of}

-- the cells of all objects are counted, and fit 32 bits
pub record IsCounted (used : ℕ) (objects : FinMap nat_cmp (Object Id)) : Type 0 where
  pub count : used ≡ cells_of objects
  pub low : cells_of objects < 2 ^ 32

-- what is always true of a table: handles are in the slots, and uses are those of the blocks, that it may
-- have
pub record IsTable (count : ℕ) (handles : FinMap nat_cmp Row) (uses : FinMap nat_cmp Use) : Type 0 where
  pub limit : count ≤ BLOCKS
  pub slots : (k : ℕ) → IsSome (get handles k) → k < slots_of count
  pub blocks : (k : ℕ) → IsSome (get uses k) → k ≤ count

-- a slot with an entry of a key
pub record HasEntry (held : FinMap nat_cmp (Option (WeakEntry Id))) (key slot : ℕ) : Type 0 where
  pub entry : WeakEntry Id
  pub is : get held slot ≡ Some (Some entry)
  pub key_is : entry.key.0 ≡ key

-- what is always true of a weak table: the keys lead to the slots of their entries, the idle slots are those
-- without one, and a slot has 32 bits
pub record IsWeak (slots : FinMap nat_cmp (Option Pair)) (keys : FinMap nat_cmp ℕ)
    (free : FinMap nat_cmp (Unit {0})) : Type 0 where
  pub keyed : (slot : ℕ) (e : WeakEntry Id) → get (held_as slots) slot ≡ Some (Some e)
      → get keys e.key.0 ≡ Some slot
  pub named : (key slot : ℕ) → get keys key ≡ Some slot → HasEntry (held_as slots) key slot
  pub idle : (slot : ℕ) → get (held_as slots) slot ≡ Some None → IsSome (get free slot)
  pub only : (slot : ℕ) → IsSome (get free slot) → get (held_as slots) slot ≡ Some None
  pub low : (slot : ℕ) → IsSome (get slots slot) → slot < 2 ^ 32

-- each map has the keys of the other by their values
pub record AreInverse (m n : FinMap nat_cmp ℕ) : Type 0 where
  pub there : (x p : ℕ) → get m x ≡ Some p → get n p ≡ Some x
  pub back : (p x : ℕ) → get n p ≡ Some x → get m x ≡ Some p

-- the objects with a pinned address up to one end at or before it
abbrev pub EndBefore : FinMap nat_cmp (Object Id) → FinMap nat_cmp ℕ → ℕ → Type 0
EndBefore objects pinned address =
    (y other : ℕ) → get pinned y ≡ Some other → other ≤ address
    → other + size_of (object_in objects y) ≤ address

-- those with one from there on begin at or after its end
abbrev pub BeginAfter : FinMap nat_cmp ℕ → ℕ → ℕ → Type 0
BeginAfter pinned address end = (y other : ℕ) → get pinned y ≡ Some other → address ≤ other → end ≤ other
