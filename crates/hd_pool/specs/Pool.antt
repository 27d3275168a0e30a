-- What contracts see of a pool: the free slots, by the kind of their block. Blocks of 64 slots are this
-- project's own, after CoreCLR's handle segments and their free masks in outline.
use Rattle.std.specs.Prelude.{◌≡◌, ℕ, ◌≤◌, true, Some, refl}
use Rattle.std.specs.Coded.{Coded, code_by, coded×, coded_ℕ}
use Rattle.std.specs.FinMap as map
use Rattle.std.specs.FinMap.{FinMap, get}
use Rattle.std.specs.FinSet as set
use Rattle.std.specs.FinSet.{FinSet, contains}
use Rattle.std.specs.Ordering.{nat_cmp}
use Rattle.hd_model.specs.declared.data.Kind.{Kind}
use Rattle.hd_model.specs.declared.data.Slot.{Slot}
use Rattle.hd_model.specs.State.{block_of}
use Rattle.hd_model.specs.Code.{kind_code}
use Rattle.hd_tiers.specs.Sets.{numbers_of}

-- a pool: the number of blocks that it may have, the kind of each block that was added, and the free slots,
-- by their numbers
pub record FreeSlots : Type 0 where
  pub blocks : ℕ
  pub kinds : FinMap nat_cmp Kind
  pub free : FinSet nat_cmp

abbrev pub free_slots_code : Coded FreeSlots
free_slots_code =
    code_by (ℕ × (FinMap nat_cmp Kind × FinSet nat_cmp))
    (coded× coded_ℕ (coded× (map.code coded_ℕ kind_code) (set.code coded_ℕ)))
    (λ p. (p.blocks, (p.kinds, p.free))) (λ q. record { blocks = q.0; kinds = q.1.0; free = q.1.1 })
    (λ _. refl)

-- the slots of a block
abbrev pub slots_of : ℕ → FinSet nat_cmp
slots_of block = numbers_of block

-- a slot is free, and its block is of the kind
abbrev pub IsFreeFor : FreeSlots → Kind → Slot → Type 0
IsFreeFor p kind slot = (contains p.free slot.0 ≡ true) × (get p.kinds (block_of slot) ≡ Some kind)

-- the lowest free slot of a kind
pub record IsLeastFreeFor (p : FreeSlots) (kind : Kind) (slot : Slot) : Type 0 where
  pub free : IsFreeFor p kind slot
  pub least : (other : Slot) → IsFreeFor p kind other → slot.0 ≤ other.0

-- no slot of a kind is free
abbrev pub HasNoneFor : FreeSlots → Kind → Type 0
HasNoneFor p kind = (slot : Slot) → ¬ (IsFreeFor p kind slot)

-- all slots of a block are free
abbrev pub IsWhole : FreeSlots → ℕ → Type 0
IsWhole p block = (slot : Slot) → block_of slot ≡ block → contains p.free slot.0 ≡ true

-- a block of a kind, all of whose slots are free
pub record IsWholeOf (p : FreeSlots) (kind : Kind) (block : ℕ) : Type 0 where
  pub added : get p.kinds block ≡ Some kind
  pub whole : IsWhole p block

-- the lowest block of a kind, all of whose slots are free
pub record IsLeastWholeOf (p : FreeSlots) (kind : Kind) (block : ℕ) : Type 0 where
  pub whole : IsWholeOf p kind block
  pub least : (other : ℕ) → IsWholeOf p kind other → block ≤ other

-- no block of a kind has all its slots free
abbrev pub HasNoWholeOf : FreeSlots → Kind → Type 0
HasNoWholeOf p kind = (block : ℕ) → ¬ (IsWholeOf p kind block)
