-- What commands do to a pool of free slots, one by one.
use Rattle.std.specs.Prelude.{◌≡◌, ℕ, ◌≤◌, false, cond, Option, Some, None, IsSome}
use Rattle.std.specs.{FinMap.get, FinSet.contains}
use Rattle.std.specs.FinMap as map
use Rattle.std.specs.FinSet as set
use Rattle.hd_model.specs.{declared.data.Kind.Kind, declared.data.Slot.Slot, declared.data.Grown.Grown, declared.command.Cmd.Cmd, declared.class.Class.Class, Class.class_of, Kinds.kind_of}
use Rattle.hd_model.specs.declared.data.Kind.TheVariants as kinds
use Rattle.hd_model.specs.declared.data.Grown.TheVariants.{Zero, One, Two, Back}
use Rattle.hd_model.specs.declared.class.Class.TheVariants as class
use Rattle.hd_model.specs.State.{State, block_of, first_slot}
use Rattle.hd_pool.specs.Pool.{FreeSlots, slots_of, IsLeastFreeFor, HasNoneFor, IsWhole, IsLeastWholeOf, HasNoWholeOf}
use Rattle.hd_slots.specs.declared.change.Change.{Change}
use Rattle.hd_store.specs.Offers.{needs_slot}
use Rattle.hd_slots.specs.declared.change.Change.TheVariants.{Takes, Adds, Frees, GivesBack, Keeps}

-- what a command of a class does to the free slots: `hnew` takes one of its kind, `cadd` may take one,
-- `hfree` frees one, and `trim` gives a whole block of its kind back
abbrev pub change_by : Class → Change
change_by (class.MakesObject fields) = Keeps
change_by (class.TakesSlot make t) = Takes (kind_of make)
change_by (class.StoresTarget h t) = Keeps
change_by (class.StoresSecondary h) = Keeps
change_by class.Frees = Frees
change_by (class.GivesBack kind) = GivesBack kind
change_by (class.Collects n) = Keeps
change_by (class.RepliesAddress h) = Keeps
change_by (class.AddsEntry k v) = Adds
change_by (class.LooksUp k) = Keeps
change_by (class.Searches r) = Keeps
change_by class.Plain = Keeps

abbrev pub change_of : Cmd → Change
change_of c = change_by (class_of c)

-- what it does in a state: a `cadd` that needs a slot takes one of kind dependent, and any other takes none
abbrev pub change_in : State → ℕ → Cmd → Change
change_in s caller c = cond (needs_slot s caller c) (Takes kinds.Dependent) (change_of c)

-- what is offered from a pool p, which is q then: the least free slot of the kind, or the first slot of the
-- least block of the kind whose slots are all free
abbrev pub Offers : FreeSlots → FreeSlots → Change → Option Slot → Type 0
Offers p q (Takes kind) None = HasNoneFor p kind × (q ≡ p)
Offers p q (Takes kind) (Some slot) = IsLeastFreeFor p kind slot ×
    (q ≡ record p { free = set.remove p.free slot.0 })
Offers p q Adds o = (o ≡ None) × (q ≡ p)
Offers p q Frees o = (o ≡ None) × (q ≡ p)
Offers p q (GivesBack kind) None = HasNoWholeOf p kind × (q ≡ p)
Offers p q (GivesBack kind) (Some slot) = (slot ≡ first_slot (block_of slot)) × IsLeastWholeOf p kind
    (block_of slot) × (q ≡ p)
Offers p q Keeps o = (o ≡ None) × (q ≡ p)

-- a pool with a block more, whose first slot is taken
abbrev pub grown_by : FreeSlots → Kind → ℕ → FreeSlots
grown_by q kind block = record q {
  kinds = map.insert q.kinds block kind;
  free = set.remove (set.union q.free (slots_of block)) (first_slot block).0;
}

-- a pool without a block
abbrev pub without_block : FreeSlots → ℕ → FreeSlots
without_block q block = record q {
  kinds = map.remove q.kinds block;
  free = set.difference q.free
      (slots_of block);
}

-- a pool after an entry: a block by which the table grew is added, a freed slot is free, and a block that was
-- given back is dropped
abbrev pub noted : FreeSlots → Change → Option Slot → Grown → FreeSlots
noted q (Takes kind) slot Zero = q
noted q (Takes kind) slot (One block) = grown_by q kind block
noted q (Takes kind) slot (Two block other) = grown_by q kind block
noted q (Takes kind) slot (Back block) = q
noted q Adds slot grown = q
noted q Frees None grown = q
noted q Frees (Some slot) grown = record q { free = set.insert q.free slot.0 }
noted q (GivesBack kind) slot Zero = q
noted q (GivesBack kind) slot (One block) = q
noted q (GivesBack kind) slot (Two block other) = q
noted q (GivesBack kind) slot (Back block) = without_block q block
noted q Keeps slot grown = q

-- a block may be added, and its first slot is then the least of its kind
pub record MayGrow (q : FreeSlots) (kind : Kind) (block : ℕ) : Type 0 where
  pub low : 1 ≤ block
  pub high : block ≤ q.blocks
  pub new : get q.kinds block ≡ None
  pub none : HasNoneFor q kind

-- a slot may be put back
pub record MayPut (q : FreeSlots) (slot : Slot) : Type 0 where
  pub added : IsSome (get q.kinds (block_of slot))
  pub taken : contains q.free slot.0 ≡ false

-- a block may be dropped
pub record MayDrop (q : FreeSlots) (block : ℕ) : Type 0 where
  pub added : IsSome (get q.kinds block)
  pub whole : IsWhole q block

-- an entry may be noted in a pool
abbrev pub MayNote : FreeSlots → Change → Option Slot → Grown → Type 0
MayNote q (Takes kind) slot Zero = Unit {0}
MayNote q (Takes kind) slot (One block) = MayGrow q kind block
MayNote q (Takes kind) slot (Two block other) = MayGrow q kind block
MayNote q (Takes kind) slot (Back block) = Unit {0}
MayNote q Adds slot grown = Unit {0}
MayNote q Frees None grown = Unit {0}
MayNote q Frees (Some slot) grown = MayPut q slot
MayNote q (GivesBack kind) slot Zero = Unit {0}
MayNote q (GivesBack kind) slot (One block) = Unit {0}
MayNote q (GivesBack kind) slot (Two block other) = Unit {0}
MayNote q (GivesBack kind) slot (Back block) = MayDrop q block
MayNote q Keeps slot grown = Unit {0}
