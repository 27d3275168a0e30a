-- A pool of another number of blocks: what it offers, what may be noted in it, and what is noted.
use Rattle.std.proofs.Common.{Bool, None, Option, Some, ap, arith, cond, false, true, ℕ, ◌≡◌, ◌≤◌}
use Rattle.hd_model.specs.{declared.command.Cmd.Cmd, declared.data.Grown.Grown, declared.data.Kind.Kind, declared.data.Reply.Reply, declared.data.Slot.Slot, State.State}
use Rattle.hd_model.specs.declared.command.Cmd.TheVariants as cmd
use Rattle.hd_model.specs.declared.data.Grown.TheVariants.{Back, One, Two, Zero}
use Rattle.hd_model.specs.declared.data.Kind.TheVariants as kinds
use Rattle.hd_pool.specs.Pool.{FreeSlots}
use Rattle.hd_slots.specs.Change.{MayGrow, MayNote, Offers, change_in, noted}
use Rattle.hd_slots.specs.declared.change.Change.{Change}
use Rattle.hd_slots.specs.declared.change.Change.TheVariants.{Adds, Frees, GivesBack, Keeps, Takes}
use Rattle.hd_model.specs.declared.data.Reply.TheVariants as reply
use Rattle.hd_store.specs.Offers.{Asks, asks_of, block_back, handle_slot, needs_slot, no_room, object_room}
use Rattle.hd_host.specs.Inside.{HasRoom, with_room}

pub offers_room : (blocks : ℕ) (p q : FreeSlots) (change : Change) (o : Option Slot) → Offers p q change o
    → Offers (with_room blocks p) (with_room blocks q) change o
offers_room blocks p q (Takes kind) None is = (is.0, ap (with_room blocks) is.1)
offers_room blocks p q (Takes kind) (Some slot) is =
    (record { free = is.0.free; least = is.0.least }, ap (with_room blocks) is.1)
offers_room blocks p q Adds o is = (is.0, ap (with_room blocks) is.1)
offers_room blocks p q Frees o is = (is.0, ap (with_room blocks) is.1)
offers_room blocks p q (GivesBack kind) None is =
    ((λ block of. is.0 block (record { added = of.added; whole = of.whole })), ap (with_room blocks) is.1)
offers_room blocks p q (GivesBack kind) (Some slot) is = (
  is.0,
  record {
    whole = record { added = is.1.whole.added; whole = is.1.whole.whole };
    least = λ other of. is.1.least other
        (record { added = of.added; whole = of.whole });
  },
  ap (with_room blocks) is.2,
)
offers_room blocks p q Keeps o is = (is.0, ap (with_room blocks) is.1)

-- what is offered leaves as many blocks
pub offers_blocks : (p q : FreeSlots) (change : Change) (o : Option Slot) → Offers p q change o → q.blocks ≡ p.blocks
offers_blocks p q (Takes kind) None is = ap (λ (x : FreeSlots). x.blocks) is.1
offers_blocks p q (Takes kind) (Some slot) is = ap (λ (x : FreeSlots). x.blocks) is.1
offers_blocks p q Adds o is = ap (λ (x : FreeSlots). x.blocks) is.1
offers_blocks p q Frees o is = ap (λ (x : FreeSlots). x.blocks) is.1
offers_blocks p q (GivesBack kind) None is = ap (λ (x : FreeSlots). x.blocks) is.1
offers_blocks p q (GivesBack kind) (Some slot) is = ap (λ (x : FreeSlots). x.blocks) is.2
offers_blocks p q Keeps o is = ap (λ (x : FreeSlots). x.blocks) is.1

-- a block that may be added to fewer may be added to more
module _ {blocks : ℕ} (q : FreeSlots) (more : blocks ≤ q.blocks) where
  grow_more : {kind : Kind} {block : ℕ} → MayGrow (with_room blocks q) kind block → MayGrow q kind block
  grow_more may = record { low = may.low; high = omega (arith, may.high, more); new = may.new; none = may.none }

  pub note_more : (change : Change) (slot : Option Slot) (grown : Grown) → MayNote (with_room blocks q) change slot grown
      → MayNote q change slot grown
  note_more (Takes kind) slot Zero may = tt
  note_more (Takes kind) slot (One block) may = grow_more may
  note_more (Takes kind) slot (Two block other) may = grow_more may
  note_more (Takes kind) slot (Back block) may = tt
  note_more Adds slot grown may = tt
  note_more Frees None grown may = tt
  note_more Frees (Some slot) grown may = record { added = may.added; taken = may.taken }
  note_more (GivesBack kind) slot Zero may = tt
  note_more (GivesBack kind) slot (One block) may = tt
  note_more (GivesBack kind) slot (Two block other) may = tt
  note_more (GivesBack kind) slot (Back block) may = record { added = may.added; whole = may.whole }
  note_more Keeps slot grown may = tt

-- what is noted does not change how many there are
pub noted_room : (blocks : ℕ) (q : FreeSlots) {r : FreeSlots} (change : Change) (slot : Option Slot) (grown : Grown)
    → r ≡ noted q change slot grown → with_room blocks r ≡ noted (with_room blocks q) change slot grown
noted_room blocks q (Takes kind) slot Zero is = ap (with_room blocks) is
noted_room blocks q (Takes kind) slot (One block) is = ap (with_room blocks) is
noted_room blocks q (Takes kind) slot (Two block other) is = ap (with_room blocks) is
noted_room blocks q (Takes kind) slot (Back block) is = ap (with_room blocks) is
noted_room blocks q Adds slot grown is = ap (with_room blocks) is
noted_room blocks q Frees None grown is = ap (with_room blocks) is
noted_room blocks q Frees (Some slot) grown is = ap (with_room blocks) is
noted_room blocks q (GivesBack kind) slot Zero is = ap (with_room blocks) is
noted_room blocks q (GivesBack kind) slot (One block) is = ap (with_room blocks) is
noted_room blocks q (GivesBack kind) slot (Two block other) is = ap (with_room blocks) is
noted_room blocks q (GivesBack kind) slot (Back block) is = ap (with_room blocks) is
noted_room blocks q Keeps slot grown is = ap (with_room blocks) is

pub noted_blocks : (q : FreeSlots) {r : FreeSlots} (change : Change) (slot : Option Slot) (grown : Grown)
    → r ≡ noted q change slot grown → r.blocks ≡ q.blocks
noted_blocks q (Takes kind) slot Zero is = ap (λ (p : FreeSlots). p.blocks) is
noted_blocks q (Takes kind) slot (One block) is = ap (λ (p : FreeSlots). p.blocks) is
noted_blocks q (Takes kind) slot (Two block other) is = ap (λ (p : FreeSlots). p.blocks) is
noted_blocks q (Takes kind) slot (Back block) is = ap (λ (p : FreeSlots). p.blocks) is
noted_blocks q Adds slot grown is = ap (λ (p : FreeSlots). p.blocks) is
noted_blocks q Frees None grown is = ap (λ (p : FreeSlots). p.blocks) is
noted_blocks q Frees (Some slot) grown is = ap (λ (p : FreeSlots). p.blocks) is
noted_blocks q (GivesBack kind) slot Zero is = ap (λ (p : FreeSlots). p.blocks) is
noted_blocks q (GivesBack kind) slot (One block) is = ap (λ (p : FreeSlots). p.blocks) is
noted_blocks q (GivesBack kind) slot (Two block other) is = ap (λ (p : FreeSlots). p.blocks) is
noted_blocks q (GivesBack kind) slot (Back block) is = ap (λ (p : FreeSlots). p.blocks) is
noted_blocks q Keeps slot grown is = ap (λ (p : FreeSlots). p.blocks) is

-- ---- a command that leaves the free slots asks for none

takes_or_adds : (b : Bool) → cond b (Takes kinds.Dependent) Adds ≡ Keeps → ⊥
takes_or_adds true same = absurd (let clash = same in cc)
takes_or_adds false same = absurd (let clash = same in cc)

pub room_kept : (limit given : ℕ) (r : Reply) (s : State) (caller : ℕ) (c : Cmd) → change_in s caller c ≡ Keeps
    → HasRoom limit given (asks_of s caller c) r
room_kept limit given r s caller (cmd.HNew d make t) keeps = absurd (let clash = keeps in cc)
room_kept limit given r s caller (cmd.CAdd k v) keeps = absurd (takes_or_adds (needs_slot s caller (cmd.CAdd k v)) keeps)
room_kept limit given r s caller _ keeps = tt

-- nor does one that is done find the table full
pub room_done : (limit given : ℕ) (a : Asks) → HasRoom limit given a reply.Done
room_done limit given (object_room fields) = tt
room_done limit given (handle_slot kind) = λ full. absurd (let clash = full in cc)
room_done limit given (block_back kind) = tt
room_done limit given no_room = tt
