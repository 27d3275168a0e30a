-- What private clauses alone cite.
use Rattle.std.specs.Prelude.{◌≡◌, ℕ, ◌<◌, false, [], ◌+◌, ◌≤◌, List, length, slice_index, slice_index_or, ◌↔◌, Bool, true, Option, Some, None, option_map, IsTrue, IsNone, IfSome}
use Rattle.hd_custody.specs.{declared.view.View.View, Rule.Ended, Misses.WholeMiss}
use mathlib.Core.Option.{some}
use lib.ListN.{get_elem?}
use Rattle.hd_custody.specs.Views.{Named, Known, granted, closed, Fresh, KindIs}
use Rattle.hd_model.specs.{declared.data.Grown.Grown, declared.data.Kind.Kind, declared.data.Kind.TheVariants.Dependent, declared.held.Held.Ghosts, declared.data.Reply.Reply, declared.data.Slot.Slot, declared.limits.TheConstants.BLOCKS, declared.command.Cmd.Cmd, Kinds.kind_number, Valid.IsValid, Valid.takes_memory}
use Rattle.hd_model.specs.declared.data.Grown.TheVariants.{Zero, One, Two, Back}
use Rattle.hd_model.specs.State.{State, use_of, block_of}
use Rattle.hd_store.specs.Growth.{kind_in_use}
use Rattle.hd_world.specs.World.{WorldView}
use Rattle.hd_custody.specs.Calls.{slot_number, Allocates, Releases}
use Rattle.hd_gate.specs.Shared.{CallerView, IsCallerOf, HadRoom, HasDone, having_seen}
use Rattle.hd_gate.specs.Turns.{caller_view_of}

-- ---- a seat between two calls of its caller

-- it holds no slot and not the gate, and its number is that of a caller of the run; that of caller 0 knows
-- that each caller has a seat, and none has ended
pub record IsIdle {W : Type 0} (v : View W) (caller : ℕ) : Type 0 where
  pub number : v.number ≡ caller
  pub known : caller < v.limits.callers
  pub held : v.held ≡ []
  pub gate : v.has_gate ≡ false
  pub ended : v.ended ≡ []
  pub made : caller ≡ 0 → v.made ≡ v.limits.callers

-- ---- callers as they are made, one after another, and their seats as they end

-- a caller of the shared world s that has done and seen nothing
pub record IsNew (s : Named) (index given : ℕ) (p : CallerView) : Type 0 where
  pub is_of : IsCallerOf s p
  pub number : p.number ≡ index
  pub part : p.part ≡ []
  pub seen : p.seen ≡ []
  pub room : p.room ≡ given

-- the callers from number 1 on, each with its room
abbrev pub AreNew : Named → List ℕ → List CallerView → Type 0
AreNew s rooms list =
    (k : ℕ) (d : CallerView) → k < length list → IsNew s (k + 1) (slice_index rooms (k + 1))
    (slice_index_or list k d)

-- the seat of caller 0 once this number of seats was made: it has no more given, and has room for these
-- entries
pub record IsFirst {W : Type 0} (begun v : View W) (seats rooms : ℕ) : Type 0 where
  pub view : v ≡ record begun { made = seats; room = v.room }
  pub room : rooms ≤ v.room

-- what has ended in the seat of caller 0: each part, and what was seen, is that of the caller with its
-- number, of the callers from number 1 on
pub record HasEnded (others : List CallerView) (ended : List Ended) : Type 0 where
  pub each : (k : ℕ) (e : Ended) → get_elem? ended k ≡ some e
      → (c : ℕ) × (c < length others) × (e.0 ≡ c + 1)
      × ((d : CallerView) → (e.1 ≡ (slice_index_or others c d).part) × (e.2
      ≡ (slice_index_or others c d).seen))

-- ---- what a turn does: what the world under the gate is after it, and what its seat is

-- a seat may take its turn: it is one of this table, idle, and has room for an entry
pub record MayTurn (custody : Named) (seat : Known WorldView) (caller : ℕ) (command : Cmd) : Type 0 where
  pub table : seat.table ≡ custody.table
  pub blocks : custody.blocks ≡ seat.view.limits.blocks
  pub few : custody.blocks ≤ BLOCKS
  pub idle : IsIdle seat.view caller
  pub room : 1 ≤ seat.view.room
  pub valid : IsValid command

-- it took its turn: it is idle again, and its command was done
pub record Turned (old new : Known WorldView) (caller : ℕ) (command : Cmd) (answer : Reply) : Type 0 where
  pub table : new.table ≡ old.table
  pub limits : new.view.limits ≡ old.view.limits
  pub idle : IsIdle new.view caller
  pub done : HasDone (caller_view_of old caller old.view.room) (caller_view_of new caller new.view.room)
      command answer

-- it found no memory: it is idle again, and its caller is as it was, but for what it has seen
pub record Stayed (old new : Known WorldView) (caller : ℕ) (command : Cmd) : Type 0 where
  pub idle : IsIdle new.view caller
  pub party : caller_view_of new caller new.view.room
      ≡ having_seen new.view.seen (caller_view_of old caller old.view.room)
  pub memory : IsTrue (takes_memory command)
  pub fits : HadRoom (caller_view_of old caller old.view.room) (caller_view_of new caller new.view.room) command

-- a slot of the kind was looked for: the one found is free in the world under the gate, where the seat has
-- that, and none was found only after a whole miss
pub record Looked {W : Type 0} (m : Ghosts W) (kind : Kind) (blocks : ℕ) (o : Option Slot) (v w : View W) :
    Type 0 where
  pub done : Allocates (kind_number kind) blocks (slot_number o) v w
  pub none : IsNone o ↔ WholeMiss (kind_number kind) blocks w.trace
  pub fresh : IfSome o (λ slot. Fresh m v slot.0)
  pub of_kind : IfSome o (λ slot. KindIs m v (block_of slot) (kind_number kind + 1))

-- one of kind dependent was looked for where it is needed
abbrev pub LooksWhere : {W : Type 0} → Ghosts W → Bool → ℕ → Option Slot → View W → View W → Type 0
LooksWhere m true blocks o v w = Looked m Dependent blocks o v w
LooksWhere m false blocks o v w = (o ≡ None) × (w ≡ v)

-- the seat once the words know by which blocks the table grew for the kind with number k
abbrev pub with_grown : {W : Type 0} → ℕ → Grown → View W → View W
with_grown k Zero v = v
with_grown k (One block) v = granted k block 0 v
with_grown k (Two block other) v = granted k block other v
with_grown k (Back block) v = v

-- the seat once a gathered block lost its kind
abbrev pub without_gathered : {W : Type 0} → Option ℕ → View W → View W
without_gathered None v = v
without_gathered (Some block) v = closed block v

-- a slot that was freed, with the kind of its block
abbrev pub freed_in : State → Option Slot → Option (Slot × Kind)
freed_in s None = None
freed_in s (Some slot) = option_map (λ kind. (slot, kind)) (kind_in_use (use_of s (block_of slot)))

-- a freed slot was released
abbrev pub ReleasesFreed : {W : Type 0} → ℕ → Option (Slot × Kind) → View W → View W → Type 0
ReleasesFreed blocks None v w = w ≡ v
ReleasesFreed blocks (Some f) v w = Releases (kind_number f.1) blocks f.0.0 v w
