-- Why a line may not come. Each cause says something of the line and of the state before it, and is tied to the
-- command that is due of the line's caller: an entry that has what the cause wants is none that the line could be.
use Rattle.std.specs.Prelude.{◌≡◌, ◌≢◌, ℕ, ◌+◌, ◌-◌, ◌<◌, ◌≤◌, ◌⊎◌, Bool, true, false, List, [], ◌∷◌, codes, Option, Some, None, IsSome}
use Rattle.std.specs.FinMap.{get}
use Rattle.hd_model.specs.declared.command.Cmd.{Cmd}
use Rattle.hd_model.specs.declared.data.Entry.{Entry}
use Rattle.hd_model.specs.declared.data.Grown.{Grown}
use Rattle.hd_model.specs.declared.data.Grown.TheVariants.{Zero, One, Two, Back}
use Rattle.hd_model.specs.declared.data.Id.{Id}
use Rattle.hd_model.specs.declared.data.Kind.{Kind}
use Rattle.hd_model.specs.declared.data.Reply.{Reply}
use Rattle.hd_model.specs.declared.data.Reply.TheVariants as reply
use Rattle.hd_model.specs.declared.data.Slot.{Slot}
use Rattle.hd_model.specs.Command.{idle_slot}
use Rattle.hd_model.specs.Kinds.{is_paired}
use Rattle.hd_model.specs.FullText.{full_line}
use Rattle.hd_model.specs.PinnedAddresses.{IsFreeAddress}
use Rattle.hd_model.specs.RunTexts.{cut_lines}
use Rattle.hd_model.specs.State.{State, handle_at, handles_of, use_of, block_of, first_slot, given_of, IsAllFree}
use Rattle.hd_model.specs.Step.{Step, IsLeastUnused, blocks_needed}
use Rattle.hd_print.specs.VerdictLaws.{HasEnd}
use Rattle.hd_audit.specs.Before.{GivesBlock, ReturnsFree, TakesSlot, due_of, end_after, number_of}
use Rattle.hd_audit.specs.Known.{Known}
use Rattle.hd_plain.specs.OneEntry.{HasExactly}
use Rattle.hd_view.specs.Stated.{HasReply, Parts, begins, stated_in}
use Rattle.hd_view.specs.declared.cause.BlockCause.{BlockCause}
use Rattle.hd_view.specs.declared.cause.BlockCause.TheVariants as by_blocks
use Rattle.hd_view.specs.declared.cause.Growth.{Growth}
use Rattle.hd_view.specs.declared.cause.Growth.TheVariants as growth
use Rattle.hd_view.specs.declared.cause.SlotCause.{SlotCause}
use Rattle.hd_view.specs.declared.cause.SlotCause.TheVariants as by_slot
use Rattle.hd_view.specs.declared.cause.Cause.{Cause}
use Rattle.hd_view.specs.declared.cause.Cause.TheVariants as cause

-- ---- what is due

-- an entry of the command that is due of the line's caller
pub record IsNext (k : Known) (p : Parts) (e : Entry) : Type 0 where
  pub caller : e.caller ≡ p.caller
  pub due : due_of k e.caller ≡ Some e.cmd
  pub after : State
  pub step : Step k.numbers k.state e after

-- a reply is the line's: the line has it, and an address is the one that is read off the line
abbrev pub IsLike : Parts → Reply → Type 0
IsLike p r = HasReply p.tail r × ((address : ℕ) → r ≡ reply.Place address → address ≡ p.address)

-- each entry of what is due of the line's caller is so, and each of those with the line's reply
abbrev pub EachIs : Known → Parts → (Entry → Type 0) → Type 0
EachIs k p P = (e : Entry) → IsNext k p e → P e

abbrev pub EachLike : Known → Parts → (Entry → Type 0) → Type 0
EachLike k p P = (e : Entry) → IsNext k p e → IsLike p e.reply → P e

-- none of them has the line's reply
abbrev pub NoneLike : Known → Parts → Type 0
NoneLike k p = EachIs k p (λ e. IsLike p e.reply → ⊥)

-- one has the line's reply, and one its blocks too
pub record IsReplied (k : Known) (p : Parts) : Type 0 where
  pub entry : Entry
  pub next : IsNext k p entry
  pub like : IsLike p entry.reply

pub record IsGrown (k : Known) (p : Parts) : Type 0 where
  pub entry : Entry
  pub next : IsNext k p entry
  pub like : IsLike p entry.reply
  pub grown : entry.grown ≡ p.grown

-- the command that is due of the line's caller has exactly these entries
abbrev pub DueHas : Known → Parts → (Entry → Type 0) → Type 0
DueHas k p P = (c : Cmd) × (due_of k p.caller ≡ Some c) × HasExactly k.numbers k.state p.caller c P

-- it puts a new row of a kind, gives back a block of a kind, or returns an address that is free for an object
abbrev pub DueTakes : Known → Parts → Kind → Type 0
DueTakes k p kind = DueHas k p (TakesSlot k.numbers k.state kind)

abbrev pub DueGives : Known → Parts → Kind → Type 0
DueGives k p kind = DueHas k p (GivesBlock k.state kind)

abbrev pub DueReturns : Known → Parts → Id → Type 0
DueReturns k p x = DueHas k p (ReturnsFree k.state x)

-- ---- what the line states

-- a block that the line states, and the first of them
abbrev pub IsStated : Grown → ℕ → Type 0
IsStated Zero block = ⊥
IsStated (One b) block = block ≡ b
IsStated (Two b other) block = (block ≡ b) ⊎ (block ≡ other)
IsStated (Back b) block = block ≡ b

abbrev pub first_stated : Grown → Option ℕ
first_stated Zero = None
first_stated (One b) = Some b
first_stated (Two b other) = Some b
first_stated (Back b) = None

-- a line reads as that of an entry that may come, and has other bytes
pub record IsSpelled (k : Known) (line : List ℕ) (p : Parts) : Type 0 where
  pub entry : Entry
  pub next : IsNext k p entry
  pub like : IsLike p entry.reply
  pub slot : p.slot ≡ entry.slot
  pub grown : p.grown ≡ entry.grown
  pub differs : line ≢ full_line entry p.number

-- ---- by the slot

-- a slot has a handle, or the weak table holds it
abbrev pub IsTaken : State → Slot → Type 0
IsTaken s slot = IsSome (handle_at s slot) ⊎ IsSome (get s.weak slot.0)

-- the slot is stated, and no entry with the line's reply has it with the line's blocks: an entry that grows may have
-- it as the first slot of a new block
pub record IsNoneOfDue (k : Known) (p : Parts) (slot : Slot) : Type 0 where
  pub stated : p.slot ≡ Some slot
  pub none : EachLike k p (λ e. e.slot ≡ Some slot → e.grown ≢ p.grown)

-- the command puts a new row, and the slot is another than the first of the new block
pub record IsNotFirst (k : Known) (p : Parts) (block : ℕ) : Type 0 where
  pub kind : Kind
  pub due : DueTakes k p kind
  pub first : first_stated p.grown ≡ Some block
  pub other : p.slot ≢ Some (first_slot block)

abbrev pub SlotHolds : Known → Parts → SlotCause → Type 0
SlotHolds k p by_slot.Missing = (p.slot ≡ None) × EachLike k p (λ e. e.slot ≢ None)
SlotHolds k p by_slot.Needless = (p.slot ≢ None) × EachLike k p (λ e. e.slot ≡ None)
SlotHolds k p (by_slot.Freed slot) = (p.slot ≢ Some slot) × EachLike k p (λ e. e.slot ≡ Some slot)
SlotHolds k p (by_slot.Idle slot) =
    (p.slot ≢ Some slot) × (idle_slot k.state ≡ Some slot) × EachLike k p (λ e. e.slot ≡ Some slot)
SlotHolds k p (by_slot.InUse slot) = (p.grown ≡ Zero) × IsNoneOfDue k p slot × IsTaken k.state slot
SlotHolds k p (by_slot.OtherKind slot kind) =
    (p.grown ≡ Zero) × IsNoneOfDue k p slot × DueTakes k p kind × (use_of k.state (block_of slot) ≢ Some (handles_of kind))
SlotHolds k p (by_slot.NotFirst block) = IsNotFirst k p block

-- ---- by the blocks

-- the least block without a use is another one: of the only one that is due, or of the first or the second of two
abbrev pub IsLeastOf : Known → Grown → Growth → ℕ → Type 0
IsLeastOf k (One b) growth.Only least = IsLeastUnused k.numbers k.state 1 least × (b ≢ least)
IsLeastOf k (Two b other) growth.First least = IsLeastUnused k.numbers k.state 1 least × (b ≢ least)
IsLeastOf k (Two b other) growth.Second least =
    IsLeastUnused k.numbers k.state 1 b × IsLeastUnused k.numbers k.state (b + 1) least × (other ≢ least)
IsLeastOf k Zero which least = ⊥
IsLeastOf k (Back b) which least = ⊥
IsLeastOf k (One b) growth.First least = ⊥
IsLeastOf k (One b) growth.Second least = ⊥
IsLeastOf k (Two b other) growth.Only least = ⊥

-- the command puts a new row of a kind, the line states as many blocks as such a row needs, and none of its
-- entries with the line's reply has these
abbrev pub FitsKind : Grown → Kind → Type 0
FitsKind Zero kind = ⊥
FitsKind (One b) kind = is_paired kind ≡ false
FitsKind (Two b other) kind = is_paired kind ≡ true
FitsKind (Back b) kind = ⊥

pub record IsOtherGrowth (k : Known) (p : Parts) : Type 0 where
  pub kind : Kind
  pub due : DueTakes k p kind
  pub fits : FitsKind p.grown kind
  pub none : EachLike k p (λ e. e.grown ≢ p.grown)

-- the block is stated as given back, the command gives one of a kind back, and none with the line's reply this one
pub record IsNotGiven (k : Known) (p : Parts) (block : ℕ) (kind : Kind) : Type 0 where
  pub stated : p.grown ≡ Back block
  pub due : DueGives k p kind
  pub none : EachLike k p (λ e. e.grown ≢ Back block)

abbrev pub BlocksHold : Known → Parts → BlockCause → Type 0
BlocksHold k p by_blocks.Missing = (p.grown ≡ Zero) × EachLike k p (λ e. e.grown ≢ Zero)
BlocksHold k p by_blocks.Needless = (p.grown ≢ Zero) × EachLike k p (λ e. e.grown ≡ Zero)
BlocksHold k p by_blocks.Other = EachLike k p (λ e. e.grown ≢ p.grown)
BlocksHold k p (by_blocks.InUse block) =
    IsStated p.grown block × IsSome (use_of k.state block) × IsOtherGrowth k p
BlocksHold k p (by_blocks.NotLeast which least) =
    IsLeastOf k p.grown which least × IsOtherGrowth k p
BlocksHold k p (by_blocks.OtherKind block kind) =
    IsNotGiven k p block kind × (use_of k.state block ≢ Some (handles_of kind))
BlocksHold k p (by_blocks.NotFree block kind) =
    IsNotGiven k p block kind × (use_of k.state block ≡ Some (handles_of kind))
    × (IsAllFree k.state kind block → ⊥)

-- ---- all causes

-- the command puts a new row of a kind, which needs more blocks than are without a use; the line states a growth,
-- and no entry has its reply
pub record IsTooFew (k : Known) (p : Parts) (unused : ℕ) (kind : Kind) : Type 0 where
  pub none : NoneLike k p
  pub due : DueTakes k p kind
  pub grows : first_stated p.grown ≢ None
  pub unused_is : unused ≡ k.numbers.blocks - given_of k.state
  pub few : unused < blocks_needed kind

-- an address is asked for of an object that has none, and at this one it is not apart from all that are pinned
pub record IsTakenAddress (k : Known) (p : Parts) (address : ℕ) : Type 0 where
  pub none : NoneLike k p
  pub stated : p.address ≡ address
  pub object : Id
  pub due : DueReturns k p object
  pub taken : IsFreeAddress k.state object address → ⊥

abbrev pub HoldsOf : Known → List ℕ → Parts → Cause → Type 0
HoldsOf k line p cause.Missing = ⊥
HoldsOf k line p cause.AfterEnd = ⊥
HoldsOf k line p cause.NoEnd = ⊥
HoldsOf k line p cause.NoLine = ⊥
HoldsOf k line p (cause.EndTooEarly left) = ⊥
HoldsOf k line p cause.EndCounts = ⊥
HoldsOf k line p cause.OnlyEnd = k.left ≡ 0
HoldsOf k line p (cause.NoCaller caller) = (p.caller ≡ caller) × (k.numbers.callers ≤ caller)
HoldsOf k line p (cause.ListEnd caller) = (p.caller ≡ caller) × (due_of k caller ≡ None)
HoldsOf k line p (cause.Number number) = (number ≡ number_of k p.caller) × (p.number ≢ number)
HoldsOf k line p cause.Reply = NoneLike k p
HoldsOf k line p (cause.Pinned address) = NoneLike k p × EachIs k p (λ e. e.reply ≡ reply.Place address)
HoldsOf k line p (cause.AddressTaken address) = IsTakenAddress k p address
HoldsOf k line p (cause.TooFew unused kind) = IsTooFew k p unused kind
HoldsOf k line p (cause.Blocks c) = IsReplied k p × BlocksHold k p c
HoldsOf k line p (cause.Slot c) = IsGrown k p × SlotHolds k p c
HoldsOf k line p cause.Spelled = IsSpelled k line p

-- whether a line begins as the end line
abbrev pub is_end : List ℕ → Bool
is_end line = begins line (codes "end handles ")

-- a cause holds of a line
pub data HoldsOn (k : Known) (line : List ℕ) : Cause → Type 0 where
  after_end : k.ended ≡ true → HoldsOn k line cause.AfterEnd
  no_end : (HasEnd line → ⊥) → HoldsOn k line cause.NoEnd
  no_line : stated_in line ≡ None → is_end line ≡ false → HoldsOn k line cause.NoLine
  end_too_early : is_end line ≡ true → 0 < k.left → HoldsOn k line (cause.EndTooEarly k.left)
  end_counts : is_end line ≡ true → k.left ≡ 0 → line ≢ end_after k → HoldsOn k line cause.EndCounts
  of_parts : {p : Parts} {c : Cause} → stated_in line ≡ Some p → HoldsOf k line p c → HoldsOn k line c

-- ---- the order in which causes are looked for: the caller, the number, the reply, the blocks, the slot

abbrev pub rank : Cause → ℕ
rank cause.Missing = 0
rank cause.AfterEnd = 1
rank cause.NoEnd = 2
rank cause.NoLine = 3
rank (cause.EndTooEarly left) = 3
rank cause.EndCounts = 3
rank cause.OnlyEnd = 4
rank (cause.NoCaller caller) = 5
rank (cause.ListEnd caller) = 6
rank (cause.Number number) = 7
rank cause.Reply = 8
rank (cause.Pinned address) = 8
rank (cause.AddressTaken address) = 8
rank (cause.TooFew unused kind) = 8
rank (cause.Blocks c) = 9
rank (cause.Slot c) = 10
rank cause.Spelled = 11

-- a cause is that of a line: it holds, and none before it does
pub record IsCause (k : Known) (line : List ℕ) (c : Cause) : Type 0 where
  pub holds : HoldsOn k line c
  pub first : (d : Cause) → rank d < rank c → HoldsOn k line d → ⊥

-- and that of the first of the lines that are left, or none is left
pub data Holds (k : Known) : Cause → Type 0 where
  missing : k.rest ≡ [] → Holds k cause.Missing
  of_line : {line : List ℕ} {after : List (List ℕ)} {c : Cause} → cut_lines k.rest ≡ line ∷ after
      → IsCause k line c → Holds k c
