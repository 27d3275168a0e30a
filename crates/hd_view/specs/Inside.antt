-- What private clauses alone cite.
use Rattle.std.specs.Prelude.{ℕ, ◌↔◌, ◌≡◌, ◌≢◌, ◌+◌, ◌*◌, ◌<◌, ◌≤◌, ◌⊎◌, Bool, true, List, length, take, All, Contains, Option, Some, ◌∷◌, None}
use Rattle.hd_model.specs.{declared.command.Cmd.Cmd, declared.data.Entry.Entry, declared.data.Grown.Grown, declared.data.Id.Id, declared.data.Grown.TheVariants.Zero, declared.data.Grown.TheVariants.Back, declared.data.Kind.Kind, declared.data.Slot.Slot, declared.limits.TheConstants.BLOCKS, declared.limits.TheConstants.ROWS, PinnedAddresses.Meet, Step.MayGive, Step.IsLeastUnused, Valid.IsValid}
use Rattle.hd_model.specs.RunTexts.{AreRight, cut_lines, IsNoRun, IsRunText}
use Rattle.hd_model.specs.State.{State, IsFree, first_slot, IsAllFree, Numbers}
use Rattle.hd_audit.specs.Before.{IsBefore, due_of, GivesBlock, MayCome, number_of}
use Rattle.hd_audit.specs.{RightVerdicts.numbers_of, Known.Known, declared.entry_choice.PinnedCells.PinnedCells}
use Rattle.hd_io.specs.Source.{SourceView}
use Rattle.hd_run.specs.{Ending.CauseOfFault, declared.fault.Fault.Fault}
use Rattle.hd_view.specs.{declared.sets.NumberSet.NumberSet, declared.sets.Range.Range, Sets.IsMember, Sets.IsIn, declared.accepted.Due.Due, declared.accepted.Judgement.Judgement, Accepted.IsDue, Accepted.HasAddressOf, declared.stated.Stated.Stated, declared.cause.Cause.Cause, declared.cause.Growth.Growth, declared.finding.Finding.Finding, Findings.IsWhy, Script.IsBadLine}
use Rattle.hd_view.specs.Stated.{Parts, stated_in}
use Rattle.hd_view.specs.Cause.{DueGives, DueReturns, DueTakes, IsLike, IsNext, EachIs, EachLike, FitsKind, HoldsOf, IsLeastOf, first_stated, rank}
use Rattle.hd_view.specs.declared.finding.Finding.TheVariants.{NoRun, Refused, Run}
use Rattle.hd_model.specs.declared.data.Reply.TheVariants as reply

-- a set has exactly these numbers
abbrev pub Has : NumberSet → (ℕ → Type 0) → Type 0
Has set P = (x : ℕ) → IsMember set x ↔ P x

-- what a stated line has, as plain parts
abbrev pub parts_in : Stated → Parts
parts_in s = record {
  caller = s.caller;
  number = s.number;
  tail = s.tail.now;
  slot = s.slot;
  grown = s.grown;
  address = s.address;
}

-- why there is no world
abbrev pub StopsBy : Option ℕ → SourceView → SourceView → Fault → Type 0
StopsBy line old new fault = CauseOfFault (IsBadLine line) old new fault

-- ---- the lines that may come for commands that are due, as sets

-- they can be written
abbrev pub AreValid : List Due → Type 0
AreValid dues = All (λ (due : Due). IsValid due.cmd) dues

-- and these are those of the callers below one
pub record AreDueTo (k : Known) (below : ℕ) (dues : List Due) : Type 0 where
  pub valid : AreValid dues
  pub each : (due : Due) → Contains dues due → IsDue k due
  pub all : (caller : ℕ) (c : Cmd) → caller < below → due_of k caller ≡ Some c
      → (due : Due) × Contains dues due × (due.caller ≡ caller)

-- ---- how the sets are made

-- the lines that are right are counted, and the table has a number of blocks that it can have
pub record IsTextOf (j : Judgement) : Type 0 where
  pub blocks : j.blocks ≤ BLOCKS
  pub within : j.count ≤ length (cut_lines j.text.now)
  pub right : AreRight (numbers_of j.scripts.now j.heap j.blocks) j.scripts.now
      (take j.count (cut_lines j.text.now))

-- this is known after the lines that are right
abbrev pub IsKnownOf : Judgement → Known → Type 0
IsKnownOf j k =
    IsBefore (numbers_of j.scripts.now j.heap j.blocks) j.scripts.now (take j.count (cut_lines j.text.now)) k

-- of the slots of the blocks below one, a set has exactly those that are free ones of a kind, and it has no
-- other
pub record CoversTo (s : State) (kind : Kind) (block : ℕ) (set : NumberSet) : Type 0 where
  pub within : (x : ℕ) → IsIn set.within.items x → x < block * ROWS
  pub but : (x : ℕ) → IsIn set.but.items x → x < block * ROWS
  pub free : (x : ℕ) → x < block * ROWS → IsMember set x ↔ IsFree s kind (record { 0 = x })

-- numbers are added to ranges: those of which a fact holds, and no other
abbrev pub Adds : List Range → List Range → (ℕ → Type 0) → Type 0
Adds old new P = (x : ℕ) → IsIn new x ↔ (IsIn old x ⊎ P x)

-- a number from one up to another, with a fact
abbrev pub Between : ℕ → ℕ → (ℕ → Type 0) → ℕ → Type 0
Between first end P x = (first ≤ x) × (x < end) × P x

-- a slot that is free, or one that is not
abbrev pub IsFreeAs : State → Kind → Bool → ℕ → Type 0
IsFreeAs s kind wanted x = IsFree s kind (record { 0 = x }) ↔ (wanted ≡ true)

-- cells that begin at an address meet others
abbrev pub meets : PinnedCells → ℕ → ℕ → Type 0
meets cells size x =
    Meet (record { first = x; end = x + size })
    (record { first = cells.first; end = cells.first + cells.count })

-- the entry of a command that gets the first slot of a new block
abbrev pub grown_by : ℕ → Cmd → ℕ → Grown → Entry
grown_by caller c block grown =
    record { caller = caller; cmd = c; slot = Some (first_slot block); grown = grown; reply = reply.Done }

-- an entry of a growth, where there is one
abbrev pub IsGrownOf : Known → Kind → ℕ → Cmd → Option Entry → Type 0
IsGrownOf k kind caller c found =
    (e : Entry) → e.caller ≡ caller → e.cmd ≡ c
    → ((slot : Slot) × (e.slot ≡ Some slot) × MayGive k.numbers k.state kind e.grown slot
    × (e.reply ≡ reply.Done) × (e.grown ≡ Zero → ⊥)) ↔ (found ≡ Some e)

-- ---- why a line may not come. Each cause says something of the line and of the state before it

-- ---- how a cause is found

-- it holds of each line that states these parts and may not come
abbrev pub Explains : Known → Parts → Cause → Type 0
Explains k p c = (line : List ℕ) → stated_in line ≡ Some p → (MayCome k line → ⊥) → HoldsOf k line p c

-- and no cause before it does
abbrev pub ExplainsFirst : Known → Parts → Cause → Type 0
ExplainsFirst k p c =
    (line : List ℕ) → stated_in line ≡ Some p → (MayCome k line → ⊥)
    → HoldsOf k line p c × ((d : Cause) → rank d < rank c → HoldsOf k line p d → ⊥)

-- an entry may come, with the number that the line states, and it is the only one, or the only one that goes
-- on as the line does
pub record IsOnly (k : Known) (p : Parts) (entry : Entry) : Type 0 where
  pub next : IsNext k p entry
  pub number : p.number ≡ number_of k p.caller
  pub only : EachIs k p (λ e. e ≡ entry)

pub record IsOnlyLike (k : Known) (p : Parts) (entry : Entry) : Type 0 where
  pub next : IsNext k p entry
  pub number : p.number ≡ number_of k p.caller
  pub like : IsLike p entry.reply
  pub only : EachLike k p (λ e. e ≡ entry)

-- the first of the lines that are left may not come
abbrev pub IsWrong : Known → Type 0
IsWrong k =
    (line : List ℕ) (after : List (List ℕ)) → cut_lines k.rest ≡ line ∷ after → MayCome k line → ⊥

-- what is due of the line's caller has the line's number
pub record IsDueOf (k : Known) (p : Parts) (due : Due) : Type 0 where
  pub is_due : IsDue k due
  pub caller : due.caller ≡ p.caller
  pub number : due.number ≡ p.number

-- a new row of a kind may get a slot
abbrev pub MayGiveSome : Known → Kind → Type 0
MayGiveSome k kind = (slot : Slot) × ((grown : Grown) × MayGive k.numbers k.state kind grown slot)

-- entries that give a new row of a kind a slot may come, and of the others none that goes on as the line does
pub record IsSlotNext (k : Known) (p : Parts) (kind : Kind) : Type 0 where
  pub number : p.number ≡ number_of k p.caller
  pub due : DueTakes k p kind
  pub each : EachLike k p (λ e. (slot : Slot) × (e.slot ≡ Some slot)
      × MayGive k.numbers k.state kind e.grown slot × (e.reply ≡ reply.Done))
  pub next : (slot : Slot) (grown : Grown) → MayGive k.numbers k.state kind grown slot
      → (e : Entry) × IsNext k p e × (e.slot ≡ Some slot) × (e.grown ≡ grown) × (e.reply ≡ reply.Done)

-- the line has the reply of a done one, and one may come
pub record IsDoneNext (k : Known) (p : Parts) (kind : Kind) : Type 0 where
  pub next : IsSlotNext k p kind
  pub like : IsLike p reply.Done
  pub some : MayGiveSome k kind

-- entries that return an address of a set
pub record IsAddressNext (k : Known) (p : Parts) (id : Id) (free : NumberSet) : Type 0 where
  pub number : p.number ≡ number_of k p.caller
  pub due : DueReturns k p id
  pub each : EachIs k p (HasAddressOf free)
  pub next : (address : ℕ) → IsMember free address
      → (e : Entry) × IsNext k p e × (e.slot ≡ None) × (e.grown ≡ Zero) × (e.reply ≡ reply.Place address)

-- entries that give back a block of a kind, and one that gives back none
pub record IsBlockNext (k : Known) (p : Parts) (kind : Kind) : Type 0 where
  pub number : p.number ≡ number_of k p.caller
  pub due : DueGives k p kind
  pub each : EachIs k p (GivesBlock k.state kind)
  pub none : (e : Entry) × IsNext k p e × (e.slot ≡ None) × (e.grown ≡ Zero) × (e.reply ≡ reply.Value 0)
  pub next : (block : ℕ) → IsAllFree k.state kind block
      → (e : Entry) × IsNext k p e × (e.slot ≡ None) × (e.grown ≡ Back block) × (e.reply ≡ reply.Value 1)

-- a line that states a growth, of which no block has a use; the block that is looked at, from which number on the
-- least one is looked for, and the new block
pub record IsGrowing (k : Known) (p : Parts) (kind : Kind) (growth : Growth) (block from new : ℕ) : Type 0 where
  pub done : IsDoneNext k p kind
  pub fits : FitsKind p.grown kind
  pub new_is : first_stated p.grown ≡ Some new
  pub wants : (s : Slot) → MayGive k.numbers k.state kind p.grown s → IsLeastUnused k.numbers k.state from block
  pub other : (least : ℕ) → IsLeastUnused k.numbers k.state from least → block ≢ least
      → IsLeastOf k p.grown growth least
  pub gives : IsLeastUnused k.numbers k.state from block → MayGive k.numbers k.state kind p.grown (first_slot new)

-- ---- what is found in the input of `why`, its cause, and what is written of it

-- in a judgement, where the next line is the first that is not right
abbrev pub IsWrongOf : Judgement → Type 0
IsWrongOf j =
    IsNoRun (numbers_of j.scripts.now j.heap j.blocks) j.scripts.now j.text.now (j.count + 1)

abbrev pub IsReasonOf : Judgement → List ℕ → Type 0
IsReasonOf j written =
    IsWhy (numbers_of j.scripts.now j.heap j.blocks) j.scripts.now j.text.now written

-- ---- what is found

-- of a text
abbrev pub IsFoundOf : Numbers → List (List Cmd) → List ℕ → Finding → Type 0
IsFoundOf n lists text (Refused fault) = ⊥
IsFoundOf n lists text Run = IsRunText n lists text
IsFoundOf n lists text (NoRun written) = IsWhy n lists text written
