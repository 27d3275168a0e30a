-- Journals as runs of the machine.
use Rattle.std.specs.Prelude.{◌≡◌, ℕ, ◌≤◌, ◌⊎◌, ◌==◌, List, [], ◌∷◌, Some, filter, map}
use Rattle.std.specs.List.Sorted.{IsNonDecreasingBy}
use Rattle.hd_model.specs.Data.{Entry, Kind, Slot, Cmd, Class}
use Rattle.hd_model.specs.declared.data.Grown.TheVariants.{Zero, Back}
use Rattle.hd_model.specs.declared.class.Class.TheVariants as class
use Rattle.hd_model.specs.Class.{class_of}
use Rattle.hd_model.specs.State.{Numbers, State, start_of, IsFree, IsAllFree}
use Rattle.hd_model.specs.Kinds.{kind_of}
use Rattle.hd_model.specs.Command.{Adding, is_refused, in_idle, in_new, adding_of}
use Rattle.hd_model.specs.declared.data.Kind.TheVariants as kind
use Rattle.hd_model.specs.Step.{Step}

-- entries one after another, each a step from the state that the one before left
pub data Chain {S : Type 0} (R : S → Entry → S → Type 0) : S → List Entry → S → Type 0 where
  stay : {s : S} → Chain R s [] s
  link : {s t u : S} {e : Entry} {es : List Entry} → R s e t → Chain R t es u → Chain R s (e ∷ es) u

-- a journal is a run that replays to a state: its entries lead there from the start
abbrev pub Run : Numbers → List Entry → State → Type 0
Run n journal s = Chain (Step n) (start_of n) journal s

-- the least free slot of a kind
pub record IsLeastFree (s : State) (kind : Kind) (slot : Slot) : Type 0 where
  pub free : IsFree s kind slot
  pub least : (other : Slot) → IsFree s kind other → slot.0 ≤ other.0

-- no slot of the kind is free
abbrev pub NoneFree : State → Kind → Type 0
NoneFree s kind = (slot : Slot) → IsFree s kind slot → ⊥

-- the least block of a kind whose slots are all free
pub record IsLeastAllFree (s : State) (kind : Kind) (block : ℕ) : Type 0 where
  pub free : IsAllFree s kind block
  pub least : (other : ℕ) → IsAllFree s kind other → block ≤ other

-- in each block of the kind some slot is not free
abbrev pub NoneAllFree : State → Kind → Type 0
NoneAllFree s kind = (block : ℕ) → IsAllFree s kind block → ⊥

-- `hnew` gives the least free slot of the kind without growth; only where there is none the table grows, or
-- the command is refused
abbrev pub GivesLeast : State → Entry → Kind → Type 0
GivesLeast s e kind =
    ((slot : Slot) × IsLeastFree s kind slot × (e.slot ≡ Some slot) × (e.grown ≡ Zero)) ⊎ NoneFree s kind

-- `trim` gives back the least block of the kind whose slots are all free; it gives back none only where there
-- is no such block
abbrev pub GivesBackLeast : State → Entry → Kind → Type 0
GivesBackLeast s e kind =
    ((block : ℕ) × IsLeastAllFree s kind block × (e.grown ≡ Back block)) ⊎ NoneAllFree s kind

-- a `cadd` that needs a slot takes it as an `hnew` of a dependent handle does
abbrev pub AddsLeast : State → Entry → Adding → Type 0
AddsLeast s e (is_refused refusal) = Unit {0}
AddsLeast s e (in_idle slot key) = Unit {0}
AddsLeast s e (in_new key) = GivesLeast s e kind.Dependent

-- what the one thread of a solo run chooses, where a step leaves a choice
abbrev pub ChoosesLeast : State → Entry → Class → Type 0
ChoosesLeast s e (class.MakesObject fields) = Unit {0}
ChoosesLeast s e (class.TakesSlot make t) = GivesLeast s e (kind_of make)
ChoosesLeast s e (class.StoresTarget h t) = Unit {0}
ChoosesLeast s e (class.StoresSecondary h) = Unit {0}
ChoosesLeast s e class.Frees = Unit {0}
ChoosesLeast s e (class.GivesBack kind) = GivesBackLeast s e kind
ChoosesLeast s e (class.Collects n) = Unit {0}
ChoosesLeast s e (class.RepliesAddress h) = Unit {0}
ChoosesLeast s e (class.AddsEntry k v) = AddsLeast s e (adding_of s e.caller k)
ChoosesLeast s e (class.LooksUp k) = Unit {0}
ChoosesLeast s e (class.Searches r) = Unit {0}
ChoosesLeast s e class.Plain = Unit {0}

abbrev pub TakesLeast : State → Entry → Cmd → Type 0
TakesLeast s e c = ChoosesLeast s e (class_of c)

-- a step of one thread
pub record SoloStep (n : Numbers) (old : State) (e : Entry) (new : State) : Type 0 where
  pub step : Step n old e new
  pub least : TakesLeast old e e.cmd

-- a run of callers taken one after another, in rising number
pub record SoloRun (n : Numbers) (journal : List Entry) (s : State) : Type 0 where
  pub steps : Chain (SoloStep n) (start_of n) journal s
  pub rising : IsNonDecreasingBy (λ (e : Entry). e.caller) journal

-- a caller's part of a journal: its entries, in their order
abbrev pub part_of : List Entry → ℕ → List Entry
part_of journal caller = filter (λ (e : Entry). e.caller == caller) journal

-- the commands of a list of entries
abbrev pub commands_of : List Entry → List Cmd
commands_of entries = map (λ (e : Entry). e.cmd) entries
