-- What may come after some lines of a text: the lines, and the entries that a command may have.
use Rattle.std.specs.Prelude.{◌≡◌, ℕ, ◌+◌, ◌<◌, ◌≤◌, ◌↔◌, ◌⊎◌, true, false, cond, List, [], ◌∷◌, ◌++◌, length, sum_by, slice_get, slice_index, Option, Some, None, option_map, AllPairs, Contains}
use Rattle.std.specs.FinMap.{get, len}
use Rattle.hd_model.specs.declared.command.Cmd.{Cmd}
use Rattle.hd_model.specs.declared.data.Entry.{Entry}
use Rattle.hd_model.specs.declared.data.Id.{Id}
use Rattle.hd_model.specs.declared.data.Kind.{Kind}
use Rattle.hd_model.specs.declared.data.Slot.{Slot}
use Rattle.hd_model.specs.declared.data.Grown.{Grown}
use Rattle.hd_model.specs.declared.data.Grown.TheVariants.{Zero, One, Two, Back}
use Rattle.hd_model.specs.declared.data.Refusal.TheVariants as refusal
use Rattle.hd_model.specs.declared.data.Reply.TheVariants as reply
use Rattle.hd_model.specs.declared.limits.TheConstants.{BLOCKS, CALLERS}
use Rattle.hd_model.specs.FullText.{full_line, full_lines}
use Rattle.hd_model.specs.RunTexts.{AreRight, GoesAlong, list_of}
use Rattle.hd_model.specs.Kinds.{is_paired}
use Rattle.hd_model.specs.PinnedAddresses.{IsFreeAddress}
use Rattle.hd_model.specs.State.{Numbers, State, IsAllFree, given_of, object_by_id, size_of}
use Rattle.hd_model.specs.Step.{Step, MayGive, IsLeastUnused, blocks_needed}
use Rattle.hd_model.specs.Text.{collections_of, end_text}
use Rattle.hd_audit.specs.Known.{Known}
use Rattle.hd_audit.specs.SoFar.{entries_of}
use Rattle.hd_audit.specs.declared.entry_choice.Entries.{Entries}
use Rattle.hd_audit.specs.declared.entry_choice.Entries.TheVariants as entries
use Rattle.hd_audit.specs.declared.entry_choice.PinnedCells.{PinnedCells}
use Rattle.hd_plain.specs.OneEntry.{HasExactly, HasOne, has_one_step}

-- ---- the lines that may come

-- the command of a caller that is due, and the number that its entry has among that caller's
abbrev pub due_of : Known → ℕ → Option Cmd
due_of k caller = slice_get (list_of k.lists caller) (slice_index k.done caller)

abbrev pub number_of : Known → ℕ → ℕ
number_of k caller = slice_index k.done caller + 1

-- a line is the full line of a step of the command that is due of some caller
pub record IsEntryLine (k : Known) (line : List ℕ) : Type 0 where
  pub entry : Entry
  pub after : State
  pub step : Step k.numbers k.state entry after
  pub due : due_of k entry.caller ≡ Some entry.cmd
  pub text : line ≡ full_line entry (number_of k entry.caller)

-- the end line of a run that ends here
abbrev pub end_after : Known → List ℕ
end_after k = end_text (len k.state.handles) (len k.state.objects) k.collections

-- a line is the end line, and all commands are done
pub record IsLastLine (k : Known) (line : List ℕ) : Type 0 where
  pub going : k.ended ≡ false
  pub none : k.left ≡ 0
  pub text : line ≡ end_after k

-- a line that may come
abbrev pub MayCome : Known → List ℕ → Type 0
MayCome k line = IsEntryLine k line ⊎ IsLastLine k line

-- the end line, where it was among the lines
abbrev pub end_lines : Known → List (List ℕ)
end_lines k = cond k.ended (end_after k ∷ []) []

-- this is known after lines of a run along the lists: its state and its numbers are those of the run, and
-- with one line more the lines are right exactly where that line may come
pub record IsBefore (n : Numbers) (lists : List (List Cmd)) (lines : List (List ℕ)) (k : Known) : Type 0 where
  pub numbers : k.numbers ≡ n
  pub lists_are : k.lists ≡ lists
  pub few_callers : n.callers ≤ CALLERS
  pub few_blocks : n.blocks ≤ BLOCKS
  pub journal : List Entry
  pub rest : List (List Cmd)
  pub along : GoesAlong n lists journal k.state (list_of rest)
  pub lines_are : lines ≡ full_lines journal ++ end_lines k
  pub each_rest : length rest ≡ n.callers
  pub counts : (c : ℕ) → c < n.callers → slice_index k.done c ≡ entries_of c journal
  pub left_is : k.left ≡ sum_by (λ (list : List Cmd). length list) rest
  pub collected : k.collections ≡ collections_of journal
  pub next : (line : List ℕ) → AreRight n lists (lines ++ line ∷ []) ↔ MayCome k line

-- ---- the entries that a command may have

-- an entry gives a new row of a kind a slot, or it is refused for a full table
abbrev pub TakesSlot : Numbers → State → Kind → Entry → Type 0
TakesSlot n s kind e =
    ((slot : Slot) × (e.slot ≡ Some slot) × MayGive n s kind e.grown slot × (e.reply ≡ reply.Done))
    ⊎ ((n.blocks < given_of s + blocks_needed kind)
    × (e.reply ≡ reply.Refused (refusal.TableFull (given_of s))) × (e.slot ≡ None) × (e.grown ≡ Zero))

-- an entry returns an address that is free for an object
abbrev pub ReturnsFree : State → Id → Entry → Type 0
ReturnsFree s id e =
    (address : ℕ) × IsFreeAddress s id address × (e.reply ≡ reply.Place address) × (e.slot ≡ None)
    × (e.grown ≡ Zero)

-- an entry gives back a block of a kind whose slots are all free, or none
abbrev pub GivesBlock : State → Kind → Entry → Type 0
GivesBlock s kind e =
    ((block : ℕ) × IsAllFree s kind block × (e.reply ≡ reply.Value 1) × (e.slot ≡ None)
    × (e.grown ≡ Back block))
    ⊎ ((e.reply ≡ reply.Value 0) × (e.slot ≡ None) × (e.grown ≡ Zero))

-- what is said of the entries of a caller's command
abbrev pub MayHave : Numbers → State → ℕ → Cmd → Entries → Type 0
MayHave n s caller c entries.OfTheStep = has_one_step c ≡ true
MayHave n s caller c (entries.One entry) = HasOne n s caller c entry
MayHave n s caller c (entries.InSlot kind) = HasExactly n s caller c (TakesSlot n s kind)
MayHave n s caller c (entries.AtAddress id) = HasExactly n s caller c (ReturnsFree s id)
MayHave n s caller c (entries.OfBlock kind) = HasExactly n s caller c (GivesBlock s kind)

-- ---- what the state has

-- the blocks by which the table grows for a kind: `Zero` where too few blocks have no use
abbrev pub IsGrowthFor : Numbers → State → Kind → Grown → Type 0
IsGrowthFor n s kind Zero = (grown : Grown) (slot : Slot) → MayGive n s kind grown slot → grown ≡ Zero
IsGrowthFor n s kind (One block) = (is_paired kind ≡ false) × IsLeastUnused n s 1 block
IsGrowthFor n s kind (Two block other) =
    (is_paired kind ≡ true) × IsLeastUnused n s 1 block × IsLeastUnused n s (block + 1) other
IsGrowthFor n s kind (Back block) = ⊥

-- the cells of an object, if it has a pinned address
abbrev pub pinned_cells : State → Id → Option PinnedCells
pinned_cells s id =
    option_map (λ address. record { first = address; count = size_of (object_by_id s id) })
    (get s.pinned id.0)

-- these are the cells of all objects that have pinned addresses, in rising address
pub record AreTaken (s : State) (cells : List PinnedCells) : Type 0 where
  pub only : (p : PinnedCells) → Contains cells p
      → (id : Id) × (get s.pinned id.0 ≡ Some p.first) × (p.count ≡ size_of (object_by_id s id))
  pub all : (id : Id) (address : ℕ) → get s.pinned id.0 ≡ Some address
      → Contains cells (record { first = address; count = size_of (object_by_id s id) })
  pub rising : AllPairs (λ (a b : PinnedCells). a.first < b.first) cells

-- law: after the same lines there is one state
abbrev pub OneStateBefore : Type 0
OneStateBefore =
    (n : Numbers) (lists : List (List Cmd)) (lines : List (List ℕ)) (j k : Known) → IsBefore n lists lines j
    → IsBefore n lists lines k → j.state ≡ k.state
