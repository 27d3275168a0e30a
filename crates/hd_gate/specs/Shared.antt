-- What contracts see of callers in threads, and what a call of one of them does.
use Rattle.std.specs.Prelude.{◌≡◌, ◌≢◌, ℕ, ◌+◌, ◌<◌, ◌≤◌, Bool, true, false, Some, List, [], ◌∷◌, ◌++◌, length, slice_index, slice_index_or}
use Rattle.atomic_table.specs.Seated.{TableId}
use Rattle.hd_model.specs.{declared.data.Entry.Entry, declared.data.Kind.Kind, declared.data.Grown.TheVariants.Zero, declared.data.Reply.Reply, declared.data.Slot.Slot, declared.command.Cmd.Cmd, Kinds.kind_number, Step.Step, Step.blocks_needed, Run.Run, Run.part_of}
use Rattle.hd_model.specs.declared.data.Refusal.TheVariants as refusal
use Rattle.hd_model.specs.declared.data.Reply.TheVariants as reply
use Rattle.hd_model.specs.State.{Numbers, State, handles_of, use_of, block_of}
use Rattle.hd_custody.specs.Traces.{Did, follow, sweep, missed, push, found}
use Rattle.hd_custody.specs.{Calls.ShowsNone, Misses.WholeMiss, Views.Named, Views.IsPrefix}
use Rattle.hd_store.specs.Offers.{Asks, object_room, handle_slot, block_back, no_room, asks_of, FitsHeap}
use Rattle.hd_slots.specs.{declared.change.Change.Change, Change.change_in, Change.change_of}
use Rattle.hd_slots.specs.declared.change.Change.TheVariants.{Takes, Adds, Frees, GivesBack, Keeps}

-- of the last call that looked for slots or released one: the steps on the shared words, how many such calls
-- there were, and whether the caller held no slot, and whether it had the gate, as that one began
pub record SearchView : Type 0 where
  pub trace : List Did
  pub trace_number : ℕ
  pub began_empty : Bool
  pub began_with_gate : Bool

-- a caller: its table with the numbers of the run, its own number, its entries so far, how many more it may
-- add, the whole journal as it was when it last took the gate or gave it back, how often it did either, and
-- its last search
pub record CallerView : Type 0 where
  pub table : TableId
  pub numbers : Numbers
  pub number : ℕ
  pub part : List Entry
  pub room : ℕ
  pub seen : List Entry
  pub gate_steps : ℕ
  pub search : SearchView

-- a caller of the shared world s
pub record IsCallerOf (s : Named) (p : CallerView) : Type 0 where
  pub table : p.table ≡ s.table
  pub numbers : p.numbers ≡ s.numbers

-- all callers of the shared world s, each at the index of its number
pub record AreAll (s : Named) (callers : List CallerView) : Type 0 where
  pub count : length callers ≡ s.numbers.callers
  pub each : (c : ℕ) (d : CallerView) → c < length callers → IsCallerOf s (slice_index_or callers c d)
  pub in_order : (c : ℕ) (d : CallerView) → c < length callers → (slice_index_or callers c d).number ≡ c

-- they have done and seen nothing, and each has its room
pub record Begin (given : List ℕ) (callers : List CallerView) : Type 0 where
  pub parts : (c : ℕ) (d : CallerView) → c < length callers → (slice_index_or callers c d).part ≡ []
  pub rooms : (c : ℕ) (d : CallerView) → c < length callers → (slice_index_or callers c d).room
      ≡ slice_index given c
  pub seen : (c : ℕ) (d : CallerView) → c < length callers → (slice_index_or callers c d).seen ≡ []

-- a journal has of each caller exactly its part, and of nobody else an entry; and it begins with what each
-- caller has seen
pub record HasParts (callers : List CallerView) (journal : List Entry) : Type 0 where
  pub each : (c : ℕ) (d : CallerView) → c < length callers
      → part_of journal c ≡ (slice_index_or callers c d).part
  pub others : (c : ℕ) → length callers ≤ c → part_of journal c ≡ []
  pub seen : (c : ℕ) (d : CallerView) → c < length callers
      → IsPrefix (slice_index_or callers c d).seen journal

-- the same caller, at another time
pub record IsSameCaller (old new : CallerView) : Type 0 where
  pub table : new.table ≡ old.table
  pub numbers : new.numbers ≡ old.numbers
  pub number : new.number ≡ old.number

-- whether a command looks for slots with the gate, by what it does to the free slots: a `cadd` does, since
-- whether it needs one is asked there, and all others look and release without it
abbrev pub looks_with_gate : Change → Bool
looks_with_gate (Takes kind) = false
looks_with_gate Adds = true
looks_with_gate Frees = false
looks_with_gate (GivesBack kind) = false
looks_with_gate Keeps = false

-- between old and new there was one call that looks for slots or releases one, which began without a slot,
-- and with the gate or without it, and the trace has its steps
pub record OwnSteps (with_gate : Bool) (old new : SearchView) : Type 0 where
  pub one : new.trace_number ≡ old.trace_number + 1
  pub began_empty : new.began_empty ≡ true
  pub began_with_gate : new.began_with_gate ≡ with_gate

-- between old and new a search for a slot of the kind, in a table of this number of blocks, went over all
-- words of the kind and all blocks, and each gave none
pub record OwnMiss (kind : Kind) (with_gate : Bool) (blocks : ℕ) (old new : SearchView) : Type 0 where
  pub own : OwnSteps with_gate old new
  pub miss : WholeMiss (kind_number kind) blocks new.trace

-- between old and new a search for a whole block of the kind ended with none: no mask of all rows came with
-- the kind loaded after it
pub record OwnSweep (kind : Kind) (with_gate : Bool) (blocks : ℕ) (old new : SearchView) : Type 0 where
  pub own : OwnSteps with_gate old new
  pub ended : follow (kind_number kind) blocks (sweep 0) new.trace ≡ missed
  pub none : ShowsNone (kind_number kind) new.trace

-- a command that needs a slot grows the table, or finds it full, only on a miss of its own; and it finds it
-- full only where fewer blocks are without a use than the kind needs
pub record GrowsOnMiss (kind : Kind) (with_gate : Bool) (blocks : ℕ) (old new : SearchView) (e : Entry) :
    Type 0 where
  pub grows : e.grown ≢ Zero → OwnMiss kind with_gate blocks old new
  pub full : (given : ℕ) → e.reply ≡ reply.Refused (refusal.TableFull given)
      → OwnMiss kind with_gate blocks old new
  pub few : (given : ℕ) → e.reply ≡ reply.Refused (refusal.TableFull given)
      → blocks < given + blocks_needed kind

-- what was looked for before the entry that says that it is not there; `trim` gives no block back only on a
-- sweep of its own
abbrev pub LookedFor : Asks → Bool → ℕ → SearchView → SearchView → Entry → Type 0
LookedFor (object_room fields) with_gate blocks old new e = Unit {0}
LookedFor (handle_slot kind) with_gate blocks old new e = GrowsOnMiss kind with_gate blocks old new e
LookedFor (block_back kind) with_gate blocks old new e =
    e.reply ≡ reply.Value 0 → OwnSweep kind with_gate blocks old new
LookedFor no_room with_gate blocks old new e = Unit {0}

-- between old and new it released the slot that the entry freed, once, in these steps, without the gate, as
-- one of the kind that its block had, and looked for none
pub record OwnRelease (before : State) (blocks : ℕ) (old new : SearchView) (e : Entry) : Type 0 where
  pub slot : Slot
  pub kind : Kind
  pub freed : e.slot ≡ Some slot
  pub of_kind : use_of before (block_of slot) ≡ Some (handles_of kind)
  pub one : new.trace_number ≡ old.trace_number + 1
  pub began_with_gate : new.began_with_gate ≡ false
  pub steps : follow (kind_number kind) blocks (push 0 slot.0) new.trace ≡ found 0

-- `hfree` that is done releases the slot that it freed, and one that is refused releases none
pub record ReleasesOne (before : State) (blocks : ℕ) (old new : SearchView) (e : Entry) : Type 0 where
  pub done : e.reply ≡ reply.Done → OwnRelease before blocks old new e
  pub refused : e.reply ≢ reply.Done → new ≡ old

-- how often it looked for slots or released one, at a step from the state `before`: `hnew`, a `cadd` that
-- needs a slot and `trim` look once, and other commands than these and `hfree` do neither
abbrev pub SlotCalls : Change → Bool → State → ℕ → SearchView → SearchView → Entry → Type 0
SlotCalls (Takes kind) with_gate before blocks old new e = OwnSteps with_gate old new
SlotCalls Adds with_gate before blocks old new e = new ≡ old
SlotCalls Frees with_gate before blocks old new e = ReleasesOne before blocks old new e
SlotCalls (GivesBack kind) with_gate before blocks old new e = OwnSteps with_gate old new
SlotCalls Keeps with_gate before blocks old new e = new ≡ old

-- what the caller found under the gate: the journal, which begins with all that the caller had seen, is a run
-- of the machine to a state, and has as the caller's own part what that was as the call began
pub record FoundJournal (old : CallerView) : Type 0 where
  pub journal : List Entry
  pub state : State
  pub run : Run old.numbers journal state
  pub part : part_of journal old.number ≡ old.part
  pub goes_on : IsPrefix old.seen journal

-- a caller once it took the gate, saw this journal, and gave the gate back with that
abbrev pub having_seen : List Entry → CallerView → CallerView
having_seen journal p = record p { seen = journal; gate_steps = p.gate_steps + 2 }

-- out of memory: in the state that it found, whose journal it has seen now, the object of the command would
-- fit into the heap
pub record HadRoom (old new : CallerView) (command : Cmd) : Type 0 where
  pub found : FoundJournal old
  pub seen : new.seen ≡ found.journal
  pub fits : FitsHeap old.numbers found.state command

-- A command was done: the caller has one entry more, with the command and its reply, and room for one less.
-- The entry is a step of the machine from the state that the caller found, and the caller has seen the
-- journal that it found with that entry more. It took the gate once, and gave it back once.
pub record HasDone (old new : CallerView) (command : Cmd) (answer : Reply) : Type 0 where
  pub entry : Entry
  pub found : FoundJournal old
  pub after : State
  pub step : Step old.numbers found.state entry after
  pub caller_is : entry.caller ≡ old.number
  pub command_is : entry.cmd ≡ command
  pub reply_is : entry.reply ≡ answer
  pub part : new.part ≡ old.part ++ entry ∷ []
  pub room : new.room + 1 ≡ old.room
  pub seen : new.seen ≡ found.journal ++ entry ∷ []
  pub gate_steps : new.gate_steps ≡ old.gate_steps + 2
  pub looked_for : LookedFor (asks_of found.state old.number command) (looks_with_gate (change_of command))
      old.numbers.blocks old.search new.search entry
  pub slot_calls : SlotCalls (change_in found.state old.number command) (looks_with_gate (change_of command))
      found.state old.numbers.blocks old.search new.search entry
