-- Laws of steps and runs in the words of someone who holds handles. Each is the contract of a public function
-- of this crate.
use Rattle.std.specs.Prelude.{◌≡◌, ◌≢◌, ℕ, ◌+◌, ◌<◌, ◌≤◌, ◌^◌, ◌⊎◌, if◌then◌else◌, List, [], ◌∷◌, ◌++◌, length, Some, None, option_to_list}
use Rattle.std.specs.FinMap.{get}
use Rattle.hd_model.specs.Data.{Id, Entry, Cmd}
use Rattle.hd_model.specs.declared.data.Reply.TheVariants as reply
use Rattle.hd_model.specs.declared.command.Cmd.TheVariants as cmd
use Rattle.hd_model.specs.State.{Numbers, State, Object, register_of}
use Rattle.hd_model.specs.Step.{Step}
use Rattle.hd_model.specs.Run.{Chain, Run}
use Rattle.hd_model.specs.WellFormed.{IsWellFormed}
use Rattle.hd_model.specs.Touched.{touched_by}
use Rattle.hd_model.specs.Laws.{object_returned}

-- an object has a pinned address, and its cells go from there to an end: one for each field, and three
pub record TakesCells (s : State) (x : Id) (first end : ℕ) : Type 0 where
  pub object : Object Id
  pub is_stored : get s.objects x.0 ≡ Some object
  pub address : get s.pinned x.0 ≡ Some first
  pub end_is : end ≡ first + (length object.fields + 3)

-- in every state of a run a pinned address is below 2^32, and two objects that have pinned addresses share no
-- cell
pub record HasPinnedApart (s : State) : Type 0 where
  pub small : (x : Id) (first end : ℕ) → TakesCells s x first end → first < 2 ^ 32
  pub apart :
      (x y : Id) (first end other other_end : ℕ) → TakesCells s x first end → TakesCells s y other other_end
      → x ≢ y → (end ≤ other) ⊎ (other_end ≤ first)

abbrev pub PinnedObjectsDoNotOverlap : Type 0
PinnedObjectsDoNotOverlap = (n : Numbers) (journal : List Entry) (s : State) → Run n journal s
    → HasPinnedApart s

-- what `final` does to the queue and its register: it takes the first object and leaves the rest in order
pub record TakesFirst (s : State) (e : Entry) (t : State) (d : ℕ) : Type 0 where
  pub some :
      (id : Id) (rest : List Id) → s.queue ≡ id ∷ rest
      → (e.reply ≡ reply.Object id) × (t.queue ≡ rest) × (register_of t e.caller d ≡ Some id)
  pub none : s.queue ≡ [] → (e.reply ≡ reply.NoneQueued) × (t.queue ≡ []) × (register_of t e.caller d ≡ None)

abbrev pub FinalTakesTheFirst : Type 0
FinalTakesTheFirst =
    (n : Numbers) (s t : State) (e : Entry) (d : ℕ) → IsWellFormed n s → Step n s e t → e.cmd ≡ cmd.Final d
    → TakesFirst s e t d

-- what changes the queue
pub data ChangesQueue : Cmd → Type 0 where
  takes : (d : ℕ) → ChangesQueue (cmd.Final d)
  collects : (k : ℕ) → ChangesQueue (cmd.Collect k)

-- nothing but `final` and a collection changes the queue
abbrev pub QueueIsLeft : Type 0
QueueIsLeft =
    (n : Numbers) (s t : State) (e : Entry) → Step n s e t → (ChangesQueue e.cmd → ⊥) → t.queue ≡ s.queue

-- the object that an entry took out of the queue, and those that a list of entries took out, in order
abbrev pub taken_by : Entry → List Id
taken_by e = if (touched_by e.cmd).queue then option_to_list (object_returned e.reply) else []

abbrev pub taken : List Entry → List Id
taken [] = []
taken (e ∷ es) = taken_by e ++ taken es

-- first in, first out: what `final` returns, and what is still queued, is what was queued and then what
-- joined
abbrev pub QueueGoesInTurn : Type 0
QueueGoesInTurn =
    (n : Numbers) (s t : State) (es : List Entry) → Chain (Step n) s es t
    → (joined : List Id) × (taken es ++ t.queue ≡ s.queue ++ joined)

-- a step of a caller by a command
pub record Does (n : Numbers) (s : State) (caller : ℕ) (c : Cmd) : Type 0 where
  pub entry : Entry
  pub after : State
  pub caller_is : entry.caller ≡ caller
  pub command : entry.cmd ≡ c
  pub step : Step n s entry after
