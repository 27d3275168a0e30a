-- The ages that a journal leaves. They are this project's own, and no reply of the machine depends on them.
use Rattle.std.specs.Prelude.{◌≡◌, ℕ, ◌*◌, Bool, true, false, cond, List, replicate, Option, Some, None}
use Rattle.std.specs.Option.{option_map_or}
use Rattle.hd_model.specs.Data.{Id, Slot, Entry, Make, Reply, Cmd, Class}
use Rattle.hd_model.specs.declared.data.Reply.TheVariants as reply
use Rattle.hd_model.specs.declared.class.Class.TheVariants as class
use Rattle.hd_model.specs.Kinds.{secondary_register}
use Rattle.hd_model.specs.Class.{class_of}
use Rattle.hd_model.specs.declared.limits.TheConstants.{CLUMPS, OLDEST}
use Rattle.hd_model.specs.State.{Numbers, State, start_of, register_of, handle_register_of}
use Rattle.hd_model.specs.Scene.{scene_of, generation_at}
use Rattle.hd_model.specs.Ages.{lowered, grown}
use Rattle.hd_model.specs.Step.{Step}
use Rattle.hd_model.specs.Run.{Chain}

-- whether a command was refused
abbrev pub is_refused : Reply → Bool
is_refused reply.Done = false
is_refused (reply.Object id) = false
is_refused reply.Nothing = false
is_refused (reply.Value v) = false
is_refused (reply.Generation g) = false
is_refused (reply.Place p) = false
is_refused (reply.Report r) = false
is_refused reply.NoneQueued = false
is_refused reply.Absent = false
is_refused (reply.Chain from edges) = false
is_refused reply.Unrooted = false
is_refused (reply.Refused r) = true

-- the ages with that of a slot's clump lowered to g; nothing is lowered where there is no slot
abbrev pub lowered_at : List ℕ → Option Slot → ℕ → List ℕ
lowered_at ages None g = ages
lowered_at ages (Some slot) g = lowered ages slot.0 g

-- the ages with that of a slot's clump lowered to the generation of what is stored there; null lowers none
abbrev pub lowered_to : State → List ℕ → Option Slot → Option Id → List ℕ
lowered_to s ages slot None = ages
lowered_to s ages slot (Some x) = lowered_at ages slot (generation_at (scene_of s).object x)

-- the ages after a handle is made in a slot with a target: a dependent one, which may get any secondary,
-- makes the age 0
abbrev pub lowered_by_new : State → List ℕ → Option Slot → Make → Option Id → List ℕ
lowered_by_new s ages slot make t =
    option_map_or (λ _. lowered_at ages slot 0) (secondary_register make) (lowered_to s ages slot t)

-- the ages after a command of a class, of a caller, that was not refused, with its entry's `slot`
abbrev pub aged_by_class : State → ℕ → Option Slot → List ℕ → Class → List ℕ
aged_by_class s caller slot ages (class.MakesObject fields) = ages
aged_by_class s caller slot ages (class.TakesSlot make t) =
    lowered_by_new s ages slot make (register_of s caller t)
aged_by_class s caller slot ages (class.StoresTarget h t) =
    lowered_to s ages (handle_register_of s caller h) (register_of s caller t)
aged_by_class s caller slot ages (class.StoresSecondary h) =
    lowered_at ages (handle_register_of s caller h) 0
aged_by_class s caller slot ages class.Frees = ages
aged_by_class s caller slot ages (class.GivesBack kind) = ages
aged_by_class s caller slot ages (class.Collects n) = grown n ages
aged_by_class s caller slot ages (class.RepliesAddress h) = ages
aged_by_class s caller slot ages (class.AddsEntry k v) = lowered_at ages slot 0
aged_by_class s caller slot ages (class.LooksUp k) = ages
aged_by_class s caller slot ages (class.Searches r) = ages
aged_by_class s caller slot ages class.Plain = ages

abbrev pub aged_by_command : State → ℕ → Option Slot → List ℕ → Cmd → List ℕ
aged_by_command s caller slot ages c = aged_by_class s caller slot ages (class_of c)

-- the ages after an entry, from the state before it
abbrev pub aged_by : State → Entry → List ℕ → List ℕ
aged_by s e ages = cond (is_refused e.reply) ages (aged_by_command s e.caller e.slot ages e.cmd)

-- a state with the ages of the clumps
pub record Aged : Type 0 where
  pub state : State
  pub ages : List ℕ

-- a step of the state and the ages
pub record AgedStep (n : Numbers) (old : Aged) (e : Entry) (new : Aged) : Type 0 where
  pub step : Step n old.state e new.state
  pub ages : new.ages ≡ aged_by old.state e old.ages

-- at the start each age is 2
abbrev pub aged_start : Numbers → Aged
aged_start n = record { state = start_of n; ages = replicate (CLUMPS * n.blocks) OLDEST }

-- a journal is a run that replays to a state and leaves these ages
abbrev pub AgedRun : Numbers → List Entry → State → List ℕ → Type 0
AgedRun n journal s ages = Chain (AgedStep n) (aged_start n) journal (record { state = s; ages = ages })
