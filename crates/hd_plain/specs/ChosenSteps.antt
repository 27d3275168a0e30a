-- What a step by the choice that a line states comes to.
use Rattle.std.specs.Prelude.{ℕ, Option, Some, ◌≡◌, None, Result}
use Rattle.hd_model.specs.declared.command.Cmd.{Cmd}
use Rattle.hd_model.specs.declared.data.Entry.{Entry}
use Rattle.hd_model.specs.declared.data.Reply.TheVariants.{Place}
use Rattle.hd_model.specs.declared.data.Refusal.{Refusal}
use Rattle.hd_model.specs.State.{State}
use Rattle.hd_commands.specs.declared.done.Done.{Done}
use Rattle.hd_commands.specs.Done.{done_of, entry_by}
use Rattle.hd_model.specs.Step.{Step, TakesWay, Way}
use Rattle.hd_plain.specs.declared.choice.Choice.{Choice}
use Rattle.hd_plain.specs.MachineViews.{MachineView}

-- an entry has the choice that a line states: the entry's caller, slot and blocks, and the address that it
-- returns
pub record HasChoice (e : Entry) (choice : Choice) : Type 0 where
  pub caller : choice.caller ≡ e.caller
  pub slot : choice.slot ≡ e.slot
  pub grown : choice.grown ≡ e.grown
  pub address : (p : ℕ) → e.reply ≡ Place p → choice.address ≡ p

-- the entry of a command of a caller is that of a step, and the only one that the line can be of
pub record IsTheStep (old : MachineView) (c : Cmd) (choice : Choice) (e : Entry)
    (new : MachineView) : Type 0 where
  pub caller : e.caller ≡ choice.caller
  pub command : e.cmd ≡ c
  pub step : Step old.numbers old.state e new.state
  pub numbers : new.numbers ≡ old.numbers
  pub only : (other : Entry) (after : State) → Step old.numbers old.state other after
      → other.caller ≡ choice.caller → other.cmd ≡ c → HasChoice other choice → other ≡ e

-- the line is that of no step of a command of the caller
abbrev pub IsNoStep : MachineView → Cmd → Choice → Type 0
IsNoStep old c choice =
    (e : Entry) (after : State) → Step old.numbers old.state e after → e.caller ≡ choice.caller → e.cmd ≡ c
    → HasChoice e choice → ⊥

-- what a step by the choice that a line states came to
abbrev pub StepsBy : MachineView → Cmd → Choice → MachineView → Option Entry → Type 0
StepsBy old c choice new None = IsNoStep old c choice
StepsBy old c choice new (Some e) = IsTheStep old c choice e new

-- a command goes by a way to the choice that a line states: the entry is one of it, and the only one that
-- the line can be of
pub record GoesBy (caller : ℕ) (c : Cmd) (way : Way) (choice : Choice) (old new : MachineView)
    (made : Done) : Type 0
  where
    pub does : TakesWay old.numbers old.state (entry_by caller c made) new.state way
    pub numbers : new.numbers ≡ old.numbers
    pub only : (e : Entry) (after : State) → TakesWay old.numbers old.state e after way → e.caller ≡ caller
        → e.cmd ≡ c → HasChoice e choice → e ≡ entry_by caller c made

-- no entry of the way has the choice that the line states
abbrev pub GoesNowhere : ℕ → Way → Choice → MachineView → Type 0
GoesNowhere caller way choice old =
    (e : Entry) (after : State) → TakesWay old.numbers old.state e after way → e.caller ≡ caller
    → HasChoice e choice → ⊥

abbrev pub WayComesTo : ℕ → Way → Choice → MachineView → MachineView → Option (Result Done Refusal) → Type 0
WayComesTo caller way choice old new None = GoesNowhere caller way choice old
WayComesTo caller way choice old new (Some result) =
    (c : Cmd) → GoesBy caller c way choice old new (done_of result)
