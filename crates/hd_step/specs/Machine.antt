-- What a dialogue sees of a machine that takes commands.
use Rattle.std.specs.Prelude.{◌≡◌, ℕ, ◌+◌, List, [], ◌∷◌, ◌++◌}
use Rattle.hd_model.specs.declared.command.Cmd.{Cmd}
use Rattle.hd_model.specs.declared.data.Entry.{Entry}
use Rattle.hd_model.specs.declared.data.Reply.{Reply}
use Rattle.hd_model.specs.declared.limits.TheConstants.{CALLERS, MOST_COMMANDS}
use Rattle.hd_model.specs.State.{Numbers, State, start_of}
use Rattle.hd_model.specs.Step.{Step}

-- its numbers, its state, the journal that led there, and for how many more entries there is room
pub record MachineView : Type 0 where
  pub numbers : Numbers
  pub state : State
  pub journal : List Entry
  pub spare : ℕ

-- a machine at its start, for all callers, with room for as many commands as a script may have
pub record IsNew (w : MachineView) : Type 0 where
  pub callers : w.numbers.callers ≡ CALLERS
  pub empty : w.journal ≡ []
  pub state : w.state ≡ start_of w.numbers
  pub room : w.spare ≡ MOST_COMMANDS

-- a command of a caller was done: its entry is the one more in the journal, and a step
pub record HasDone (old new : MachineView) (caller : ℕ) (command : Cmd) (answer : Reply) : Type 0 where
  pub entry : Entry
  pub caller_is : entry.caller ≡ caller
  pub command_is : entry.cmd ≡ command
  pub reply_is : entry.reply ≡ answer
  pub journal : new.journal ≡ old.journal ++ entry ∷ []
  pub step : Step old.numbers old.state entry new.state
  pub numbers : new.numbers ≡ old.numbers
  pub spare : new.spare + 1 ≡ old.spare
