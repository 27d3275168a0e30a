-- What a command asks of the machine, what it returns, and how it leaves the machine.
use Rattle.std.specs.Prelude.{ℕ, ◌<◌, Some, ◌≡◌, ◌+◌, ◌≤◌, ◌^◌, Result}
use Rattle.hd_model.specs.declared.limits.TheConstants.{REGISTERS, FIELDS}
use Rattle.hd_plain.specs.MachineViews.{MachineView}
use Rattle.std.specs.FinMap.{get}
use Rattle.hd_model.specs.Anchors.{ReturnsRoot}
use Rattle.hd_model.specs.declared.data.Id.{Id}
use Rattle.hd_model.specs.declared.command.Cmd.{Cmd}
use Rattle.hd_model.specs.declared.data.Refusal.{Refusal}
use Rattle.hd_model.specs.declared.data.Reply.{Reply}
use Rattle.hd_model.specs.Valid.{IsValid}
use Rattle.hd_model.specs.WellFormed.{IsWellFormed}
use Rattle.hd_model.specs.UserLaws.{HasPinnedApart}
use Rattle.hd_model.specs.State.{State, Handle, count_of, register_of, last_serial}
use Rattle.hd_commands.specs.declared.done.Done.{Done}
use Rattle.hd_commands.specs.Done.{done_of}
use Rattle.hd_model.specs.declared.data.Grown.TheVariants.{Zero}
use Rattle.hd_model.specs.Command.{Outcome, reply_root}

-- a caller of the run, and a register that it has
abbrev pub MayUse : MachineView → ℕ → ℕ → Type 0
MayUse j caller d = (caller < j.numbers.callers) × (d < REGISTERS)

-- the same with another register, static or board index
abbrev pub MayUseBoth : MachineView → ℕ → ℕ → ℕ → Type 0
MayUseBoth j caller d s = (caller < j.numbers.callers) × (d < REGISTERS) × (s < REGISTERS)

-- what `new` asks of the machine
pub record MayMake (j : MachineView) (number d count : ℕ) : Type 0 where
  pub caller : number < j.numbers.callers
  pub register : d < REGISTERS
  pub fields : count ≤ FIELDS
  pub serial : last_serial j.state number + 1 < 2 ^ 32
  pub formed : IsWellFormed j.numbers j.state

-- no count of a handle is the last of 32 bits
abbrev pub HasSmallCounts : State → Type 0
HasSmallCounts s =
    (slot : ℕ) (handle : Handle Id) → get s.handles slot ≡ Some handle → count_of handle.extra + 1 < 2 ^ 32

-- what a command of a caller asks of the machine
pub record MayStep (j : MachineView) (number : ℕ) (c : Cmd) : Type 0 where
  pub caller : number < j.numbers.callers
  pub valid : IsValid c
  pub formed : IsWellFormed j.numbers j.state
  pub serial : last_serial j.state number + 1 < 2 ^ 32
  pub counts : HasSmallCounts j.state
  pub apart : HasPinnedApart j.state

-- a command came to an outcome
abbrev pub ComesTo : Outcome → MachineView → MachineView → Result Done Refusal → Type 0
ComesTo wanted old new result =
    (done_of result ≡ record { reply = wanted.reply; slot = wanted.slot; grown = Zero })
    × (new ≡ record old { state = wanted.after })

-- a search for what an object register references came to the reply that it has
pub record ComesToRoot (j : MachineView) (caller r : ℕ) (result : Result Done Refusal) : Type 0 where
  pub found : Reply
  pub is_root : (goal : Id) → register_of j.state caller r ≡ Some goal → ReturnsRoot j.state goal found
  pub comes : ComesTo (reply_root j.state caller r found) j j result
