-- What a call of one thread over a world of its own does.
use Rattle.std.specs.Prelude.{◌≡◌, ◌↔◌, ℕ, ◌+◌, ◌<◌, [], ◌∷◌, ◌++◌}
use Rattle.hd_model.specs.{declared.data.Entry.Entry, declared.data.Kind.Kind, declared.data.Reply.Reply, declared.command.Cmd.Cmd, State.given_of, Step.blocks_needed}
use Rattle.hd_model.specs.declared.data.Refusal.TheVariants as refusal
use Rattle.hd_model.specs.declared.data.Reply.TheVariants as reply
use Rattle.hd_model.specs.declared.command.Cmd.TheVariants as cmd
use Rattle.hd_model.specs.Run.{SoloStep, NoneFree, NoneAllFree}
use Rattle.hd_store.specs.Offers.{handle_slot, asks_of}
use Rattle.hd_world.specs.World.{WorldView}

-- a call that was done: its entry is the one more in the journal, and a step of one thread
pub record HasCalled (old new : WorldView) (caller : ℕ) (command : Cmd) (answer : Reply) : Type 0 where
  pub entry : Entry
  pub caller_is : entry.caller ≡ caller
  pub command_is : entry.cmd ≡ command
  pub reply_is : entry.reply ≡ answer
  pub journal : new.journal ≡ old.journal ++ entry ∷ []
  pub step : SoloStep old.numbers old.state entry new.state
  pub numbers : new.numbers ≡ old.numbers
  pub spare : new.spare + 1 ≡ old.spare

-- a command that needs a slot finds the table full exactly where no slot of its kind is free and fewer blocks
-- are without a use than the kind needs
abbrev pub FindsFullExactly : WorldView → ℕ → Cmd → Reply → Type 0
FindsFullExactly w caller command answer =
    (kind : Kind) → asks_of w.state caller command ≡ handle_slot kind
    → (answer ≡ reply.Refused (refusal.TableFull (given_of w.state)))
    ↔ (NoneFree w.state kind × (w.numbers.blocks < given_of w.state + blocks_needed kind))

-- `trim` returns 0 exactly where no block of its kind has all its slots free, and else 1
pub record TrimsExactly (w : WorldView) (command : Cmd) (answer : Reply) : Type 0 where
  pub none : (kind : Kind) → command ≡ cmd.Trim kind → (answer ≡ reply.Value 0) ↔ NoneAllFree w.state kind
  pub some : (kind : Kind) → command ≡ cmd.Trim kind → ¬ (NoneAllFree w.state kind) → answer ≡ reply.Value 1
