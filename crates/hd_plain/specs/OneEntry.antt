-- The commands that have one entry, and that entry.
use Rattle.std.specs.Prelude.{◌≡◌, ℕ, ◌↔◌, Bool, true, false}
use Rattle.hd_model.specs.declared.command.Cmd.{Cmd}
use Rattle.hd_model.specs.declared.class.Class.{Class}
use Rattle.hd_model.specs.declared.class.Class.TheVariants as class
use Rattle.hd_model.specs.Class.{class_of}
use Rattle.hd_model.specs.declared.data.Entry.{Entry}
use Rattle.hd_model.specs.State.{Numbers, State}
use Rattle.hd_model.specs.Step.{Step}

-- the entries of the steps of a caller's command are exactly these
abbrev pub HasExactly : Numbers → State → ℕ → Cmd → (Entry → Type 0) → Type 0
HasExactly n s caller c P =
    (e : Entry) → e.caller ≡ caller → e.cmd ≡ c → ((after : State) × Step n s e after) ↔ P e

-- this one alone
pub record HasOne (n : Numbers) (s : State) (caller : ℕ) (c : Cmd) (entry : Entry) : Type 0 where
  pub caller_is : entry.caller ≡ caller
  pub command : entry.cmd ≡ c
  pub only : HasExactly n s caller c (λ e. e ≡ entry)

-- the commands that have one entry, which is found by making the step, by their class
abbrev pub class_has_one_step : Class → Bool
class_has_one_step (class.MakesObject fields) = true
class_has_one_step (class.TakesSlot make t) = false
class_has_one_step (class.StoresTarget h t) = true
class_has_one_step (class.StoresSecondary h) = true
class_has_one_step class.Frees = true
class_has_one_step (class.GivesBack kind) = false
class_has_one_step (class.Collects n) = true
class_has_one_step (class.RepliesAddress h) = false
class_has_one_step (class.AddsEntry k v) = false
class_has_one_step (class.LooksUp k) = true
class_has_one_step (class.Searches s) = true
class_has_one_step class.Plain = true

abbrev pub has_one_step : Cmd → Bool
has_one_step c = class_has_one_step (class_of c)
