-- What a command does that needs the parts of a machine alone.
use Rattle.std.specs.Prelude.{◌≡◌, ◌<◌, ℕ, Bool, true, false, Result}
use Rattle.hd_model.specs.{declared.class.Class.Class, declared.command.Cmd.Cmd, declared.data.Refusal.Refusal, Aging.aged_by, Step.Way, Valid.IsValid, WellFormed.HasHandles}
use Rattle.hd_model.specs.Step.{decided, makes_object, makes_handle, collects, replies_address, gives_back, adds_entry, replies_root}
use Rattle.hd_model.specs.declared.class.Class.TheVariants as class
use Rattle.hd_model.specs.declared.command.Cmd.TheVariants as cmd
use Rattle.hd_commands.specs.{Counts.MayCountUp, Seen.HasObject, Seen.Seen, declared.done.Done.Done}
use Rattle.hd_commands.specs.Done.{ComesToAged, done_of, entry_by}

-- whether a command of the class needs the parts of a machine alone: no memory, slot, block or address, nor
-- the weak table
abbrev pub needs_parts_alone : Class → Bool
needs_parts_alone (class.MakesObject fields) = false
needs_parts_alone (class.TakesSlot make t) = false
needs_parts_alone (class.StoresTarget h t) = true
needs_parts_alone (class.StoresSecondary h) = true
needs_parts_alone class.Frees = true
needs_parts_alone (class.GivesBack kind) = false
needs_parts_alone (class.Collects n) = false
needs_parts_alone (class.RepliesAddress h) = false
needs_parts_alone (class.AddsEntry k v) = false
needs_parts_alone (class.LooksUp k) = false
needs_parts_alone (class.Searches r) = false
needs_parts_alone class.Plain = true

-- what such a command of a caller asks of the machine
pub record MayDo {N R : Type 0} (p : Seen N R) (number : ℕ) (c : Cmd) : Type 0 where
  pub caller : number < p.numbers.callers
  pub valid : IsValid c
  pub handles : HasHandles p.numbers p.state
  pub objects : (d : ℕ) → HasObject p number d
  pub count : (h : ℕ) → c ≡ cmd.HUp h → MayCountUp p.state number h

-- a command came to the outcome that the state decides, with the ages that its entry leaves
abbrev pub DecidedBy : {N R : Type 0} → Way → Seen N R → ℕ → Cmd → Seen N R → Result Done Refusal → Type 0
DecidedBy (decided wanted) old caller c new result =
    ComesToAged wanted (aged_by old.state (entry_by caller c (done_of result)) old.ages) old new result
DecidedBy (makes_object d fields fin) old caller c new result = ⊥
DecidedBy (makes_handle d make t) old caller c new result = ⊥
DecidedBy (collects n) old caller c new result = ⊥
DecidedBy (replies_address h) old caller c new result = ⊥
DecidedBy (gives_back kind) old caller c new result = ⊥
DecidedBy (adds_entry v key) old caller c new result = ⊥
DecidedBy (replies_root r) old caller c new result = ⊥
