-- The lines that may come for commands that are due, as sets.
use Rattle.std.specs.Prelude.{◌≡◌, ℕ, ◌+◌, ◌<◌, ◌↔◌, ◌⊎◌, List, Contains, Option, Some, None, IfSome}
use Rattle.hd_model.specs.declared.command.Cmd.{Cmd}
use Rattle.hd_model.specs.declared.data.Entry.{Entry}
use Rattle.hd_model.specs.declared.data.Grown.TheVariants.{Zero, Back}
use Rattle.hd_model.specs.declared.data.Kind.{Kind}
use Rattle.hd_model.specs.declared.data.Refusal.TheVariants as refusal
use Rattle.hd_model.specs.declared.data.Reply.TheVariants as reply
use Rattle.hd_model.specs.declared.data.Slot.{Slot}
use Rattle.hd_model.specs.FullText.{full_line}
use Rattle.hd_model.specs.State.{given_of}
use Rattle.hd_model.specs.Step.{blocks_needed}
use Rattle.hd_audit.specs.Before.{GivesBlock, IsLastLine, MayCome, ReturnsFree, TakesSlot, due_of, number_of}
use Rattle.hd_plain.specs.OneEntry.{HasExactly}
use Rattle.hd_audit.specs.Known.{Known}
use Rattle.hd_view.specs.Sets.{IsMember}
use Rattle.hd_view.specs.declared.accepted.Accepted.{Accepted}
use Rattle.hd_view.specs.declared.accepted.Accepted.TheVariants as accepted
use Rattle.hd_view.specs.declared.accepted.Due.{Due}
use Rattle.hd_view.specs.declared.sets.NumberSet.{NumberSet}

-- ---- the set of a command

-- an entry is done with a slot of a set, without growth; returns an address of it; or gives back a block of
-- it, or none
abbrev pub HasSlotOf : NumberSet → Entry → Type 0
HasSlotOf set e =
    (slot : Slot) × IsMember set slot.0 × (e.slot ≡ Some slot) × (e.grown ≡ Zero) × (e.reply ≡ reply.Done)

abbrev pub HasAddressOf : NumberSet → Entry → Type 0
HasAddressOf set e =
    (address : ℕ) × IsMember set address × (e.reply ≡ reply.Place address) × (e.slot ≡ None)
    × (e.grown ≡ Zero)

abbrev pub HasBlockOf : NumberSet → Entry → Type 0
HasBlockOf set e =
    ((block : ℕ) × IsMember set block × (e.reply ≡ reply.Value 1) × (e.slot ≡ None) × (e.grown ≡ Back block))
    ⊎ ((e.reply ≡ reply.Value 0) × (e.slot ≡ None) × (e.grown ≡ Zero))

-- an entry is one of those that a set names
abbrev pub IsNamed : Accepted → Entry → Type 0
IsNamed (accepted.One entry) e = e ≡ entry
IsNamed (accepted.Slots kind free grown full) e = HasSlotOf free e ⊎ ((grown ≡ Some e) ⊎ (full ≡ Some e))
IsNamed (accepted.Addresses id free) e = HasAddressOf free e
IsNamed (accepted.Blocks kind free) e = HasBlockOf free e

-- an entry is one of a caller's command
pub record IsEntryOf (caller : ℕ) (c : Cmd) (e : Entry) : Type 0 where
  pub caller_is : e.caller ≡ caller
  pub command : e.cmd ≡ c

-- the entry of a command that is refused for a full table, where it is full
abbrev pub IsFullOf : Known → Kind → ℕ → Cmd → Option Entry → Type 0
IsFullOf k kind caller c found =
    (e : Entry) → e.caller ≡ caller → e.cmd ≡ c
    → ((k.numbers.blocks < given_of k.state + blocks_needed kind)
    × (e.reply ≡ reply.Refused (refusal.TableFull (given_of k.state))) × (e.slot ≡ None) × (e.grown ≡ Zero))
    ↔ (found ≡ Some e)

-- a set of a command is of its kind, block or object; an entry that it has is of the command
abbrev pub IsSetOf : Known → ℕ → Cmd → Accepted → Type 0
IsSetOf k caller c (accepted.One entry) = IsEntryOf caller c entry
IsSetOf k caller c (accepted.Slots kind free grown full) =
    HasExactly k.numbers k.state caller c (TakesSlot k.numbers k.state kind)
    × IsFullOf k kind caller c full × IfSome full (IsEntryOf caller c)
IsSetOf k caller c (accepted.Addresses id free) = HasExactly k.numbers k.state caller c (ReturnsFree k.state id)
IsSetOf k caller c (accepted.Blocks kind free) =
    HasExactly k.numbers k.state caller c (GivesBlock k.state kind)

-- a command is due with this number, and the entries of its steps are exactly those that are named
pub record IsDue (k : Known) (due : Due) : Type 0 where
  pub due_is : due_of k due.caller ≡ Some due.cmd
  pub number_is : due.number ≡ number_of k due.caller
  pub own : IsSetOf k due.caller due.cmd due.accepted
  pub entries : HasExactly k.numbers k.state due.caller due.cmd (IsNamed due.accepted)

-- these are all commands that are due
pub record AreDue (k : Known) (dues : List Due) : Type 0 where
  pub each : (due : Due) → Contains dues due → IsDue k due
  pub all : (caller : ℕ) (c : Cmd) → due_of k caller ≡ Some c
      → (due : Due) × Contains dues due × (due.caller ≡ caller)

-- ---- the set of lines

-- a line is named: it is the full line of an entry that is, or the end line, where all commands are done
pub record IsLineOf (dues : List Due) (line : List ℕ) : Type 0 where
  pub due : Due
  pub is_due : Contains dues due
  pub entry : Entry
  pub caller : entry.caller ≡ due.caller
  pub command : entry.cmd ≡ due.cmd
  pub named : IsNamed due.accepted entry
  pub text : line ≡ full_line entry due.number

abbrev pub IsNamedLine : Known → List Due → List ℕ → Type 0
IsNamedLine k dues line = IsLineOf dues line ⊎ IsLastLine k line

-- law: where these are all commands that are due, the lines that are named are exactly those that may come
abbrev pub NamedLinesMayCome : Type 0
NamedLinesMayCome =
    (k : Known) (dues : List Due) → AreDue k dues → (line : List ℕ) → MayCome k line ↔ IsNamedLine k dues line
