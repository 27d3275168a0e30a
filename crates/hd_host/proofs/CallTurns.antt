-- What the clauses of calls say, as turns of an end.
use Rattle.std.proofs.Common.{None, Option, inl, inr, refl, subst, sym, ◌≡◌, ℕ}
use Rattle.hd_model.specs.{declared.command.Cmd.Cmd, declared.data.Kind.Kind, declared.data.Make.Make, declared.data.Reply.Reply, declared.data.Slot.Slot}
use Rattle.hd_model.specs.declared.command.Cmd.TheVariants as cmd
use Rattle.hd_host.specs.declared.handle.Handle.{Handle}
use Rattle.hd_host.specs.Calls.{AddsEntry, FreesHandle, HasReplied, MakesHandle, RepliesOf, Trims}
use Rattle.hd_host.specs.Turns.{HostTurn, IsAsItWasButLast, IsEndsOwn, IsWithHandle, TrimsAll, TrimsBlock, alone, frees, one, stays, steps, trims}
use Rattle.hd_host.proofs.TrimTurns.{OneTrim, one_trim, trim_kept, trim_ran, trim_stepped}
use Rattle.hd_host.specs.View.{HostView, IsAsItWas}
use Rattle.hd_host.proofs.SameHost.{unchanged}

-- what is as it was is so but for `last`
pub but_last : {u w : HostView} → IsAsItWas u w → IsAsItWasButLast u w
but_last same = record {
  numbers = same.numbers;
  state = same.state;
  addresses = same.addresses;
  ages = same.ages;
  stamps = same.stamps;
  last = refl;
}

module _ (each number : ℕ) {u w : HostView} where
  -- a call that was refused, and one that changes nothing
  pub turn_as_it_was : IsAsItWas u w → HostTurn each number u w
  turn_as_it_was same = stays (but_last same)

  pub turn_unchanged : w ≡ u → HostTurn each number u w
  turn_unchanged same = turn_as_it_was (subst (IsAsItWas u) (sym same) (unchanged u))

  -- a command with a slot in the handle register of its context, or none
  turn_of : {c : ℕ} {slot : Option Slot} {command : Cmd} {answer : Reply} → IsEndsOwn each number c command
      → IsWithHandle u slot → HasReplied u c slot command answer w → HostTurn each number u w
  turn_of {c = c} {slot = slot} {command = command} own with_handle did = steps (one (record {
    context = c;
    command = command;
    own = own;
    slot = slot;
    with_handle = with_handle;
    entry = did.entry;
    done = did.done;
  }))

  pub turn_replied : {c : ℕ} {command : Cmd} {answer : Reply} → IsEndsOwn each number c command
      → HasReplied u c None command answer w → HostTurn each number u w
  turn_replied own did = turn_of own (inl refl) did

  pub turn_replied_of : {c : ℕ} {handle : Handle} {command : Cmd} {answer : Reply}
      → IsEndsOwn each number c command → RepliesOf u c handle command answer w → HostTurn each number u w
  turn_replied_of {handle = handle} own did =
      turn_of own (inr (did.slot, handle, refl, did.handle_is)) did.replied

  -- a handle is made, and freed
  pub turn_made : {c t : ℕ} {make : Make} {handle : Handle} → MakesHandle u c make t w handle
      → HostTurn each number u w
  turn_made {c = c} {t = t} {make = make} did = steps (one (record {
    context = c;
    command = cmd.HNew 0 make t;
    own = inr refl;
    slot = None;
    with_handle = inl refl;
    entry = did.entry;
    done = did.done;
  }))

  pub turn_freed : {handle : Handle} → FreesHandle u handle w → HostTurn each number u w
  turn_freed {handle = handle} did = frees handle did

  -- an entry is added to the weak table, and a block is given back or none
  pub turn_added : {c key value : ℕ} → AddsEntry u c key value w → HostTurn each number u w
  turn_added did = turn_replied (inr refl) did

  -- one that has a data block goes with it
  pub turn_trimmed_block : (kind : Kind) (given : ℕ) → TrimsBlock u kind given w → HostTurn each number u w
  turn_trimmed_block kind given did = by (one_trim each number kind given did)
    where
      by : OneTrim each number u w → HostTurn each number u w
      by (trim_kept same) = stays same
      by (trim_ran row) = steps row
      by (trim_stepped step) = alone step

  pub turn_trimmed_all : {given : ℕ} → TrimsAll u given w → HostTurn each number u w
  turn_trimmed_all did = trims did.row

  pub turn_trimmed : {kind : Kind} {given : ℕ} → Trims u kind given w → HostTurn each number u w
  turn_trimmed did = turn_replied (inr refl) did.replied
