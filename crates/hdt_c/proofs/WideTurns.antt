-- What calls do that are more than one command, or none, as turns of an end.
use Rattle.std.proofs.Common.{Bool, List, None, ap, inl, inr, length, refl, subst, sym, ℕ, ◌≡◌, ◌≤◌}
use Rattle.hd_model.specs.declared.command.Cmd.TheVariants as cmd
use Rattle.hd_model.specs.declared.data.Id.{Id}
use Rattle.hd_model.specs.declared.limits.TheConstants.{FIELDS}
use Rattle.hd_model.specs.State.{State, register_of, with_register}
use Rattle.hd_store.specs.Hosted.{with_cleared}
use Rattle.hd_host.specs.Turns.{HostTurn, IsOwnContext, LeavesState, alone, clears, makes, more, one, passes, steps}
use Rattle.hd_host.specs.View.{HostView, state_in}
use Rattle.hd_host.specs.Wide.{MakesObject, SetsEntry, with_state}
use Rattle.hd_host.proofs.SameHost.{unchanged}

-- a host is left with another state
left_by : (u w : HostView) (s : State) → w ≡ with_state u s → LeavesState u s w
left_by u w s is =
    subst (LeavesState u s) (sym is) (unchanged (record u { machine = record u.machine { state = s } }))

module _ (each number : ℕ) {u w : HostView} where
  -- an entry is set by two commands in a row
  pub turn_sets : {c key value : ℕ} {replaced : Bool} → SetsEntry u c key value w replaced
      → HostTurn each number u w
  turn_sets {c = c} {key = key} {value = value} did = steps (more (record {
    context = c;
    command = cmd.CRemove key;
    own = inr refl;
    slot = None;
    with_handle = inl refl;
    entry = did.removed.entry;
    done = did.removed.done;
  }) (one (record {
    context = c;
    command = cmd.CAdd key value;
    own = inr refl;
    slot = None;
    with_handle = inl refl;
    entry = did.added.entry;
    done = did.added.done;
  })))

  -- a reference is passed, locals are cleared, and an object is made with its value and its fields
  pub turn_passed : (to from dst src : ℕ) → IsOwnContext each number u to → IsOwnContext each number u from
      → w ≡ with_state u (with_register u.machine.state to dst (register_of u.machine.state from src))
      → HostTurn each number u w
  turn_passed to from dst src own has is = alone (passes to dst from src own has
      (left_by u w (with_register u.machine.state to dst (register_of u.machine.state from src)) is))

  pub turn_cleared : (c first n : ℕ) → IsOwnContext each number u c
      → w ≡ with_state u (with_cleared u.machine.state c first n) → HostTurn each number u w
  turn_cleared c first n own is =
      alone (clears c first n own (left_by u w (with_cleared u.machine.state c first n) is))

  pub turn_filled : {c dst value : ℕ} {fin : Bool} {src : List ℕ} {id : Id} → IsOwnContext each number u c
      → length src ≤ FIELDS → MakesObject u c dst value fin src w id → HostTurn each number u w
  turn_filled {c = c} {dst = dst} {value = value} {fin = fin} {src = src} {id = id} own few did =
      alone (makes (record {
        context = c;
        dst = dst;
        registered = fin;
        value = value;
        src = src;
        own = own;
        few = few;
        id = id;
        made = did.made;
        replied = did.replied;
        filled = record {
          numbers = ap (λ (v : HostView). v.machine.numbers) did.written;
          state = ap (λ (v : HostView). state_in v.machine) did.written;
          addresses = did.addresses;
          ages = ap (λ (v : HostView). v.machine.ages) did.written;
          stamps = ap (λ (v : HostView). v.stamps) did.written;
          last = refl;
        };
      }))
