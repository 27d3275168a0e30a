-- A command of a store keeps it well formed, and what a store asks of a command is what its contents ask.
use Rattle.hd_store.proofs.StoreWords.{Cmd, Entry, FinMap, HasHandles, HasLimits, HasWeakTable, IsOffer, IsValid, IsWellFormed, KeepsPinned, Machine, MayRun, None, Numbers, Option, Slot, Some, State, T, empty, get, nat_cmp, nothing_at, refl, start_of, subst, sym, with_pinned, ℕ, ◌<◌, ◌≡◌}
use Rattle.std.specs.Prelude.{IsSome}
use Rattle.hd_model.proofs.{RunCounts.fresh, WellFormedSteps.step_keeps, WellFormedSteps.start_is_well_formed, WellFormedWrites.handle_register_keeps}
use Rattle.hd_model.specs.State.{with_handle_register}
use Rattle.hd_store.specs.Calls.{IsSound, StaysWithin}

-- pinned addresses are no part of what makes a state well formed, where there are none
pub unplaced : (n : Numbers) (s : State) (p : FinMap nat_cmp ℕ) → IsWellFormed n (with_pinned s p)
    → IsWellFormed n (with_pinned s empty)
unplaced n s p w = record {
  shape = record {
    registers = w.shape.registers;
    each_registers = w.shape.each_registers;
    handle_registers = w.shape.handle_registers;
    each_handle_registers = w.shape.each_handle_registers;
    statics = w.shape.statics;
    board = w.shape.board;
    serials = w.shape.serials;
  };
  names = record {
    fields = w.names.fields;
    registers = w.names.registers;
    statics = w.names.statics;
    targets = w.names.targets;
    secondaries = w.names.secondaries;
    queue = w.names.queue;
    pinned = λ id there. absurd (no_address id there);
    keys = w.names.keys;
    values = w.names.values;
  };
  objects = record {
    sizes = w.objects.sizes;
    generations = w.objects.generations;
    queued_once = w.objects.queued_once;
  };
  serials = record {
    from_one = w.serials.from_one;
    to_last = w.serials.to_last;
    limit = w.serials.limit;
  };
  handles = record {
    kinds = w.handles.kinds;
    extras = w.handles.extras;
    dependents = w.handles.dependents;
    blocks = w.handles.blocks;
  };
  weak = record { kinds = w.weak.kinds; apart = w.weak.apart; once = w.weak.once };
}
  where
    no_address : (id : ℕ) → IsSome (get (empty {X = ℕ} {R = nat_cmp}) id) → ⊥
    no_address id there = by (get (empty {X = ℕ} {R = nat_cmp}) id) refl there
      where
        by : (o : Option ℕ) → get (empty {X = ℕ} {R = nat_cmp}) id ≡ o → IsSome o → ⊥
        by None is there = subst T (sym there) tt
        by (Some address) is there = nothing_at id address is

pub sound-after : (m k : Machine) (e : Entry) → IsSound m → KeepsPinned m e k → IsSound k
sound-after m k e sound keeps =
    let moved = keeps empty (λ x at found. absurd (nothing_at x at found)) in record {
      limits = subst HasLimits (sym moved.numbers) sound.limits;
      well_formed = subst (λ n. IsWellFormed n (with_pinned k.state empty)) (sym moved.numbers)
          (unplaced m.numbers k.state moved.pinned (step_keeps m.numbers (with_pinned m.state empty)
          (with_pinned k.state moved.pinned) e sound.well_formed moved.step));
    }

pub sound-at-first : (m : Machine) → HasLimits m.numbers → m.state ≡ start_of m.numbers → IsSound m
sound-at-first m limits first = record {
  limits = limits;
  well_formed = subst (λ s. IsWellFormed m.numbers (with_pinned s empty)) (sym first)
      (start_is_well_formed m.numbers);
}

-- a slot in a handle register makes no difference
pub sound-pointed : (m : Machine) (caller h : ℕ) (slot : Option Slot) → IsSound m → caller < m.numbers.callers
    → IsSound (record m { state = with_handle_register m.state caller h slot })
sound-pointed m caller h slot sound known = record {
  limits = sound.limits;
  well_formed = unplaced m.numbers (with_handle_register m.state caller h slot) empty
      (handle_register_keeps m.numbers (with_pinned m.state empty) sound.well_formed caller h slot known);
}

pub has-handles : (m : Machine) → IsSound m → HasHandles m.numbers m.state
has-handles m sound =
    let handles = sound.well_formed.handles in record {
      kinds = handles.kinds;
      extras = handles.extras;
      dependents = handles.dependents;
      blocks = handles.blocks;
    }

pub has-weak : {m : Machine} → IsSound m → HasWeakTable m.state
has-weak sound =
    let weak = sound.well_formed.weak in record { kinds = weak.kinds; apart = weak.apart; once = weak.once }

pub may-run : (m : Machine) (number : ℕ) (c : Cmd) (offer : Option Slot) → IsSound m
    → number < m.numbers.callers → IsValid c → IsOffer m.state number c offer → StaysWithin m.state number c
    → MayRun m number c offer
may-run m number c offer sound caller valid may within =
    let w = sound.well_formed in record {
      handles = has-handles m sound;
      objects = w.names.registers number;
      weak = has-weak sound;
      caller = caller;
      valid = valid;
      offer = may;
      serial = within.serial;
      fresh = λ d fields fin is.
          fresh m.numbers (with_pinned m.state empty) number w (within.serial d fields fin is);
      count = within.count;
    }
