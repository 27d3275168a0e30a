-- A command that ran out of memory has no other fault, and `gcroot` of a null local is refused.
use Rattle.std.proofs.Common.{Bool, List, None, Option, Some, ap, arith, cond, false, inl, inr, nat_lt, refl, subst, sym, true, ℕ, ⊎_elim, ◌+◌, ◌<◌, ◌^◌, ◌∙◌, ◌≡◌, ◌≤◌, ◌⊎◌}
use Rattle.std.proofs.lemmas.{Bool.le-ltb, Bool.true≢false, Option.none-some}
use Rattle.std.specs.{FinMap.empty, FinMap.get, Option.option_map_or}
use Rattle.hd_model.proofs.{AgedRuns.nothing_at, Outcomes.test_cases}
use Rattle.hd_model.specs.{declared.command.Cmd.Cmd, declared.data.Entry.Entry, declared.data.Id.Id, declared.data.Make.Make, declared.data.Refusal.Refusal, declared.data.Reply.Reply, declared.data.Slot.Slot, Aging.is_refused, Kinds.kind_of, PinnedAddresses.with_pinned, Run.AddsLeast, Run.NoneFree}
use Rattle.hd_model.specs.Step.{IsOutcome, StepOf, TakesWay, blocks_needed, way_of_adding}
use Rattle.hd_model.specs.declared.data.Kind.TheVariants as kinds
use Rattle.hd_model.specs.Command.{Adding, Outcome, adding_of, in_idle, in_new, is_refused as is_refusal, new_object, refuses, reply_root, reply_with}
use Rattle.hd_model.specs.declared.command.Cmd.TheVariants as cmd
use Rattle.hd_model.specs.declared.data.Grown.TheVariants.{Zero}
use Rattle.hd_model.specs.declared.data.Refusal.TheVariants as refusal
use Rattle.hd_model.specs.declared.data.Reply.TheVariants as reply
use Rattle.hd_model.specs.declared.limits.TheConstants.{BLOCKS, REGISTERS}
use Rattle.hd_model.specs.State.{IsFree, Numbers, State, given_of, last_serial, register_of, total_size}
use Rattle.hd_store.specs.{Offers.FitsHeap, Offers.RanOut, Offers.handle_slot, Offers.needs_new, Offers.needs_slot, Offers.no_room, PinnedAddresses.Moves, Store.Machine}
use Rattle.hd_host.specs.{declared.change.Change.Change, Calls.IsAtEnd, Calls.IsRefused, Calls.RanOutOfMemory, Calls.no_count, Calls.no_serial, Calls.no_stamp, Steps.pointed, View.HostView, View.IsAsItWas, View.state_in}
use Rattle.hd_host.proofs.{CallHost.parts_of, SameHost.unchanged}

-- ---- what is at its end

-- that of a command, of which only three have anything
abbrev Ends : HostView → ℕ → Cmd → Type 0
Ends v context (cmd.New d fields fin) = last_serial v.machine.state context + 1 ≡ 2 ^ 32
Ends v context (cmd.HUp h) = Unit {0}
Ends v context (cmd.HFree h) = Unit {0}
Ends v context _ = ⊥

ends : {v : HostView} {context : ℕ} {slot : Option Slot} {c : Cmd} → IsAtEnd v context slot c → Ends v context c
ends (no_serial d fields fin at room) = at
ends (no_count h at held names live end) = tt
ends (no_stamp h at names end) = tt

-- ---- what the machine refuses

module _ {v : HostView} {context : ℕ} {slot : Option Slot} {c : Cmd} {why : Refusal}
    (refused : IsRefused v context slot c why) where
  abbrev asked : State
  asked = with_pinned (pointed v.machine context slot).state empty

  goes : Moves (pointed v.machine context slot) refused.entry refused.stepped.after empty
  goes = refused.stepped.effect empty (λ x at found. absurd (nothing_at x at found))

  did : StepOf v.machine.numbers asked refused.entry (with_pinned refused.stepped.after.state goes.pinned) c
  did = subst (λ (x : Cmd). StepOf v.machine.numbers asked refused.entry
      (with_pinned refused.stepped.after.state goes.pinned) x) refused.stepped.command_is.1 goes.step.does

  not_done : (r : Reply) → refused.entry.reply ≡ r → is_refused r ≡ false → ⊥
  not_done r comes done = true≢false (ap is_refused (sym refused.reply ∙ comes) ∙ done)

never_collect : {v : HostView} {context n : ℕ} {slot : Option Slot} (why : Refusal)
    → IsRefused v context slot (cmd.Collect n) why → ⊥
never_collect why refused = not_done refused (reply.Report (did refused).report) (did refused).reply refl

made : (n : Numbers) (s : State) (caller d fields : ℕ) (fin : Bool) → total_size s + (fields + 3) ≤ n.heap
    → is_refused (new_object n s caller d fields fin).reply ≡ false
made n s caller d fields fin room =
    test_cases (λ (o : Outcome). is_refused o.reply ≡ false) (nat_lt n.heap (total_size s + (fields + 3))) _ _
    (λ over. absurd (true≢false (sym over ∙ le-ltb n.heap (total_size s + (fields + 3)) room))) (λ _. refl)

never_new : {v : HostView} {context d fields : ℕ} {fin : Bool} {slot : Option Slot}
    → FitsHeap v.machine.numbers v.machine.state (cmd.New d fields fin) → (why : Refusal)
    → IsRefused v context slot (cmd.New d fields fin) why → ⊥
never_new {v = v} {d = d} {fields = fields} {fin = fin} fits why refused =
    not_done refused
    (new_object v.machine.numbers (asked refused) refused.entry.caller d fields fin).reply (did refused).1.reply
    (made v.machine.numbers (asked refused) refused.entry.caller d fields fin (fits fields refl))

-- what `gcroot` comes to, by what its local references
abbrev answered : State → Reply → Option Id → Outcome
answered s found o = option_map_or (λ _. reply_with found s) o (refuses refusal.Null s)

never_root : {v : HostView} {context object : ℕ} {slot : Option Slot} {goal : Id}
    → register_of v.machine.state context object ≡ Some goal → (why : Refusal)
    → IsRefused v context slot (cmd.GcRoot object) why → ⊥
never_root {v = v} {object = object} {goal = goal} names why refused =
    let named : register_of v.machine.state refused.entry.caller object ≡ Some goal =
    ap (λ k. register_of v.machine.state k object) refused.stepped.command_is.0 ∙ names in
    let found : Reply = (did refused).found in
    not_done refused found
    ((did refused).outcome.reply ∙ ap (λ o. (answered (asked refused) found o).reply) named)
    (⊎_elim (λ x. ap is_refused x.reply_is) (λ x. ap is_refused x.1) ((did refused).is_root goal named))

-- ---- `gcroot` of a null local

module _ (v : HostView) (context object : ℕ) (known : context < v.machine.numbers.callers)
    (low : object < REGISTERS) (null : register_of v.machine.state context object ≡ None) where
  abbrev at : Machine
  at = pointed v.machine context None

  abbrev entry : Entry
  entry = record {
    caller = context;
    cmd = cmd.GcRoot object;
    slot = None;
    grown = Zero;
    reply = reply.Refused refusal.Null;
  }

  -- whatever was returned before
  refuses_null : (s : State) → register_of s context object ≡ None
      → IsOutcome entry (reply_root s context object reply.Unrooted) s
  refuses_null s none =
      subst (λ o. IsOutcome entry (answered s reply.Unrooted o) s) (sym none)
      (record { reply = refl; slot = refl; grown = refl; after = refl })

  pub null_root : IsRefused v context None (cmd.GcRoot object) refusal.Null
  null_root = record {
    entry = entry;
    after = pointed at context None;
    stepped = record {
      after = at;
      command_is = (refl, refl);
      effect = λ before are. record {
        pinned = before;
        step = record {
          caller = known;
          valid = low;
          does = record {
            found = reply.Unrooted;
            is_root = λ goal named. absurd (none-some goal (sym null ∙ named));
            outcome = refuses_null (with_pinned at.state before) null;
          };
        };
        addresses = are;
        ages = refl;
        numbers = refl;
        heap = record {
          cards = λ n report same. absurd (cc same);
          compact = λ report same. absurd (cc same);
        };
      };
      least = tt;
      addresses = record {
        returned = λ h address x same. absurd (cc same);
        pinned = λ x address held is. is;
        others = λ plain x address is. is;
      };
      new_is = refl;
    };
    reply = refl;
  }

-- ---- out of memory

module _ {m k : Machine} {stamps : List ℕ} {last : Change} {v : HostView} {c : Cmd}
    (out : RanOut m.numbers m.state c m k) (view : parts_of m stamps last ≡ v) where
  pub out_as_it_was : IsAsItWas v (parts_of k stamps last)
  out_as_it_was =
      subst (λ (x : HostView). IsAsItWas x (parts_of k stamps last)) view
      (subst (λ (x : Machine). IsAsItWas (parts_of m stamps last) (parts_of x stamps last)) (sym out.unchanged)
      (unchanged (parts_of m stamps last)))

  fits : FitsHeap v.machine.numbers v.machine.state c
  fits = subst (λ (x : HostView). FitsHeap x.machine.numbers x.machine.state c) view out.fits

pub collect_ran_out : {m k : Machine} {stamps : List ℕ} {last : Change} {v : HostView} {context n : ℕ}
    → RanOut m.numbers m.state (cmd.Collect n) m k → parts_of m stamps last ≡ v
    → RanOutOfMemory v context None (cmd.Collect n)
collect_ran_out out view = record {
  cause = inl out.memory;
  fits = fits out view;
  allowed = never_collect;
  below_end = λ at. ends at;
}

pub new_ran_out : {m k : Machine} {stamps : List ℕ} {last : Change} {v : HostView} {context d fields : ℕ} {fin : Bool}
    → RanOut m.numbers m.state (cmd.New d fields fin) m k → parts_of m stamps last ≡ v
    → last_serial v.machine.state context + 1 < 2 ^ 32 → RanOutOfMemory v context None (cmd.New d fields fin)
new_ran_out out view below = record {
  cause = inl out.memory;
  fits = fits out view;
  allowed = never_new (fits out view);
  below_end = λ at. omega (arith, ends at, below);
}

pub root_ran_out : {m k : Machine} {stamps : List ℕ} {last : Change} {v : HostView} {context object : ℕ} {goal : Id}
    → RanOut m.numbers m.state (cmd.GcRoot object) m k → parts_of m stamps last ≡ v
    → register_of v.machine.state context object ≡ Some goal → RanOutOfMemory v context None (cmd.GcRoot object)
root_ran_out out view names = record {
  cause = inl out.memory;
  fits = fits out view;
  allowed = never_root names;
  below_end = λ at. ends at;
}

-- ---- a table that may have to grow

clash_made : {v : HostView} {context d t : ℕ} {make : Make} {slot : Option Slot}
    → given_of v.machine.state + blocks_needed (kind_of make) ≤ v.machine.numbers.blocks → (why : Refusal)
    → IsRefused v context slot (cmd.HNew d make t) why → ⊥
clash_made {v} {d = d} {t = t} {make = make} enough why refused = by (did refused)
  where
    by : StepOf v.machine.numbers (asked refused) refused.entry
        (with_pinned refused.stepped.after.state (goes refused).pinned) (cmd.HNew d make t) → ⊥
    by (inl made) = not_done refused reply.Done made.reply refl
    by (inr full) = omega (arith, full.few, enough)

pub make_ran_out : {v : HostView} {context d t : ℕ} {make : Make} → NoneFree v.machine.state (kind_of make)
    → given_of v.machine.state + blocks_needed (kind_of make) ≤ v.machine.numbers.blocks
    → RanOutOfMemory v context None (cmd.HNew d make t)
make_ran_out {make = make} none enough = record {
  cause = inr (inl (record { kind = kind_of make; asks = refl; none = none; enough = enough }));
  fits = λ fields same. absurd (let clash = same in cc);
  allowed = clash_made enough;
  below_end = λ at. ends at;
}

module _ {v : HostView} {context key value : ℕ}
    (needs : needs_slot v.machine.state context (cmd.CAdd key value) ≡ true)
    (enough : given_of v.machine.state + 2 ≤ v.machine.numbers.blocks) where
  never_add : (why : Refusal) → IsRefused v context None (cmd.CAdd key value) why → ⊥
  never_add why refused = by (adding_of (asked refused) refused.entry.caller key)
      (ap (λ k. needs_new (adding_of v.machine.state k key)) refused.stepped.command_is.0 ∙ needs) (did refused)
    where
      by : (a : Adding) → needs_new a ≡ true
          → TakesWay v.machine.numbers (asked refused) refused.entry
          (with_pinned refused.stepped.after.state (goes refused).pinned)
          (way_of_adding (asked refused) refused.entry.caller value a) → ⊥
      by (is_refusal r) new way = absurd (true≢false (sym new))
      by (in_idle slot x) new way = absurd (true≢false (sym new))
      by (in_new x) new (inl added) = not_done refused reply.Done added.reply refl
      by (in_new x) new (inr full) = omega (arith, full.few, enough)

  pub add_ran_out : NoneFree v.machine.state kinds.Dependent → RanOutOfMemory v context None (cmd.CAdd key value)
  add_ran_out none = record {
    cause = inr (inl (record {
      kind = kinds.Dependent;
      asks = ap (λ b. cond b (handle_slot kinds.Dependent) no_room) needs;
      none = none;
      enough = enough;
    }));
    fits = λ fields same. absurd (let clash = same in cc);
    allowed = never_add;
    below_end = λ at. ends at;
  }

-- ---- the first entry of the weak table

module _ {v : HostView} {context key value : ℕ} (large : BLOCKS < v.machine.numbers.blocks)
    (needs : needs_slot v.machine.state context (cmd.CAdd key value) ≡ true)
    (unused : (slot : ℕ) → get v.machine.state.weak slot ≡ None)
    (room : (given_of v.machine.state + 2 ≤ v.machine.numbers.blocks)
    ⊎ ((slot : Slot) × IsFree v.machine.state kinds.Dependent slot)) where
  never_first : (why : Refusal) → IsRefused v context None (cmd.CAdd key value) why → ⊥
  never_first why refused =
      ⊎_elim (λ enough. never_add needs enough why refused)
      (λ free. by (adding_of (asked refused) refused.entry.caller key)
      (ap (λ k. needs_new (adding_of v.machine.state k key)) refused.stepped.command_is.0 ∙ needs)
      refused.stepped.least (did refused) free) room
    where
      by : (a : Adding) → needs_new a ≡ true
          → AddsLeast (state_in (pointed v.machine context None)) refused.entry a
          → TakesWay v.machine.numbers (asked refused) refused.entry
          (with_pinned refused.stepped.after.state (goes refused).pinned)
          (way_of_adding (asked refused) refused.entry.caller value a)
          → (slot : Slot) × IsFree v.machine.state kinds.Dependent slot → ⊥
      by (is_refusal r) new least way free = absurd (true≢false (sym new))
      by (in_idle slot x) new least way free = absurd (true≢false (sym new))
      by (in_new x) new least (inl added) free = not_done refused reply.Done added.reply refl
      by (in_new x) new (inl given) (inr full) free = none-some given.0 (sym full.refused.slot ∙ given.2)
      by (in_new x) new (inr none) (inr full) free = none free.0 (record {
        no_handle = free.1.no_handle;
        not_weak = free.1.not_weak;
        of_kind = free.1.of_kind;
      })

  pub first_ran_out : RanOutOfMemory v context None (cmd.CAdd key value)
  first_ran_out = record {
    cause = inr (inr (record { large = large; needs = needs; unused = unused }));
    fits = λ fields same. absurd (let clash = same in cc);
    allowed = never_first;
    below_end = λ at. ends at;
  }
