-- A command that leaves the slots as they are.
use Rattle.hd_gate.proofs.Basics.{Adds, Bool, Change, Cmd, Dependent, Entered, Entry, Err, FitsHeap, Follows, Frees, GivesBack, IsIdle, Keeps, Known, LookedFor, MatchResult, None, Numbers, Ok, Result, Run, SearchView, SlotCalls, State, Stayed, Stepped, TableId, Takes, View, WantsMemory, WorldView, adding_of, ap, arith, asks_of, caller_view_of, change_in, change_of, cond, false, gave_back, get, ghosts, handle_slot, inl, kind_word, length, looks_with_gate, needs_new, no_room, part_of, refl, search_of, subst, sym, took, true, unchanged, ℕ, ◌+◌, ◌-◌, ◌∙◌, ◌≡◌, ◌≤◌}
use Rattle.hd_model.specs.declared.data.Memory.{Memory}
use Rattle.hd_slots.proofs.StepLiveSlots.{LeavesThem, LeavesSlots, leaves_slots}
use Rattle.hd_gate.proofs.GateLeave.{well_formed, Leaves, leaves, held_stays}
use Rattle.hd_model.specs.declared.command.Cmd.TheVariants as cmd

-- it looks for nothing
asks_nothing : (s : State) (caller : ℕ) (c : Cmd) → LeavesThem (change_in s caller c) → (gated : Bool)
    (blocks : ℕ) (old new : SearchView) (e : Entry) → LookedFor (asks_of s caller c) gated blocks old new e
asks_nothing s caller (cmd.HNew d make r) keeps gated blocks old new e = absurd keeps
asks_nothing s caller (cmd.Trim kind) keeps gated blocks old new e = absurd keeps
asks_nothing s caller (cmd.CAdd k v) keeps gated blocks old new e = by (needs_new (adding_of s caller k)) keeps
  where
    by : (b : Bool) → LeavesThem (cond b (Takes Dependent) Adds)
        → LookedFor (cond b (handle_slot Dependent) no_room) gated blocks old new e
    by true keeps = absurd keeps
    by false keeps = tt
asks_nothing s caller c keeps gated blocks old new e = tt

no_call : (change : Change) → LeavesThem change → (gated : Bool) (s : State) (blocks : ℕ) (v : SearchView)
    (e : Entry) → SlotCalls change gated s blocks v v e
no_call Keeps keeps gated s blocks v e = refl
no_call Adds keeps gated s blocks v e = refl
no_call (Takes kind) keeps gated s blocks v e = absurd keeps
no_call Frees keeps gated s blocks v e = absurd keeps
no_call (GivesBack kind) keeps gated s blocks v e = absurd keeps

module _ (number : ℕ) (command : Cmd) (u w : WorldView)
    (keeps : LeavesThem (change_in u.state number command)) (v : View WorldView) (idle : IsIdle v number)
    (some : 1 ≤ v.room) (entered : Entered ghosts v u) where
  module _ (e : Entry) (stepped : Stepped u w number command None e) where
    same : LeavesSlots u.numbers u.state (well_formed stepped) e w.state stepped.applied.step
    same = leaves_slots u.numbers u.state (well_formed stepped) e w.state stepped.applied.step
        (subst (λ n. LeavesThem (change_in u.state n e.cmd)) (sym stepped.applied.command.0)
        (subst (λ (c : Cmd). LeavesThem (change_in u.state number c)) (sym stepped.applied.command.1) keeps))

    pub plain_leaves : Leaves number command u w e v (took ghosts u v)
    plain_leaves = leaves number command None u w e stepped v (took ghosts u v) idle some
        (entered.part, entered.goes_on) entered.sized
        (refl, refl, refl, refl, refl, refl) refl refl
        (no_call _ keeps (looks_with_gate (change_of command)) u.state v.limits.blocks (search_of v) e)
        (λ b _ _. ap (λ m. kind_word (get m b)) same.blocks)
        (λ x _ on. inl (sym (same.live x) ∙ on)) (held_stays u w (took ghosts u v) same.live idle.held)
        (asks_nothing u.state number command keeps (looks_with_gate (change_of command)) v.limits.blocks
        (search_of v) (search_of v) e)

  -- it may be left after it, whether it found memory or not
  pub plain_follows : (r : Result Entry Memory)
      → MatchResult r (Stepped u w number command None) (λ _. WantsMemory u w command)
      → Follows ghosts u w (took ghosts u v)
  plain_follows (Ok e) stepped = (plain_leaves e stepped).follows
  plain_follows (Err m) wants = subst (λ (x : WorldView). Follows ghosts u x (took ghosts u v))
      (sym wants.out.unchanged) (unchanged ghosts v u entered)

  -- and where it found none, the seat is as it was
  module _ (t : TableId) (wants : WantsMemory u w command) where
    abbrev seat : Known WorldView
    seat = record { table = t; view = v }

    abbrev back : Known WorldView
    back = record { table = t; view = gave_back ghosts u w (took ghosts u v) }

    pub stays : Stayed seat back number command
    stays =
        let same = wants.out.unchanged in
        let part : part_of w.journal v.number ≡ v.part =
        ap (λ (s : WorldView). part_of s.journal v.number) same ∙ entered.part in
        let long : length w.journal ≡ length u.journal = ap (λ (s : WorldView). length s.journal) same in
        let room : v.room - (length w.journal - length u.journal) ≡ v.room = omega (arith, long) in
        let steps : v.gate_steps + 1 + 1 ≡ v.gate_steps + 2 = omega arith in
        record {
          idle = record {
            number = idle.number;
            known = idle.known;
            held = held_stays u w (took ghosts u v) (λ x. ap (λ (s : WorldView). ghosts.live s x) same) idle.held;
            gate = refl;
            ended = idle.ended;
            made = idle.made;
          };
          party = λ i. record (caller_view_of seat number v.room) {
            part = part i;
            room = room i;
            seen = w.journal;
            gate_steps = steps i;
          };
          memory = wants.out.memory;
          fits = record {
            found = record {
              journal = u.journal;
              state = u.state;
              run = subst (λ (n : Numbers). Run n u.journal u.state) entered.sized wants.run;
              part = ap (part_of u.journal) (sym idle.number) ∙ entered.part;
              goes_on = entered.goes_on;
            };
            seen = ap (λ (s : WorldView). s.journal) same;
            fits = subst (λ (n : Numbers). FitsHeap n u.state command) entered.sized wants.out.fits;
          };
        }
