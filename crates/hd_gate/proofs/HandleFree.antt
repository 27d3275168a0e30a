-- `hfree`: what its caller has once it left the gate, and once it let the slot go.
use Rattle.hd_gate.proofs.Basics.{BLOCKS, Change, Cmd, Entered, Entry, Follows, Frees, Handle, HasAs, HasDone, Id, IfSome, IsIdle, Kind, Known, LookedFor, None, Numbers, Option, ROWS, ReleasesFreed, ReleasesOne, SearchView, Slot, SlotCalls, Some, StepOf, Stepped, TableId, Turned, View, WorldView, [], ap, arith, asks_of, block_of, caller_view_of, cases_eq, change_in, change_of, cond, eq-eqb, freed_in, gave_back, get, ghosts, handles_of, inl, inr, is_some, kind_in_use, kind_number, kind_word, looks_with_gate, not, option_map, refl, search_of, subst, sym, took, true, use_of, without, ℕ, ◌+◌, ◌-◌, ◌/◌, ◌||◌, ◌∙◌, ◌∷◌, ◌≡◌, ◌≢◌, ◌≤◌}
use lib.ListN.{get_elem?}
use Rattle.hd_slots.proofs.StepLiveSlots.{in_state, is_free, LeavesSlots, IsFreed, FreesAt, frees_at}
use Rattle.hd_gate.proofs.GateLeave.{well_formed, idle_of, goes_on, done_after, held_stays, held_ends}
use Rattle.hd_model.specs.declared.data.Reply.TheVariants as reply

module _ (number : ℕ) (command : Cmd) (is_frees : change_of command ≡ Frees) (u w : WorldView)
    (v : View WorldView) (idle : IsIdle v number) (some_room : 1 ≤ v.room) (few : v.limits.blocks ≤ BLOCKS)
    (entered : Entered ghosts v u) (e : Entry) (stepped : Stepped u w number command None e) where
  frees : change_in u.state number command ≡ Frees
  frees = in_state u.state number command Frees (λ e. cc) is_frees

  abbrev busy : View WorldView
  busy = took ghosts u v

  abbrev left : View WorldView
  left = gave_back ghosts u w busy

  looks_for_none : (old new : SearchView)
      → LookedFor (asks_of u.state number command) (looks_with_gate (change_of command)) v.limits.blocks old new e
  looks_for_none old new =
      let is = is_free u.state number command frees in
      subst (λ (c : Cmd). LookedFor (asks_of u.state number c) (looks_with_gate (change_of command))
      v.limits.blocks old new e) (sym is.1) tt

  abbrev seat : TableId → View WorldView → Known WorldView
  seat t view = record { table = t; view = view }

  -- the caller once it released what was freed
  pub record Freed (freed : Option (Slot × Kind)) : Type 0 where
    pub follows : Follows ghosts u w busy
    pub has : IfSome freed (λ f. HasAs (f.0.0, kind_number f.1 + 1) left.held)
    pub turned : (t : TableId) (n : View WorldView) → ReleasesFreed v.limits.blocks freed left n
        → Turned (seat t v) (seat t n) number command e.reply

  follows_from : ((x : ℕ) → ghosts.live w x ≡ true → ghosts.live u x ≡ true) → w.state.blocks ≡ u.state.blocks
      → Follows ghosts u w busy
  follows_from lives blocks = record {
    kinds = λ b _ _. ap (λ m. kind_word (get m b)) blocks;
    sized = stepped.applied.numbers ∙ entered.sized;
    lives = λ x _ on. inl (lives x on);
    goes_on = goes_on number command None u w e stepped v busy idle some_room
        (entered.part, entered.goes_on) entered.sized
        (refl, refl, refl, refl, refl, refl) refl;
    sound = stepped.sound;
  }

  done_at : (n : View WorldView) → n.part ≡ left.part → n.room ≡ left.room → n.seen ≡ left.seen
      → n.gate_steps ≡ left.gate_steps → (t : TableId)
      → ReleasesOne u.state v.limits.blocks (search_of v) (search_of n) e
      → HasDone (caller_view_of (record { table = t; view = v }) number v.room)
      (caller_view_of (record { table = t; view = n }) number n.room) command e.reply
  done_at n part room seen steps t releases =
      done_after number command None u w e stepped v busy idle some_room
      (entered.part, entered.goes_on) entered.sized
      (refl, refl, refl, refl, refl, refl) refl t n part room seen steps (looks_for_none _ _)
      (subst (λ (c : Change). SlotCalls c (looks_with_gate (change_of command)) u.state v.limits.blocks (search_of v) (search_of n) e)
      (sym frees) releases)

  -- nothing was freed
  kept : LeavesSlots u.numbers u.state (well_formed stepped) e w.state stepped.applied.step
      → e.reply ≢ reply.Done → Freed None
  kept same refused =
      let held = held_stays u w busy same.live idle.held in
      record {
        follows = follows_from (λ x on. sym (same.live x) ∙ on) same.blocks;
        has = tt;
        turned = λ t n is.
            subst (λ (x : View WorldView). Turned (seat t v) (seat t x) number command e.reply) (sym is)
            (record {
              table = refl;
              limits = refl;
              idle = idle_of v left number idle refl refl refl refl held refl;
              done = done_at left refl refl refl refl t
                  (record { done = λ says. absurd (refused says); refused = λ _. refl });
            });
      }

  -- a slot was freed
  module _ (slot : Slot)
      (at : IsFreed u.numbers u.state (well_formed stepped) e w.state stepped.applied.step slot)
      (is_slot : e.slot ≡ Some slot) where
    abbrev handle : Handle Id
    handle = at.handle

    live : ghosts.live u slot.0 ≡ true
    live = ap (λ o. is_some o || is_some (get u.state.weak slot.0)) at.was

    used : use_of u.state (block_of slot) ≡ Some (handles_of handle.kind)
    used = (well_formed stepped).handles.kinds slot.0 handle at.was

    used' : use_of w.state (block_of slot) ≡ Some (handles_of handle.kind)
    used' = ap (λ m. get m (block_of slot)) at.blocks ∙ used

    inside : (1 ≤ block_of slot) × (block_of slot ≤ u.numbers.blocks)
    inside = (well_formed stepped).handles.blocks (block_of slot) (ap is_some used)

    limit : u.numbers.blocks ≤ BLOCKS
    limit = subst (λ (n : Numbers). n.blocks ≤ BLOCKS) (sym entered.sized) few

    there : ROWS + (slot.0 - ROWS) ≡ slot.0
    there = omega (arith, inside.0)

    held : left.held ≡ (slot.0, kind_number handle.kind + 1) ∷ []
    held =
        held_ends u w busy (slot.0 - ROWS) (omega (arith, inside.0, inside.1, limit)) idle.held
        (ap (ghosts.live u) there ∙ live) (ap (ghosts.live w) there ∙ at.here)
        (λ y apart. at.others y (λ is. apart (is ∙ sym there)))
        ∙ ap (λ x. (x, ghosts.kind w (x / ROWS)) ∷ []) there
        ∙ ap (λ o. (slot.0, kind_word o) ∷ []) used'

    gone : without slot.0 left.held ≡ []
    gone = ap (without slot.0) held
        ∙ ap (λ b. cond (not b) ((slot.0, kind_number handle.kind + 1) ∷ []) []) (eq-eqb slot.0 slot.0 refl)

    freed : Freed (Some (slot, handle.kind))
    freed = record {
      follows = follows_from (λ x on. elim (cases_eq x slot.0) [
        | inl here ↦ (ap (ghosts.live u) here ∙ live)
        | inr apart ↦ (sym (at.others x apart) ∙ on)
      ]) at.blocks;
      has = (0, ap (λ h. get_elem? h 0) held);
      turned = λ t n is. record {
        table = refl;
        limits = ap (λ (x : View WorldView). x.limits) is.view;
        idle = idle_of v n number idle
            (ap (λ (x : View WorldView). x.number) is.view) (ap (λ (x : View WorldView). x.limits) is.view)
            (ap (λ (x : View WorldView). x.ended) is.view) (ap (λ (x : View WorldView). x.made) is.view)
            (ap (λ (x : View WorldView). x.held) is.view ∙ gone)
            (ap (λ (x : View WorldView). x.has_gate) is.view);
        done = done_at n (ap (λ (x : View WorldView). x.part) is.view)
            (ap (λ (x : View WorldView). x.room) is.view) (ap (λ (x : View WorldView). x.seen) is.view)
            (ap (λ (x : View WorldView). x.gate_steps) is.view) t (record {
              done = λ _. record {
                slot = slot;
                kind = handle.kind;
                freed = is_slot;
                of_kind = used;
                one = ap (λ (x : View WorldView). x.trace_number) is.view;
                began_with_gate = ap (λ (x : View WorldView). x.began_with_gate) is.view;
                steps = is.steps;
              };
              refused = λ apart. absurd (apart at.done);
            });
      };
    }

    found : freed_in w.state (Some slot) ≡ Some (slot, handle.kind)
    found = ap (λ o. option_map (λ (k : Kind). (slot, k)) (kind_in_use o)) used'

  freed_at : (o : Option Slot) → e.slot ≡ o
      → FreesAt u.numbers u.state (well_formed stepped) e w.state stepped.applied.step o → Freed
      (freed_in w.state o)
  freed_at None is at = kept at.0 at.1
  freed_at (Some slot) is at = subst Freed (sym (found slot at is)) (freed slot at is)

  pub frees_slot : Freed (freed_in w.state e.slot)
  frees_slot =
      let is = is_free u.state number command frees in
      freed_at e.slot refl (frees_at u.numbers u.state
      (well_formed stepped) e w.state stepped.applied.step is.0
      (subst (StepOf u.numbers u.state e w.state)
      (stepped.applied.command.1 ∙ is.1) stepped.applied.step.does))
