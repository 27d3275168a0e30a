-- A slot that was looked for with the gate: its caller is as if it had been looked for before.
use Rattle.hd_gate.proofs.Basics.{Adds, Bool, Cmd, Dependent, Entered, Entry, Every, Fresh, GrowsByBlocks, IfSome, IsIdle, IsOffer, KindIs, Known, Looked, LooksWhere, MayGrant, None, Option, Slot, Some, StepOf, Stepped, TableId, Takes, View, WorldView, Zero, [], ap, block_of, called, change_in, change_of, cond, every_cons, extra_block, false, ghosts, handle_block, kind_number, looks_with_gate, needs_slot, offered, refl, slot_block, slot_number, subst, sym, took, true, with_grown, ℕ, ◌+◌, ◌∙◌, ◌≡◌, ◌≢◌, ◌≤◌}
use Rattle.hd_slots.proofs.StepLiveSlots.{LeavesThem, asks_for, adds_none}
use Rattle.hd_gate.proofs.GateLeave.{well_formed, every_nil, Leaves}
use Rattle.hd_gate.proofs.{HandleMake.may_offer, HandleMake.made, PlainTurn.plain_leaves}

abbrev K : ℕ
K = kind_number Dependent

module _ (u : WorldView) (v n : View WorldView) (blocks : ℕ) (o : Option Slot) (number : ℕ)
    (idle : IsIdle v number) (looked : Looked ghosts Dependent blocks o (took ghosts u v) n) where
  -- the seat as if it had been looked for before the gate, but that the call is known to have had it
  abbrev pub before : View WorldView
  before = record (called (offered K (slot_number o) v.held) n.trace v) { began_with_gate = true }

  pub then_took : n ≡ took ghosts u before
  then_took = looked.done.view

  abbrev IsFreeAs : ℕ × ℕ → Type 0
  IsFreeAs p = (ghosts.live u p.0 ≡ false) × (p.1 ≢ 0 → ghosts.kind u (slot_block p.0) ≡ p.1)

  free_then : (p : Option Slot) → IfSome p (λ slot. Fresh ghosts (took ghosts u v) slot.0)
      → IfSome p (λ slot. KindIs ghosts (took ghosts u v) (block_of slot) (K + 1))
      → Every IsFreeAs (offered K (slot_number p) [])
  free_then None fresh of_kind = every_nil _
  free_then (Some slot) fresh of_kind =
      every_cons _ (slot.0, K + 1) [] (fresh.3 u refl refl, λ _. of_kind u refl refl) (every_nil _)

  pub entered_before : Entered ghosts v u → Entered ghosts before u
  entered_before entered = record {
    had_not = entered.had_not;
    part = entered.part;
    goes_on = entered.goes_on;
    room = entered.room;
    sized = entered.sized;
    held = subst (Every IsFreeAs) (sym (ap (offered K (slot_number o)) idle.held))
        (free_then o looked.fresh looked.of_kind);
    sound = entered.sound;
  }

-- `cadd`, by whether it needs a slot
module _ (number : ℕ) (command : Cmd) (adds : change_of command ≡ Adds) (u : WorldView) (needs : Bool)
    (asked : needs ≡ needs_slot u.state number command) where
  changes : change_in u.state number command ≡ cond needs (Takes Dependent) Adds
  changes = ap (λ b. cond b (Takes Dependent) (change_of command)) (sym asked)
      ∙ ap (cond needs (Takes Dependent)) adds

  module _ (v n : View WorldView) (idle : IsIdle v number) (some_room : 1 ≤ v.room) (o : Option Slot)
      (blocks : ℕ) (are : blocks ≡ v.limits.blocks) (entered : Entered ghosts v u) where
    abbrev Looks : Bool → Type 0
    Looks b = LooksWhere ghosts b blocks o (took ghosts u v) n

    abbrev Changes : Bool → Type 0
    Changes b = change_in u.state number command ≡ cond b (Takes Dependent) Adds

    offer_by : (b : Bool) → Changes b → Looks b → IsOffer u.state number command o
    offer_by true is looked =
        may_offer u (before u v n blocks o number idle looked) Dependent
        (entered_before u v n blocks o number idle looked entered) number command
        (asks_for u.state number command Dependent is) o (ap (offered K (slot_number o)) idle.held)
    offer_by false is looked = subst (IsOffer u.state number command) (sym looked.0) tt

    module _ (w : WorldView) (e : Entry) (stepped : Stepped u w number command o e) where
      -- what the table grew by may be granted, and the gate then left
      abbrev Goes : View WorldView → Type 0
      Goes m = Leaves number command u w e v (with_grown K e.grown m)
          × (e.grown ≢ Zero → GrowsByBlocks true e.grown
          × MayGrant ghosts blocks (handle_block e.grown) (extra_block e.grown) m)

      no_block : Changes false → e.grown ≡ Zero
      no_block is = (adds_none u.numbers u.state (well_formed stepped) e w.state stepped.applied.step command
          (ap (λ k. change_in u.state k command) stepped.applied.command.0 ∙ is)
          (subst (StepOf u.numbers u.state e w.state) stepped.applied.command.1 stepped.applied.step.does)).1

      goes_by : (b : Bool) → Changes b → Looks b → Goes n
      goes_by true is looked =
          subst Goes (sym (then_took u v n blocks o number idle looked))
          (made number command Dependent u w is v (before u v n blocks o number idle looked) idle some_room o
          blocks are true (sym (ap looks_with_gate adds)) refl looked.none
          (entered_before u v n blocks o number idle looked entered) e stepped)
      goes_by false is looked =
          subst Goes (sym looked.1) (
            subst (λ g. Leaves number command u w e v (with_grown K g (took ghosts u v))) (sym (no_block is))
                (plain_leaves number command u w (subst LeavesThem (sym is) tt) v idle some_room entered e
                (subst (λ p. Stepped u w number command p e) looked.0 stepped)),
            λ apart. absurd (apart (no_block is)),
          )

    -- what was looked for by the seat that won the gate
    module _ (t : TableId) (mid : Known WorldView) (won : mid ≡ record { table = t; view = took ghosts u v })
        (looked : LooksWhere ghosts needs blocks o mid.view n) where
      looks : Looks needs
      looks = subst (λ (s : Known WorldView). LooksWhere ghosts needs blocks o s.view n) won looked

      pub adds_offer : IsOffer u.state number command o
      adds_offer = offer_by needs changes looks

      pub added : (w : WorldView) (e : Entry) (stepped : Stepped u w number command o e) → Goes w e stepped n
      added w e stepped = goes_by w e stepped needs changes looks
