-- `hnew`, and a `cadd` that needs a slot: what its caller has under the gate, and once it left.
use Rattle.hd_gate.proofs.Basics.{Back, BlockUse, Bool, Change, Cmd, Entered, Entry, Grown, GrowsFor, GrowsUnoffered, Has, IsFree, IsIdle, IsNone, IsOffer, IsPrefix, Kind, List, LookedFor, MayGrant, MayOffer, None, Numbers, One, Option, OwnMiss, OwnSteps, ROWS, SearchView, Slot, SlotCalls, Some, State, StepOf, Stepped, Takes, TakesFor, Two, View, WorldView, Zero, [], ap, arith, asks_of, block_of, blocks_needed, called, cases_eq, change_in, change_of, changed, cond, eq-eqb, extra_block, extra_data, false, get, get_beside, get_inserted, ghosts, granted, handle_block, handle_slot, handles_of, has_member, inl, inr, is_live, is_nil, is_paired, kind_number, kind_word, looks_with_gate, nat_cmp, ne_eqb, numbers_of, offered, part_of, refl, search_of, slot_number, subst, sym, took, true, use_of, with_data_some, with_grown, ℕ, ◌*◌, ◌+◌, ◌<◌, ◌==◌, ◌↔◌, ◌∙◌, ◌∷◌, ◌≡◌, ◌≢◌, ◌≤◌, ◌⊎◌}
use mathlib.Core.Option.{some}
use lib.ListN.{get_elem?}
use Rattle.hd_custody.specs.{Views.GrowsByBlocks as GrowsKind, Misses.WholeMiss, Traces.Did}
use Rattle.hd_slots.proofs.StepLiveSlots.{use_by_word, neither, asks_for, IsNowLive, TakesOrIsFull, takes_or_full, TakesIt, GrowsBy, takes_it, grows_by}
use Rattle.hd_gate.proofs.GateLeave.{well_formed, Finds, SameSeat, same_seat, Leaves, leaves, held_stays, held_lives}
use Rattle.std.specs.FinMap as map
use Rattle.hd_model.specs.declared.data.Refusal.TheVariants as refusal
use Rattle.hd_model.specs.declared.data.Reply.TheVariants as reply

-- ---- a slot held was free

module _ (u : WorldView) (v : View WorldView) (kind : Kind) (entered : Entered ghosts v u) where
  -- one slot held, of the kind
  pub free_among_held : (n : ℕ) (slot : Slot) → get_elem? v.held n ≡ some (slot.0, kind_number kind + 1)
      → IsFree u.state kind slot
  free_among_held n slot at =
      let has = entered.held n (slot.0, kind_number kind + 1) at in
      let none = neither (get u.state.handles slot.0) (get u.state.weak slot.0) has.0 in
      record {
        no_handle = none.0;
        not_weak = none.1;
        of_kind = use_by_word (use_of u.state (block_of slot)) kind (has.1 (λ e. absurd (omega (arith, e))));
      }

  -- what `allocate` found may be offered
  pub may_offer : (number : ℕ) (c : Cmd) → asks_of u.state number c ≡ handle_slot kind → (o : Option Slot)
      → v.held ≡ offered (kind_number kind) (slot_number o) [] → IsOffer u.state number c o
  may_offer number c asks None held = tt
  may_offer number c asks (Some slot) held =
      subst (λ a. MayOffer u.state a slot) (sym asks) (free_among_held 0 slot (ap (λ h. get_elem? h 0) held))

-- ---- the one slot held became live

new_lives : (u w : WorldView) (busy : View WorldView) (x k : ℕ) → busy.held ≡ (x, k) ∷ []
    → ((z : ℕ) → z ≢ x → ghosts.live w z ≡ ghosts.live u z) → (z : ℕ) → ROWS ≤ z → ghosts.live w z ≡ true
    → (ghosts.live u z ≡ true) ⊎ Has z busy.held
new_lives u w busy x k only others z _ on = elim (cases_eq z x) [
  | inl same ↦ inr (subst (λ n. Has n busy.held) (sym same)
      (has_member busy.held 0 (x, k) (ap (λ h. get_elem? h 0) only)))
  | inr apart ↦ inl (sym (others z apart) ∙ on)
]

-- the kind words once a block has a use
word_after : (s t : map.FinMap nat_cmp BlockUse) (given : BlockUse) (block : ℕ) → t ≡ map.insert s block given
    → (c : ℕ) → kind_word (get t c) ≡ cond (block == c) (kind_word (Some given)) (kind_word (get s c))
word_after s t given block is c = ap (λ m. kind_word (get m c)) is ∙ elim (cases_eq block c) [
  | inl same ↦ (
      ap (λ n. kind_word (get (map.insert s block given) n)) (sym same)
      ∙ ap kind_word (get_inserted s block given)
      ∙ sym (ap (λ b. cond b (kind_word (Some given)) (kind_word (get s c))) (eq-eqb block c same)))
  | inr apart ↦ (
      ap kind_word (get_beside s block given c (λ e. apart (sym e)))
      ∙ sym (ap (λ b. cond b (kind_word (Some given)) (kind_word (get s c))) (ne_eqb block c apart)))
]

TableFull-injective : (a b : ℕ) → reply.Refused (refusal.TableFull a)
    ≡ reply.Refused (refusal.TableFull b) → a ≡ b
TableFull-injective a b e = cc

none_is : (o : Option Slot) → o ≡ None → IsNone o
none_is o e = subst (λ (p : Option Slot). IsNone p) (sym e) refl

-- a look without the gate
pub looked_without : (held : List (ℕ × ℕ)) (trace : List Did) (v v' : View WorldView) (number : ℕ)
    → IsIdle v number → v' ≡ called held trace v
    → v' ≡ record (called held trace v) { began_with_gate = false }
looked_without held trace v v' number idle is =
    is ∙ ap (λ b. record (called held trace v) { began_with_gate = b }) idle.gate

module _ (number : ℕ) (command : Cmd) (kind : Kind) (u w : WorldView)
    (takes : change_in u.state number command ≡ Takes kind) (v v' : View WorldView)
    (idle : IsIdle v number) (some_room : 1 ≤ v.room) (o : Option Slot)
    (blocks : ℕ) (are : blocks ≡ v.limits.blocks)
    (gated : Bool) (by_class : gated ≡ looks_with_gate (change_of command))
    (found : v' ≡ record (called (offered (kind_number kind) (slot_number o) v.held) v'.trace v) {
      began_with_gate = gated;
    }) (none : IsNone o ↔ WholeMiss (kind_number kind) blocks v'.trace)
    (entered : Entered ghosts v' u) (e : Entry) (stepped : Stepped u w number command o e) where
  abbrev K : ℕ
  K = kind_number kind

  asks : asks_of u.state number command ≡ handle_slot kind
  asks = asks_for u.state number command kind takes

  same : SameSeat v v'
  same = same_seat v' (record (called (offered K (slot_number o) v.held) v'.trace v) {
    began_with_gate = gated;
  }) found

  own : Finds v u
  own = (
    ap (part_of u.journal) (sym same.0) ∙ entered.part ∙ same.2,
    subst (λ s. IsPrefix s u.journal) (ap (λ (x : View WorldView). x.seen) found) entered.goes_on,
  )

  won : v'.gate_steps + 1 ≡ v.gate_steps + 1
  won = ap (λ (x : View WorldView). x.gate_steps + 1) found

  sized : u.numbers ≡ numbers_of v.limits
  sized = entered.sized ∙ ap numbers_of same.1

  held : v'.held ≡ offered K (slot_number o) []
  held = ap (λ (x : View WorldView). x.held) found ∙ ap (offered K (slot_number o)) idle.held

  does : TakesOrIsFull u.numbers u.state (well_formed stepped) e w.state stepped.applied.step kind
  does = takes_or_full u.numbers u.state (well_formed stepped) e w.state stepped.applied.step kind command
      (ap (λ n. change_in u.state n command) stepped.applied.command.0 ∙ takes)
      (subst (StepOf u.numbers u.state e w.state) stepped.applied.command.1 stepped.applied.step.does)

  -- what the caller knows of its search
  abbrev with_gate : Bool
  with_gate = looks_with_gate (change_of command)

  own_steps : OwnSteps with_gate (search_of v) (search_of v')
  own_steps = record {
    one = ap (λ (x : View WorldView). x.trace_number) found;
    began_empty = ap (λ (x : View WorldView). x.began_empty) found ∙ ap is_nil idle.held;
    began_with_gate = ap (λ (x : View WorldView). x.began_with_gate) found ∙ by_class;
  }

  slot_calls : SlotCalls (change_in u.state number command) with_gate u.state v.limits.blocks (search_of v)
      (search_of v') e
  slot_calls =
      subst (λ (c : Change). SlotCalls c with_gate u.state v.limits.blocks (search_of v) (search_of v') e)
      (sym takes) own_steps

  own_miss : o ≡ None → OwnMiss kind with_gate v.limits.blocks (search_of v) (search_of v')
  own_miss is = record {
    own = own_steps;
    miss = subst (λ b. WholeMiss K b v'.trace) are (none.0 (none_is o is));
  }

  looked_for : (e.grown ≢ Zero → o ≡ None)
      → ((given : ℕ) → e.reply ≡ reply.Refused (refusal.TableFull given)
      → (o ≡ None) × (v.limits.blocks < given + blocks_needed kind))
      → LookedFor (asks_of u.state number command) with_gate v.limits.blocks (search_of v) (search_of v') e
  looked_for grows full =
      subst (λ a. LookedFor a with_gate v.limits.blocks (search_of v) (search_of v') e) (sym asks) (record {
        grows = λ apart. own_miss (grows apart);
        full = λ given says. own_miss (full given says).0;
        few = λ given says. (full given says).1;
      })

  abbrev LeavesBy : Grown → Type 0
  LeavesBy g = Leaves number command u w e v (with_grown K g (took ghosts u v'))

  -- the one slot held is live now
  module _ (g : Grown) (x : ℕ) (blocks_after : map.FinMap nat_cmp BlockUse)
      (only : (with_grown K g (took ghosts u v')).held ≡ (x, K + 1) ∷ [])
      (now : IsNowLive u.numbers u.state (well_formed stepped) e w.state stepped.applied.step x blocks_after)
      (taken : (with_grown K g (took ghosts u v')).taken ≡ Some u) (seat : SameSeat v (with_grown K g (took ghosts u v')))
      (steps : (with_grown K g (took ghosts u v')).gate_steps ≡ v.gate_steps + 1)
      (search : search_of (with_grown K g (took ghosts u v')) ≡ search_of v') where
    is_stored : ((b : ℕ) → 0 < b → b < 257
        → ghosts.kind w b ≡ changed (with_grown K g (took ghosts u v')).changes (ghosts.kind u) b)
        → (e.grown ≢ Zero → o ≡ None) → e.reply ≡ reply.Done → LeavesBy g
    is_stored kinds grows replies =
        let busy = with_grown K g (took ghosts u v') in
        leaves number command o u w e stepped v busy idle some_room own sized seat steps taken
        (subst (λ (x : SearchView).
        SlotCalls (change_in u.state number command) with_gate u.state v.limits.blocks (search_of v) x e)
        (sym search) slot_calls)
        kinds (new_lives u w busy x (K + 1) only now.others)
        (held_lives u w busy x (K + 1) only now.here now.others)
        (subst (λ (x : SearchView).
        LookedFor (asks_of u.state number command) with_gate v.limits.blocks (search_of v) x e)
        (sym search) (looked_for grows (λ given says. (let clash = sym replies ∙ says in cc))))

  -- an offered slot was taken
  took_it : (slot : Slot) → o ≡ Some slot
      → TakesIt u.numbers u.state (well_formed stepped) e w.state stepped.applied.step slot → LeavesBy Zero
  took_it slot is it =
      is_stored Zero slot.0 u.state.blocks (held ∙ ap (λ p. offered K (slot_number p) []) is) it.is_stored
      refl same won refl (λ b _ _. ap (λ m. kind_word (get m b)) it.is_stored.blocks_are)
      (λ apart. absurd (apart it.grown)) it.reply

  -- none was offered
  module _ (is_none : o ≡ None) where
    empty : v'.held ≡ []
    empty = held ∙ ap (λ p. offered K (slot_number p) []) is_none

    at_first : (block : ℕ) (blocks_after : map.FinMap nat_cmp BlockUse)
        → IsNowLive u.numbers u.state (well_formed stepped) e w.state stepped.applied.step (block * ROWS)
        blocks_after
        → IsNowLive u.numbers u.state (well_formed stepped) e w.state stepped.applied.step (ROWS * block)
        blocks_after
    at_first block blocks_after now = subst (λ x. IsNowLive u.numbers u.state
        (well_formed stepped) e w.state stepped.applied.step x blocks_after) (omega arith) now

    none_offered : (g : Grown) → GrowsBy u.numbers u.state
        (well_formed stepped) e w.state stepped.applied.step kind g → LeavesBy g
    none_offered Zero by =
        leaves number command o u w e stepped v (took ghosts u v') idle some_room own sized same won refl slot_calls
        (λ b _ _. ap (λ (s : State). kind_word (use_of s b)) by.0)
        (λ x _ on. inl (sym (ap (λ (s : State). is_live s x) by.0) ∙ on))
        (held_stays u w (took ghosts u v') (λ x. ap (λ (s : State). is_live s x) by.0) empty)
        (looked_for (λ _. is_none)
        (λ given says. (
          is_none,
          (let same_given = TableFull-injective _ given (sym by.1 ∙ says) in
              let limit = ap (λ (n : Numbers). n.blocks) sized in omega (arith, by.2, same_given, limit)),
        )))
    none_offered (One block) by =
        is_stored (One block) (ROWS * block) _ (ap (λ h. (ROWS * block, K + 1) ∷ h) empty)
        (at_first block _ by.2) refl same won refl (λ b _ _.
        word_after u.state.blocks w.state.blocks (handles_of kind) block by.2.blocks_are b) (λ _. is_none)
        by.3
    none_offered (Two block other) by =
        let changes : (granted K block other (took ghosts u v')).changes ≡ (other, 8) ∷ (block, K + 1) ∷ [] =
        with_data_some other ((block, K + 1) ∷ []) (λ zero_is. absurd (omega (arith, zero_is, by.2.low))) in
        is_stored (Two block other) (ROWS * block) _ (ap (λ h. (ROWS * block, K + 1) ∷ h) empty)
        (at_first block _ by.3) refl same won refl
        (λ b _ _. word_after (map.insert u.state.blocks block (handles_of kind)) w.state.blocks
        extra_data other by.3.blocks_are b ∙ ap (cond (other == b) 8)
        (word_after u.state.blocks (map.insert u.state.blocks block (handles_of kind))
        (handles_of kind) block refl b)
        ∙ sym (ap (λ cs. changed cs (ghosts.kind u) b) changes))
        (λ _. is_none) by.4
    none_offered (Back block) by = absurd by

    grown : GrowsBy u.numbers u.state (well_formed stepped) e w.state stepped.applied.step kind e.grown
    grown = grows_by u.numbers u.state (well_formed stepped) e w.state stepped.applied.step kind
        (subst (λ a. GrowsFor u.numbers u.state a None e) asks
        (subst (λ (p : Option Slot). GrowsUnoffered u.numbers u.state number command p e) is_none
        stepped.applied.growth)) does

  it : (slot : Slot) → o ≡ Some slot → TakesIt u.numbers u.state
      (well_formed stepped) e w.state stepped.applied.step slot
  it slot is = takes_it u.numbers u.state (well_formed stepped) e w.state stepped.applied.step kind slot
      (subst (λ a. TakesFor e a slot) asks (stepped.applied.offer slot is)) does

  -- ---- what a grant asks

  abbrev Grants : Grown → Type 0
  Grants g =
      GrowsKind (is_paired kind) g × MayGrant ghosts blocks (handle_block g) (extra_block g) (took ghosts u v')

  grants : (g : Grown) → g ≢ Zero
      → GrowsBy u.numbers u.state (well_formed stepped) e w.state stepped.applied.step kind g → Grants g
  grants Zero apart by = absurd (apart refl)
  grants (One block) apart by =
      let limit = ap (λ (n : Numbers). n.blocks) sized in (
        by.0,
        record {
          inside = (
            omega (arith, by.1.low),
            omega (arith, by.1.high, limit, are),
            omega arith,
            (λ zero_is. omega (arith, zero_is, by.1.low)),
          );
          world = u;
          took = refl;
          no_kind = ap kind_word by.1.unused;
          no_data = λ some. absurd (some refl);
        },
      )
  grants (Two block other) apart by =
      let limit = ap (λ (n : Numbers). n.blocks) sized in (
        (by.0, omega (arith, by.2.low)),
        record {
          inside = (
            omega (arith, by.1.low),
            omega (arith, by.1.high, limit, are),
            omega (arith, by.2.high, limit, are),
            (λ same_is. omega (arith, same_is, by.2.low)),
          );
          world = u;
          took = refl;
          no_kind = ap kind_word by.1.unused;
          no_data = λ some. ap kind_word by.2.unused;
        },
      )
  grants (Back block) apart by = absurd by

  -- what the table grew by may be granted, and the gate then left
  abbrev Goes : Grown → Type 0
  Goes g = LeavesBy g × (g ≢ Zero → Grants g)

  goes_at : (p : Option Slot) → o ≡ p → Goes e.grown
  goes_at None is = let by = grown is in (none_offered is e.grown by, λ apart. grants e.grown apart by)
  goes_at (Some slot) is = subst Goes (sym (it slot is).grown)
      (took_it slot is (it slot is), λ apart. absurd (apart refl))

  pub made : Goes e.grown
  made = goes_at o refl
