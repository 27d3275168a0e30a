-- `trim`: what its caller has under the gate, and once it left.
use Rattle.hd_gate.proofs.Basics.{Back, BlockUse, Bool, Change, Cmd, Entered, Entry, Every, Gathers, GrowsUnoffered, Has, IfSome, IsIdle, IsOffer, IsPrefix, Kind, List, LookedFor, None, Option, OwnSteps, ROWS, SlotCalls, Some, State, StepOf, Stepped, View, WorldView, [], ap, arith, asks_of, called, cases_eq, change_in, change_of, closed, cond, eq-eqb, every_append, every_picks, false, filter-append, filter_picks, first_block, first_slot, gathered, get, get_left, get_removed, ghosts, inl, inr, is_live, is_nil, kind_number, kind_word, looks_with_gate, member_at, nat_cmp, ne_eqb, not, numbers_of, option_map, part_of, picks_none, refl, row_has, rows, search_of, subst, sym, took, true, use_of, without_block, without_gathered, without_use, ℕ, ◌%◌, ◌&&◌, ◌*◌, ◌++◌, ◌+◌, ◌/◌, ◌<◌, ◌==◌, ◌∙◌, ◌≡◌, ◌≤◌}
use Rattle.std.specs.Int.{bit_at}
use Rattle.std.proofs.lemmas.Nat.Bits.{bit_at_ones}
use mathlib.Core.Option.{some}
use lib.ListN.{get_elem?}
use Rattle.hd_custody.specs.Traces.{every_row, follow, sweep, missed, ending}
use Rattle.hd_store.specs.Offers.{Takes as TakesOffer}
use Rattle.hd_slots.specs.declared.change.Change.TheVariants.{GivesBack as Gives}
use Rattle.hd_gate.proofs.HandleMake.{free_among_held}
use Rattle.hd_slots.proofs.StepLiveSlots.{in_state, zero_is_not_one, is_trim}
use Rattle.hd_gate.proofs.GateLeave.{Finds, SameSeat, same_seat, Leaves, leaves, every_nil, held_stays}
use Rattle.std.specs.FinMap as map
use Rattle.hd_model.specs.declared.data.Reply.TheVariants as reply
use Rattle.hd_model.specs.declared.command.Cmd.TheVariants as cmd

-- ---- the 64 slots of a block

module _ (k block : ℕ) where
  abbrev all : List (ℕ × ℕ)
  all = rows block every_row (k + 1) ++ []

  pub all_has : (r : ℕ) → r < ROWS → Has (ROWS * block + r) all
  all_has r lt = row_has block every_row (k + 1) r [] lt (bit_at_ones ROWS r lt)

  of_kind : Every (λ p. p.1 ≡ k + 1) all
  of_kind = every_append (λ p. p.1 ≡ k + 1) (rows block every_row (k + 1)) []
      (every_picks (λ p. p.1 ≡ k + 1) ROWS (λ r. bit_at every_row r == 1) (ROWS * block) (λ _. k + 1)
      (λ r lt on. refl)) (every_nil (λ p. p.1 ≡ k + 1))

  -- one of them, as it is held
  pub there : (x : ℕ) → x / ROWS ≡ block → (n : ℕ) × (get_elem? all n ≡ some (x, k + 1))
  there x of =
      let has : Has x all = subst (λ y. Has y all) (omega (arith, of)) (all_has (x % ROWS) (omega arith)) in
      let at = member_at x all has in
      let kind = of_kind at.0 at.1 at.2 in
      (at.0, at.2 ∙ ap some (λ i. (at.3 i, kind i)))

  pub all_go : without_block block all ≡ []
  all_go =
      filter-append (λ p. not (p.0 / ROWS == block)) (rows block every_row (k + 1)) [] ∙ ap (λ ps. ps ++ [])
      (filter_picks (λ x. not (x / ROWS == block)) ROWS (λ r. bit_at every_row r == 1) (ROWS * block)
      (λ _. k + 1)
      ∙ picks_none ROWS (λ r. (bit_at every_row r == 1) && not ((ROWS * block + r) / ROWS == block))
      (ROWS * block)
      (λ _. k + 1) (λ r lt. ap (λ b. (bit_at every_row r == 1) && not b)
      (eq-eqb ((ROWS * block + r) / ROWS) block (omega (arith, lt))) ∙ none (bit_at every_row r == 1)))
    where
      none : (b : Bool) → (b && false) ≡ false
      none true = refl
      none false = refl

-- what was gathered may be offered
module _ (u : WorldView) (v : View WorldView) (kind : Kind) (entered : Entered ghosts v u) where
  pub may_offer : (number : ℕ) (c : Cmd) → change_of c ≡ Gives kind → (o : Option ℕ) → v.held
      ≡ gathered (kind_number kind) o [] → IsOffer u.state number c (option_map first_slot o)
  may_offer number c gives None held = tt
  may_offer number c gives (Some block) held =
      subst (λ (x : Cmd). IsOffer u.state number x (Some (first_slot block)))
      (sym (is_trim u.state number kind c
      (in_state u.state number c (Gives kind) (λ e. cc) gives))) (
        ap first_slot (sym (first_block block)),
        (λ slot of. let at = there (kind_number kind) block slot.0 (of ∙ first_block block) in
            free_among_held u v kind entered at.0 slot (ap (λ h. get_elem? h at.0) held ∙ at.1)),
      )

closed_kind : (s t : map.FinMap nat_cmp BlockUse) (block : ℕ) → t ≡ map.remove s block → (c : ℕ)
    → kind_word (get t c) ≡ cond (block == c) 0 (kind_word (get s c))
closed_kind s t block is c = ap (λ m. kind_word (get m c)) is ∙ elim (cases_eq block c) [
  | inl same ↦ (
      ap (λ n. kind_word (get (map.remove s block) n)) (sym same) ∙ ap kind_word (get_removed s block)
      ∙ sym (ap (λ b. cond b 0 (kind_word (get s c))) (eq-eqb block c same)))
  | inr apart ↦ (
      ap kind_word (get_left s block c (λ e. apart (sym e)))
      ∙ sym (ap (λ b. cond b 0 (kind_word (get s c))) (ne_eqb block c apart)))
]

Back-injective : (a b : ℕ) → Back a ≡ Back b → a ≡ b
Back-injective a b e = cc

module _ (number : ℕ) (command : Cmd) (kind : Kind) (is_gives : change_of command ≡ Gives kind)
    (u w : WorldView) (v v' : View WorldView) (idle : IsIdle v number) (some_room : 1 ≤ v.room) (o : Option ℕ)
    (blocks : ℕ) (are : blocks ≡ v.limits.blocks)
    (found : Gathers (kind_number kind) blocks o v v') (entered : Entered ghosts v' u) (e : Entry)
    (stepped : Stepped u w number command (option_map first_slot o) e) where
  abbrev K : ℕ
  K = kind_number kind

  gives : change_in u.state number command ≡ Gives kind
  gives = in_state u.state number command (Gives kind) (λ e. cc) is_gives

  same : SameSeat v v'
  same = same_seat v' (called (gathered K o v.held) v'.trace v) found.view

  own : Finds v u
  own = (
    ap (part_of u.journal) (sym same.0) ∙ entered.part ∙ same.2,
    subst (λ s. IsPrefix s u.journal) (ap (λ (x : View WorldView). x.seen) found.view) entered.goes_on,
  )

  won : v'.gate_steps + 1 ≡ v.gate_steps + 1
  won = ap (λ (x : View WorldView). x.gate_steps + 1) found.view

  sized : u.numbers ≡ numbers_of v.limits
  sized = entered.sized ∙ ap numbers_of same.1

  held : v'.held ≡ gathered K o []
  held = ap (λ (x : View WorldView). x.held) found.view ∙ ap (gathered K o) idle.held

  does : StepOf u.numbers u.state e w.state (cmd.Trim kind)
  does = subst (StepOf u.numbers u.state e w.state)
      (stepped.applied.command.1 ∙ is_trim u.state number kind command gives) stepped.applied.step.does

  abbrev with_gate : Bool
  with_gate = looks_with_gate (change_of command)

  own_steps : OwnSteps with_gate (search_of v) (search_of v')
  own_steps = record {
    one = ap (λ (x : View WorldView). x.trace_number) found.view;
    began_empty = ap (λ (x : View WorldView). x.began_empty) found.view ∙ ap is_nil idle.held;
    began_with_gate = ap (λ (x : View WorldView). x.began_with_gate) found.view ∙ idle.gate
        ∙ sym (ap looks_with_gate is_gives);
  }

  slot_calls : SlotCalls (change_in u.state number command) with_gate u.state v.limits.blocks (search_of v)
      (search_of v') e
  slot_calls =
      subst (λ (c : Change). SlotCalls c with_gate u.state v.limits.blocks (search_of v) (search_of v') e)
      (sym gives) own_steps

  looked_for : (e.reply ≡ reply.Value 0 → o ≡ None)
      → LookedFor (asks_of u.state number command) with_gate v.limits.blocks (search_of v) (search_of v') e
  looked_for only =
      subst (λ (c : Cmd). LookedFor (asks_of u.state number c) with_gate v.limits.blocks (search_of v) (search_of v') e)
      (sym (is_trim u.state number kind command gives))
      (λ says. record {
        own = own_steps;
        ended = subst (λ b. follow K b (sweep 0) v'.trace ≡ missed) are (found.steps ∙ ap ending (only says));
        none = found.none (only says);
      })

  -- nothing was gathered, and nothing is given back
  kept : o ≡ None → Leaves number command u w e v (took ghosts u v')
  kept none =
      let grows : e.reply ≡ reply.Value 0 =
      subst (λ (c : Cmd). GrowsUnoffered u.numbers u.state number c None e)
      (is_trim u.state number kind command gives)
      (subst (λ (p : Option ℕ).
      GrowsUnoffered u.numbers u.state number command (option_map first_slot p) e) none
      stepped.applied.growth) in
      elim does [
        | inl m ↦ absurd (zero_is_not_one (sym grows ∙ m.reply))
        | inr out ↦ leaves number command (option_map first_slot o) u w e stepped v
            (took ghosts u v') idle some_room own sized
            same won refl slot_calls (λ b _ _. ap (λ (s : State). kind_word (use_of s b)) out.after)
            (λ x _ on. inl (sym (ap (λ (s : State). is_live s x) out.after) ∙ on))
            (held_stays u w (took ghosts u v') (λ x. ap (λ (s : State). is_live s x) out.after)
            (held ∙ ap (λ p. gathered K p []) none))
            (looked_for (λ _. none))
      ]

  -- a block was gathered, and is given back
  given : (block : ℕ) → o ≡ Some block → Leaves number command u w e v (closed block (took ghosts u v'))
  given block is =
      let busy = closed block (took ghosts u v') in
      let takes : TakesOffer u.state number e (cmd.Trim kind) (first_slot block) = subst
      (λ (c : Cmd). TakesOffer u.state number e c (first_slot block))
      (is_trim u.state number kind command gives)
      (stepped.applied.offer (first_slot block) (ap (option_map first_slot) is)) in
      elim does [
        | inl m ↦ (
            let which : m.block ≡ block = Back-injective m.block block
            (sym m.grown ∙ takes.1 ∙ ap Back (first_block block)) in
            let after : w.state ≡ without_use u.state block = m.after ∙ ap (without_use u.state) which in
            leaves number command (option_map first_slot o) u w e stepped v busy idle some_room own sized
            same won refl slot_calls
            (λ b _ _. closed_kind u.state.blocks w.state.blocks block
            (ap (λ (s : State). s.blocks) after) b)
            (λ x _ on. inl (sym (ap (λ (s : State). is_live s x) after) ∙ on))
            (held_stays u w busy (λ x. ap (λ (s : State). is_live s x) after)
            (ap (without_block block) (held ∙ ap (λ p. gathered K p []) is) ∙ all_go K block))
            (looked_for (λ says. absurd (zero_is_not_one (sym says ∙ m.reply)))))
        | inr out ↦ absurd (zero_is_not_one (sym out.reply ∙ takes.0))
      ]

  leaves_at : (p : Option ℕ) → o ≡ p → Leaves number command u w e v (without_gathered p (took ghosts u v'))
  leaves_at None is = kept is
  leaves_at (Some block) is = given block is

  pub trim_leaves : Leaves number command u w e v (without_gathered o (took ghosts u v'))
  trim_leaves = leaves_at o refl

-- what `gather` returned may be withdrawn
pub may_withdraw : (k : ℕ) (o : Option ℕ) (held : List (ℕ × ℕ)) → held ≡ gathered k o []
    → IfSome o (λ b. (r : ℕ) → r < ROWS → Has (ROWS * b + r) held)
may_withdraw k None held is = tt
may_withdraw k (Some block) held is =
    λ r lt. subst (λ h. Has (ROWS * block + r) h) (sym is) (all_has k block r lt)
