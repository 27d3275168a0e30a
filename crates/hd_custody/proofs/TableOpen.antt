-- The table at its start and at its end.
use Rattle.hd_custody.proofs.Basics.{BLOCKS, Custodied, Divided, Ended, FIRST_MASK, Final, Fits, Ghosts, HasNumber, IsUnused, List, Numbers, Option, ROWS, Seen, Some, State, View, WORDS, [], ap, arith, cases_eq, cases_lt, cond, false, get_or, inl, inr, kind_word, length, length-replicate, one_if, opening, part_of, refl, replicate, starting, subst, suc, sym, tally, weight, zero, ℕ, ◌+◌, ◌/◌, ◌<◌, ◌==◌, ◌^◌, ◌∙◌, ◌∷◌, ◌≡◌, ◌≢◌, ◌≤◌, ◌⊎◌}
use mathlib.Core.Option.{some, some-injective, some-ne-none}
use lib.ListN.{get_elem?}
use Rattle.hd_custody.proofs.{WordTotals.total_two, WordTotals.total_at_none, HeldSlots.true_false, ViewChange.fits_as, JournalPrefixes.empty_prefix}
use Rattle.hd_custody.proofs.SlotWeights.{weight_zero, kind_word_is, kind_word_out, named_none}

-- ---- the table at its start

most : (n : ℕ) → n + 0 ≤ n
most n = omega arith

nothing : (a b d k : ℕ) → a ≡ 0 → b ≡ 0 → d ≡ 0 → k ≡ 0 → a + b + d ≡ k
nothing a b d k ea eb ed ek = omega arith

abbrev pub zero_words : List ℕ
zero_words = replicate WORDS 0

module _ {W : Type 0} (m : Ghosts W) (world : W) (unused : IsUnused m world) where
  abbrev firstly : View W
  firstly = starting (m.spare world) (m.numbers world)

  zeros : (i : ℕ) → get_or zero_words i 0 ≡ 0
  zeros = at WORDS
    where
      at : (n i : ℕ) → get_or (replicate {A = ℕ} n 0) i 0 ≡ 0
      at zero i = refl
      at (suc n) zero = refl
      at (suc n) (suc i) = at n i

  no_kind : (b : ℕ) → kind_word (zero_words) b ≡ 0
  no_kind b = elim (cases_lt b FIRST_MASK) [
    | inl lt ↦ kind_word_is (zero_words) b lt ∙ zeros b
    | inr le ↦ kind_word_out (zero_words) b le
  ]

  only : (j : ℕ) (u : View W) → get_elem? (firstly ∷ []) j ≡ some u → (j ≡ 0) × (firstly ≡ u)
  only zero u e = (refl, some-injective firstly u e)
  only (suc j) u e = absurd (some-ne-none u (sym e))

  first_fits : Fits 1 (λ n. cond (n == 0) 1 0) (m.journal world) (m.numbers world) 0 firstly
  first_fits = record {
    low = omega arith;
    owned = refl;
    own_part = sym (ap (λ j. part_of j 0) unused.no_entries);
    has_seen = empty_prefix [] (m.journal world) refl;
    knows = λ _. refl;
    alone = λ _. refl;
    ended_parts = λ k e at. absurd (some-ne-none e (sym at));
    sized = refl;
  }

  pub starts : Custodied m (m.numbers world) (opening (zero_words) (Some world ∷ []) firstly)
  starts = record {
    world = world;
    holder = 0;
    changes = [];
    made = 1;
    owner = λ n. cond (n == 0) 1 0;
    wide = length-replicate {A = ℕ} WORDS 0;
    sized = refl;
    gate = record {
      free_or_held = inl (zeros 0, refl, refl);
      holding = λ j u at alive has. absurd (true_false u.has_gate has (ap (λ (z : View W). z.has_gate)
          (sym (only j u at).1)));
    };
    seats = record {
      each = λ j u at alive. fits_as first_fits (only j u at);
      begun = omega arith;
      unmade = λ n le. ap (λ j. part_of j n) unused.no_entries;
      counted = refl;
      kept = λ n lt. (0, firstly, refl, (refl, inl (omega arith)));
      roomy = most (m.spare world);
    };
    kinds = λ b real lt. zeros b ∙ sym (unused.no_kinds b);
    slots = record {
      in_one_place = λ x real. nothing _ _ _ _ (total_at_none (weight x) WORDS 0 (λ i. weight_zero x i real))
          refl (ap one_if (unused.nothing_live x)) (named_none _ (no_kind (x / ROWS)));
      cells = λ i le ne. absurd (ne (zeros i));
      held = λ j u at alive n p e. absurd (some-ne-none p
          (sym (ap (λ (z : View W). get_elem? z.held n) (only j u at).1 ∙ e)));
      masks = λ i le lt. subst (λ n. n < (2 ^ ROWS)) (sym (zeros i)) (omega arith);
      empty_masks = λ b real lt none. zeros (BLOCKS + b);
    };
    sound = unused.sound;
  }

-- ---- the table at its end, where all seats that were made have ended in the first

module _ {W : Type 0} (m : Ghosts W) (numbers : Numbers) (id : ℕ) (v : View W) (lives : v.is_spent ≡ false)
    (first : v.number ≡ 0) (gateless : v.has_gate ≡ false)
    (all : length v.ended + 1 ≡ v.made) (s : State (Option W) (View W)) (c : Custodied m numbers s)
    (there : get_elem? s.views id ≡ some v) where
  own : Fits c.made c.owner (m.journal c.world) numbers id v
  own = c.seats.each id v there lives

  others_spent : (j : ℕ) (u : View W) → get_elem? s.views j ≡ some u → u.is_spent ≡ false → j ≢ id → ⊥
  others_spent j u at alive far =
      let two = total_two tally s.views j id u v at there far in
      let d = c.seats.counted in
      let made = own.knows first in
      let tv : tally v ≡ length v.ended + 1 = ap (λ t. cond t 0 (length v.ended + 1)) lives in
      let tu : tally u ≡ length u.ended + 1 = ap (λ t. cond t 0 (length u.ended + 1)) alive in
      omega arith

  stored_world : s.homes ≡ some (Some c.world) ∷ []
  stored_world = elim c.gate.free_or_held [
    | inl free ↦ free.1
    | inr taken ↦ absurd (elim (cases_eq c.holder id) [
      | inl here ↦ (
          let same : taken.1.view ≡ v = some-injective taken.1.view v (sym taken.1.there
          ∙ ap (get_elem? s.views) here ∙ there) in
          true_false v.has_gate (ap (λ (z : View W). z.has_gate) (sym same) ∙ taken.1.has) gateless)
      | inr far ↦ others_spent c.holder taken.1.view taken.1.there taken.1.lives far
    ])
  ]

  numbered : (n j : ℕ) (u : View W) → get_elem? s.views j ≡ some u → HasNumber n u → (j ≡ id) ⊎ (j ≢ id)
      → (n ≡ 0) ⊎ ((k : ℕ) × (e : Ended) × (get_elem? v.ended k ≡ some e) × (e.0 ≡ n))
  numbered n j u at has (inl here) =
      let same : u ≡ v = some-injective u v (sym at ∙ ap (get_elem? s.views) here ∙ there) in
      let mine : HasNumber n v = subst (λ z. HasNumber n z) same has in
      elim mine.1 [
        | inl is ↦ inl (sym is ∙ first)
        | inr e ↦ inr e
      ]
  numbered n j u at has (inr far) = absurd (others_spent j u at has.0 far)

  pub divides : Divided m v c.world
  divides =
      let made = own.knows first in record {
        sized = c.sized ∙ sym own.sized;
        own_part = ap (part_of (m.journal c.world)) (sym first) ∙ sym own.own_part;
        own_seen = own.has_seen;
        ended_parts = λ k e at. (let h = own.ended_parts k e at in (sym h.2, h.3));
        each = λ n lt. (let a = c.seats.kept n (omega arith) in numbered n a.0 a.1 a.2 a.3 (cases_eq a.0 id));
        others = λ n le. c.seats.unmade n (omega arith);
        sound = c.sound;
      }

module _ {W : Type 0} (m : Ghosts W) (numbers : Numbers) (id : ℕ) (v : View W) (lives : v.is_spent ≡ false)
    (first : v.number ≡ 0) (gateless : v.has_gate ≡ false)
    (all : length v.ended + 1 ≡ v.made) (ws : List ℕ) (xs : List (Option W)) where
  -- what the table's slot has at the end
  pub ends : Final (Seen (Custodied m numbers) id v) ws xs → (world : W)
      × (get_elem? xs 0 ≡ some (Some world)) × Divided m v world
  ends f =
      let s = f.0 in
      let c = f.1.0 in
      let at = f.1.1 in (
        c.world,
        f.4 0 (Some c.world)
            (ap (λ hs. get_elem? hs 0) (stored_world m numbers id v lives first gateless all s c
            at)),
        divides m numbers id v lives first gateless all s c at,
      )
