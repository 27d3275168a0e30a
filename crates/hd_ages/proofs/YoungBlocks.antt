-- The sets of blocks with young clumps: what a search in one finds, and what a new word for a block does to it.
use Rattle.hd_ages.proofs.Basics.{All, All-replicate, All-weaker, AreAbove, CLUMPS, HasNoneFrom, HasYoung, IfNone, IfSome, IsLeastFrom, List, None, NumberSet, Option, Some, ages_in, ages_of, ap, arith, both_ways, cases_eq, cases_lt, contains, contains-empty, drop, false, get_or, get_or-drop, get_or-take, inl, inr, length, length-set, replicate, set, subst, sym, ℕ, ◌%◌, ◌*◌, ◌+◌, ◌-◌, ◌/◌, ◌<◌, ◌∙◌, ◌≡◌, ◌≢◌, ◌≤◌}
use Rattle.std.proofs.lemmas.List.{get_or-replicate, get_or-set_other, get_or-set_same, length-replicate}
use Rattle.std.specs.FinSet.{empty, insert, remove}
use Rattle.std.specs.Ordering.{nat_cmp}
use Rattle.hd_tiers.proofs.SetMembers.{insert_same, insert_other, remove_same, remove_other}
use Rattle.hd_ages.proofs.BlockAges.{ages_of-read, ages_small, length-ages_of}

-- an age, by the word of its block
age_read : (ws : List ℕ) (i : ℕ) → i < CLUMPS * length ws
    → get_or (ages_of ws) i 0 ≡ get_or (ages_in (get_or ws (i / CLUMPS) 0)) (i % CLUMPS) 0
age_read ws i lt =
    let at : i ≡ CLUMPS * (i / CLUMPS) + i % CLUMPS = omega arith in
    ap (λ j. get_or (ages_of ws) j 0) at
    ∙ sym (get_or-drop (CLUMPS * (i / CLUMPS)) (ages_of ws) (i % CLUMPS) 0)
    ∙ sym (get_or-take CLUMPS (drop (CLUMPS * (i / CLUMPS)) (ages_of ws)) (i % CLUMPS) 0 (omega arith))
    ∙ ap (λ xs. get_or xs (i % CLUMPS) 0) (ages_of-read ws (i / CLUMPS) (omega (arith, lt)))

-- ---- what a search finds

module _ {k n : ℕ} {words ages : List ℕ} {s : NumberSet} (is : n ≡ k) (view : ages_of words ≡ ages)
    (has : HasYoung k words s) where
  long : length ages ≡ CLUMPS * length words
  long = sym (ap length view) ∙ length-ages_of words

  above : (i : ℕ) → i < length ages → contains s.members (i / CLUMPS + 1) ≡ false → n < get_or ages i 0
  above i lt none =
      let index : i / CLUMPS + 1 - 1 ≡ i / CLUMPS = omega arith in
      let four : All (λ age. k < age) (ages_in (get_or words (i / CLUMPS) 0)) =
      subst (λ j. All (λ age. k < age) (ages_in (get_or words j 0))) index
      (has.above (i / CLUMPS + 1) (omega arith) (omega (arith, lt, long)) none) in
      let few : i % CLUMPS < 4 = omega arith in
      let read : get_or (ages_in (get_or words (i / CLUMPS) 0)) (i % CLUMPS) 0 ≡ get_or ages i 0 =
      sym (age_read words i (omega (arith, lt, long))) ∙ ap (λ xs. get_or xs i 0) view in
      let old : k < get_or ages i 0 = subst (λ a. k < a) read (four (i % CLUMPS) 0 few) in
      omega (arith, is, old)

  pub all_small : All (λ a. a ≤ 2) ages
  all_small = subst (λ xs. All (λ a. a ≤ 2) xs) view (ages_small words)

  module _ (after : ℕ) where
    pub next_low : (o : Option ℕ) → IfSome o (IsLeastFrom s.members (after + 1))
        → IfSome o (λ b. after + 1 ≤ b)
    next_low None found = found
    next_low (Some b) found = found.low

    pub next_high : (o : Option ℕ) → IfSome o (IsLeastFrom s.members (after + 1))
        → IfSome o (λ b. CLUMPS * b ≤ length ages)
    next_high None found = found
    next_high (Some b) found = let range = has.within b found.member in omega (arith, range.1, long)

    pub next_few : (most : ℕ) → length words ≤ most → (o : Option ℕ)
        → IfSome o (IsLeastFrom s.members (after + 1)) → IfSome o (λ b. b ≤ most)
    next_few most few None found = found
    next_few most few (Some b) found = let range = has.within b found.member in omega (arith, range.1, few)

    pub next_above : (o : Option ℕ) → IfSome o (IsLeastFrom s.members (after + 1))
        → IfSome o (λ b. AreAbove n ages (CLUMPS * after) (CLUMPS * b - CLUMPS))
    next_above None found = found
    next_above (Some b) found = λ i low high.
        let range = has.within b found.member in
        above i (omega (arith, high, range.1, long))
        (found.least (i / CLUMPS + 1) (omega (arith, low)) (omega (arith, high)))

    pub next_none : (o : Option ℕ) → IfNone o (HasNoneFrom s.members (after + 1))
        → IfNone o (AreAbove n ages (CLUMPS * after) (length ages))
    next_none None none = λ i low high. above i high (none (i / CLUMPS + 1) (omega (arith, low)))
    next_none (Some b) none = none

-- ---- another word for a block

module _ {k : ℕ} {words : List ℕ} {s : NumberSet} (has : HasYoung k words s) (block w : ℕ)
    (low : 1 ≤ block) (high : block ≤ length words) where
  abbrev Above : ℕ → Type 0
  Above v = All (λ age. k < age) (ages_in v)

  others : (b : ℕ) → 1 ≤ b → b ≢ block → Above (get_or words (b - 1) 0)
      → Above (get_or (set words (block - 1) w) (b - 1) 0)
  others b first apart =
      subst Above (sym (get_or-set_other words (block - 1) (b - 1) w 0 (λ e. apart (omega (arith, first, low, e)))))

  size : length (set words (block - 1) w) ≡ length words
  size = length-set words (block - 1) w

  -- it is young
  young : {after : NumberSet} → after ≡ record s { members = insert s.members block }
      → HasYoung k (set words (block - 1) w) after
  young is =
      subst (HasYoung k (set words (block - 1) w)) (sym is)
      (record {
        room = omega (arith, has.room, size);
        within = λ b member. elim (cases_eq b block) [
          | inl e ↦ (omega (arith, low, e), omega (arith, high, e, size))
          | inr apart ↦
              let range = has.within b (sym (insert_other s.members block b apart) ∙ member) in
              (range.0, omega (arith, range.1, size))
        ];
        above = λ b first last none. elim (cases_eq b block) [
          | inl e ↦ absurd (both_ways _ none (insert_same s.members block b e))
          | inr apart ↦ others b first apart (has.above b first (omega (arith, last, size))
              (sym (insert_other s.members block b apart) ∙ none))
        ];
      })

  -- it is not
  old : {after : NumberSet} → Above w → after ≡ record s { members = remove s.members block }
      → HasYoung k (set words (block - 1) w) after
  old all is =
      subst (HasYoung k (set words (block - 1) w)) (sym is)
      (record {
        room = omega (arith, has.room, size);
        within = λ b member. elim (cases_eq b block) [
          | inl e ↦ absurd (both_ways _ (remove_same s.members block b e) member)
          | inr apart ↦
              let range = has.within b (sym (remove_other s.members block b apart) ∙ member) in
              (range.0, omega (arith, range.1, size))
        ];
        above = λ b first last none. elim (cases_eq b block) [
          | inl e ↦
              let here : w ≡ get_or (set words (block - 1) w) (b - 1) 0 =
              sym (get_or-set_same words (block - 1) w 0 (omega (arith, low, high)))
              ∙ ap (λ x. get_or (set words (block - 1) w) (x - 1) 0) (sym e) in
              subst Above here all
          | inr apart ↦ others b first apart (has.above b first (omega (arith, last, size))
              (sym (remove_other s.members block b apart) ∙ none))
        ];
      })

  pub noted : {after : NumberSet} {least : ℕ} (most : ℕ) → All (λ age. least ≤ age) (ages_in w)
      → (least ≤ most → after ≡ record s { members = insert s.members block })
      → (most < least → after ≡ record s { members = remove s.members block }) → k ≡ most
      → HasYoung k (set words (block - 1) w) after
  noted {after} {least} most all is_young is_old is =
      elim (cases_lt most least) [
        | inl past ↦ old (All-weaker (λ age. least ≤ age) (λ age. k < age)
            (λ age le. omega (arith, past, is, le)) (ages_in w) all) (is_old past)
        | inr few ↦ young (is_young few)
      ]

-- ---- a table whose ages are all 2

pub none_young : (k blocks : ℕ) (words : List ℕ) (s : NumberSet) → k < 2 → words ≡ replicate blocks 255
    → s ≡ record { room = 64 * (blocks / 64 + 1); members = empty } → HasYoung k words s
none_young k blocks words s few words_are is =
    let size : length words ≡ blocks = ap length words_are ∙ length-replicate {A = ℕ} blocks 255 in
    record {
      room = omega (arith, size, ap (λ (t : NumberSet). t.room) is);
      within = λ b member. absurd (both_ways _ (ap (λ (t : NumberSet). contains t.members b) is
          ∙ contains-empty nat_cmp b) member);
      above = λ b first last none.
          let read : get_or words (b - 1) 0 ≡ 255 = ap (λ ws. get_or ws (b - 1) 0) words_are
          ∙ get_or-replicate blocks (b - 1) 255 0 (omega (arith, first, last, size)) in
          subst (λ v. All (λ age. k < age) (ages_in v)) (sym read)
          (All-replicate (λ (age : ℕ). k < age) 4 2 few);
    }
