-- What each call of a tier does to its two sets.
use Rattle.hd_tiers.proofs.Basics.{BITS, Err, HasNoneBetween, HasNoneFrom, HasNoneOf, HasSomeOf, NumberSet, IfNone, IfSome, IsLeastFrom, IsLeastOf, IsTiered, MatchResult, None, Ok, Option, Result, Some, ap, arith, both_ways, cases_eq, cases_lt, contains, contains-empty, empty, false, false_from_ne_true, inl, inr, insert, max, nat_cmp, refl, remove, subst, sym, true, ℕ, ◌*◌, ◌+◌, ◌/◌, ◌<◌, ◌∙◌, ◌≡◌, ◌≢◌, ◌≤◌, ◌⊎◌}
use Rattle.hd_tiers.proofs.SetMembers.{insert_same, insert_other, insert_keeps, remove_same, remove_other}

pub along : {numbers new marked left : NumberSet} → new ≡ numbers → left ≡ marked → IsTiered numbers marked
    → IsTiered new left
along {numbers} {new} {marked} {left} n m tiered =
    subst (λ a. IsTiered a left) (sym n) (subst (λ b. IsTiered numbers b) (sym m) tiered)

module _ {numbers marked : NumberSet} (inv : IsTiered numbers marked) where
  -- ---- a number is added

  module _ (i : ℕ) where
    abbrev more : NumberSet
    more = record numbers { members = insert numbers.members i }

    -- a block that had a member has it still
    still : (block : ℕ) → HasSomeOf numbers.members block → HasSomeOf (insert numbers.members i) block
    still block has = record {
      number = has.number;
      of_block = has.of_block;
      member = insert_keeps numbers.members i has.number has.member;
    }

    -- a block that has a member besides is marked already
    pub inserted_more : HasSomeOf numbers.members (i / BITS)
        → IsTiered (record numbers { members = insert numbers.members i }) marked
    inserted_more has = record {
      wide = inv.wide;
      marks = λ k member. elim (cases_eq k i) [
        | inl e ↦ ap (contains marked.members) (ap (λ x. x / BITS) e ∙ sym has.of_block)
            ∙ inv.marks has.number has.member
        | inr apart ↦ inv.marks k (sym (insert_other numbers.members i k apart) ∙ member)
      ];
      some = λ block member. still block (inv.some block member);
    }

    inserted_first : IsTiered (record numbers { members = insert numbers.members i })
        (record marked { members = insert marked.members (i / BITS) })
    inserted_first = record {
      wide = inv.wide;
      marks = λ k member. elim (cases_eq (k / BITS) (i / BITS)) [
        | inl e ↦ insert_same marked.members (i / BITS) (k / BITS) e
        | inr apart ↦ insert_keeps marked.members (i / BITS) (k / BITS) (inv.marks k
            (sym (insert_other numbers.members i k (λ e. apart (ap (λ x. x / BITS) e))) ∙ member))
      ];
      some = λ block member. elim (cases_eq block (i / BITS)) [
        | inl e ↦ record { number = i; of_block = sym e; member = insert_same numbers.members i i refl }
        | inr apart ↦ still block (inv.some block
            (sym (insert_other marked.members (i / BITS) block apart) ∙ member))
      ];
    }

    -- by the number of the block that was inserted above
    pub inserted_at : {left : NumberSet} (at : ℕ) → left ≡ record marked { members = insert marked.members at }
        → at ≡ i / BITS → IsTiered (record numbers { members = insert numbers.members i }) left
    inserted_at at is its =
        along refl (is ∙ ap (λ n. record marked { members = insert marked.members n }) its) inserted_first

  -- ---- a number is removed

  module _ (i : ℕ) where
    -- a member after the removal was one before
    was : (k : ℕ) → contains (remove numbers.members i) k ≡ true → contains numbers.members k ≡ true
    was k member = elim (cases_eq k i) [
      | inl e ↦ absurd (both_ways _ (remove_same numbers.members i k e) member)
      | inr apart ↦ sym (remove_other numbers.members i k apart) ∙ member
    ]

    -- another block keeps its member
    kept : (block : ℕ) → block ≢ i / BITS → HasSomeOf numbers.members block
        → HasSomeOf (remove numbers.members i) block
    kept block apart has = record {
      number = has.number;
      of_block = has.of_block;
      member = remove_other numbers.members i has.number
          (λ e. apart (sym has.of_block ∙ ap (λ x. x / BITS) e)) ∙ has.member;
    }

    -- its block has a member left, or had none
    pub removed_more : HasSomeOf (remove numbers.members i) (i / BITS) ⊎ HasNoneOf numbers.members (i / BITS)
        → IsTiered (record numbers { members = remove numbers.members i }) marked
    removed_more way = record {
      wide = inv.wide;
      marks = λ k member. inv.marks k (was k member);
      some = λ block member. elim (cases_eq block (i / BITS)) [
        | inl e ↦ subst (HasSomeOf (remove numbers.members i)) (sym e)
            (left way (inv.some (i / BITS) (ap (contains marked.members) (sym e) ∙ member)))
        | inr apart ↦ kept block apart (inv.some block member)
      ];
    }
      where
        left : HasSomeOf (remove numbers.members i) (i / BITS) ⊎ HasNoneOf numbers.members (i / BITS)
            → HasSomeOf numbers.members (i / BITS) → HasSomeOf (remove numbers.members i) (i / BITS)
        left (inl some) has = some
        left (inr none) has = absurd (both_ways _ (none has.number has.of_block) has.member)

    removed_last : HasNoneOf (remove numbers.members i) (i / BITS)
        → IsTiered (record numbers { members = remove numbers.members i })
        (record marked { members = remove marked.members (i / BITS) })
    removed_last none = record {
      wide = inv.wide;
      marks = λ k member. elim (cases_eq (k / BITS) (i / BITS)) [
        | inl e ↦ absurd (both_ways _ (none k e) member)
        | inr apart ↦ remove_other marked.members (i / BITS) (k / BITS) apart ∙ inv.marks k (was k member)
      ];
      some = λ block member. elim (cases_eq block (i / BITS)) [
        | inl e ↦ absurd (both_ways _ (remove_same marked.members (i / BITS) block e) member)
        | inr apart ↦ kept block apart (inv.some block
            (sym (remove_other marked.members (i / BITS) block apart) ∙ member))
      ];
    }

    -- by the number of the block that was removed above
    pub removed_at : {left : NumberSet} (at : ℕ) → left ≡ record marked { members = remove marked.members at }
        → at ≡ i / BITS → HasNoneOf (remove numbers.members i) (i / BITS)
        → IsTiered (record numbers { members = remove numbers.members i }) left
    removed_at at is its none =
        along refl (is ∙ ap (λ n. record marked { members = remove marked.members n }) its) (removed_last none)

  -- ---- searches

  -- no block from one on has a member
  none_of_blocks : (block : ℕ) → HasNoneFrom marked.members block → (k : ℕ) → block ≤ k / BITS
      → contains numbers.members k ≡ false
  none_of_blocks block none k le =
      false_from_ne_true _ (λ is. both_ways _ (none (k / BITS) le) (inv.marks k is))

  pub none_at_all : HasNoneFrom marked.members 0 → HasNoneFrom numbers.members 0
  none_at_all none k from_on = none_of_blocks 0 none k (omega arith)

  pub none_beyond : (from : ℕ) → HasNoneBetween numbers.members from (BITS * (from / BITS + 1))
      → HasNoneFrom marked.members (from / BITS + 1) → HasNoneFrom numbers.members from
  none_beyond from near far k from_on =
      elim (cases_lt k (BITS * (from / BITS + 1))) [
        | inl before ↦ near k from_on before
        | inr after ↦ none_of_blocks (from / BITS + 1) far k (omega arith)
      ]

  module _ {block first : ℕ} (found : IsLeastFrom marked.members first block) where
    pub not_none : HasNoneOf numbers.members block → ⊥
    not_none none =
        let has = inv.some block found.member in
        both_ways _ (none has.number has.of_block) has.member

    none_before : (k : ℕ) → first ≤ k / BITS → k / BITS < block → contains numbers.members k ≡ false
    none_before k le lt =
        false_from_ne_true _ (λ is. both_ways _ (found.least (k / BITS) le lt) (inv.marks k is))

    module _ {i : ℕ} (own : IsLeastOf numbers.members block i) where
      below_own : (k : ℕ) → first ≤ k / BITS → k < i → contains numbers.members k ≡ false
      below_own k le lt =
          elim (cases_lt (k / BITS) block) [
            | inl before ↦ none_before k le before
            | inr after ↦ own.least k (omega (arith, own.of_block)) lt
          ]

      pub least_at_all : first ≡ 0 → IsLeastFrom numbers.members 0 i
      least_at_all zero = record {
        low = omega arith;
        member = own.member;
        least = λ k from_on below. below_own k (omega (arith, zero)) below;
      }

      pub least_beyond : (from : ℕ) → first ≡ from / BITS + 1
          → HasNoneBetween numbers.members from (BITS * (from / BITS + 1))
          → IsLeastFrom numbers.members from i
      least_beyond from is near = record {
        low = omega (arith, found.low, own.of_block, is);
        member = own.member;
        least = λ k from_on below. elim (cases_lt k (BITS * (from / BITS + 1))) [
          | inl before ↦ near k from_on before
          | inr after ↦ below_own k (omega (arith, is)) below
        ];
      }

-- ---- the start, and along what the calls write

pub opened : (numbers marked : NumberSet) (blocks : ℕ) → numbers ≡ record { room = BITS * blocks; members = empty }
    → marked ≡ record { room = BITS * (blocks / BITS + 1); members = empty } → IsTiered numbers marked
opened numbers marked blocks numbers_is marked_is = record {
  wide = omega (arith, ap (λ (s : NumberSet). s.room) numbers_is, ap (λ (s : NumberSet). s.room) marked_is);
  marks = λ i member. absurd (both_ways _ (ap (λ (s : NumberSet). contains s.members i) numbers_is
      ∙ contains-empty nat_cmp i) member);
  some = λ block member. absurd (both_ways _ (ap (λ (s : NumberSet). contains s.members block) marked_is
      ∙ contains-empty nat_cmp block) member);
}

-- other rooms
pub with_room : {numbers marked : NumberSet} → IsTiered numbers marked → (n m : ℕ) → n ≤ BITS * m
    → IsTiered (record numbers { room = n }) (record marked { room = m })
with_room inv n m le = record { wide = le; marks = inv.marks; some = inv.some }

-- what a removal says of the block, by what it wrote
module _ (numbers after : NumberSet) (i : ℕ)
    (is : after ≡ record numbers { members = remove numbers.members i }) where
  pub none_by : HasNoneOf after.members (i / BITS) → HasNoneOf (remove numbers.members i) (i / BITS)
  none_by = subst (λ (s : NumberSet). HasNoneOf s.members (i / BITS)) is

  pub kept_by : HasSomeOf after.members (i / BITS) ⊎ HasNoneOf numbers.members (i / BITS)
      → HasSomeOf (remove numbers.members i) (i / BITS) ⊎ HasNoneOf numbers.members (i / BITS)
  kept_by = subst (λ (s : NumberSet). HasSomeOf s.members (i / BITS) ⊎ HasNoneOf numbers.members (i / BITS)) is

-- ---- what a search returns, by what callers see

module _ {numbers marked v : NumberSet} (inv : IsTiered numbers marked) (is : numbers ≡ v) where
  pub none_found : HasNoneFrom marked.members 0 → HasNoneFrom v.members 0
  none_found none = subst (λ (s : NumberSet). HasNoneFrom s.members 0) is (none_at_all inv none)

  module _ {block : ℕ} (found : IsLeastFrom marked.members 0 block) where
    pub first_found : (o : Option ℕ) → IfSome o (IsLeastOf numbers.members block)
        → IfSome o (IsLeastFrom v.members 0)
    first_found None own = own
    first_found (Some i) own =
        subst (λ (s : NumberSet). IsLeastFrom s.members 0 i) is (least_at_all inv found own refl)

    pub first_some : (o : Option ℕ) → IfNone o (HasNoneOf numbers.members block)
        → IfNone o (HasNoneFrom v.members 0)
    first_some None none = absurd (not_none inv found none)
    first_some (Some i) none = none

  module _ (from : ℕ) (near : HasNoneBetween numbers.members from (BITS * (from / BITS + 1))) where
    pub none_after : HasNoneFrom marked.members (from / BITS + 1) → HasNoneFrom v.members from
    none_after none = subst (λ (s : NumberSet). HasNoneFrom s.members from) is (none_beyond inv from near none)

    module _ {block : ℕ} (found : IsLeastFrom marked.members (from / BITS + 1) block) where
      pub next_found : (o : Option ℕ) → IfSome o (IsLeastOf numbers.members block)
          → IfSome o (IsLeastFrom v.members from)
      next_found None own = own
      next_found (Some i) own =
          subst (λ (s : NumberSet). IsLeastFrom s.members from i) is (least_beyond inv found own from refl near)

      pub next_some : (o : Option ℕ) → IfNone o (HasNoneOf numbers.members block)
          → IfNone o (HasNoneFrom v.members from)
      next_some None none = absurd (not_none inv found none)
      next_some (Some i) none = none

-- room in both tiers, or in the upper alone
pub reserved : {A E : Type 0} (r : Result A E) (numbers marked new left : NumberSet) (blocks : ℕ)
    → MatchResult r (λ _. new ≡ record numbers { room = max numbers.room (BITS * blocks) }) (λ _. new ≡ numbers)
    → left ≡ record marked { room = max marked.room (BITS * (blocks / BITS + 1)) }
    → IsTiered numbers marked → IsTiered new left
reserved (Ok _) numbers marked new left blocks grown above inv =
    along grown above (with_room inv (max numbers.room (BITS * blocks))
    (max marked.room (BITS * (blocks / BITS + 1))) (omega (arith, inv.wide)))
reserved (Err _) numbers marked new left blocks same above inv =
    along same above (with_room inv numbers.room (max marked.room (BITS * (blocks / BITS + 1)))
    (omega (arith, inv.wide)))
