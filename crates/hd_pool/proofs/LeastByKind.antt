-- The least number of each kind, as the calls of `Ready` keep it.
use Rattle.hd_pool.proofs.Basics.{AreLeast, FinSet, HasNoneBetween, IfNone, IfSome, IsLeastBetween, IsLeastOrEnd, KindBlocks, HOST_BLOCKS, KINDS, List, None, Option, Some, ap, arith, cases_eq, cases_lt, cases_order, contains, contains-empty, empty, false, get_or, get_or-replicate, get_or-set_other, get_or-set_same, index_of, inl, inr, insert, length, length-replicate, length-set, min, nat_cmp, refl, remove, replicate, row_fits, set, subst, sym, true, ℕ, ◌*◌, ◌+◌, ◌<◌, ◌∙◌, ◌≡◌, ◌≢◌, ◌≤◌}
use Rattle.hd_model.specs.{declared.data.Kind.Kind, Kinds.kind_number}
use Rattle.hd_tiers.proofs.SetMembers.{insert_same, insert_other, insert_keeps, remove_same, remove_other}

-- what a search comes to
pub found_or_end : {s : FinSet nat_cmp} {from to n : ℕ} → IsLeastBetween s from to n → IsLeastOrEnd s from to n
found_or_end found = record {
  low = found.low;
  least = λ k from_on high below. found.least k from_on below;
  member = λ high. found.member;
}

pub none_or_end : (s : FinSet nat_cmp) (from to : ℕ) → from ≤ to → HasNoneBetween s from to → IsLeastOrEnd s from to to
none_or_end s from to le none = record {
  low = le;
  least = λ k from_on high below. none k from_on high;
  member = λ high. absurd (omega arith);
}

module _ {s : FinSet nat_cmp} {from to n : ℕ} (is : IsLeastOrEnd s from to n) where
  least_found : n < to → IsLeastBetween s from to n
  least_found high = record {
    low = is.low;
    high = high;
    member = is.member high;
    least = λ k from_on below. is.least k from_on (omega arith) below;
  }

  least_none : to ≤ n → HasNoneBetween s from to
  least_none past k from_on high = is.least k from_on high (omega arith)

  pub least_some : (o : Option ℕ) → IfSome o (λ k. (k ≡ n) × (n < to)) → IfSome o (IsLeastBetween s from to)
  least_some None some = some
  least_some (Some k) some = subst (IsLeastBetween s from to) (sym some.0) (least_found some.1)

  pub least_nothing : (o : Option ℕ) → IfNone o (to ≤ n) → IfNone o (HasNoneBetween s from to)
  least_nothing None none = least_none none
  least_nothing (Some k) none = none

-- the number of a block of a kind, by the number of the kind and as callers see it
pub index_is : (kind : Kind) {group stride seen : ℕ} (block : ℕ) → group ≡ kind_number kind → stride ≡ seen
    → index_of seen kind block ≡ group * stride + block
index_is kind block number is i = sym number i * sym is i + block

-- the start
pub opened_least : (stride : ℕ) (s : FinSet nat_cmp) (least : List ℕ) → stride ≤ HOST_BLOCKS + 1 → s ≡ empty
    → least ≡ replicate KINDS (KINDS * stride) → AreLeast stride s least
opened_least stride s least limit none is = record {
  limit = limit;
  many = ap length is ∙ length-replicate {A = ℕ} KINDS (KINDS * stride);
  each = λ kind small.
      let past : get_or least kind 0 ≡ KINDS * stride =
      ap (λ xs. get_or xs kind 0) is ∙ get_or-replicate KINDS kind (KINDS * stride) 0 small in
      let fits = row_fits kind stride KINDS stride small (omega arith) in
      record {
        low = omega (arith, past, fits);
        least = λ k from_on high below. ap (λ m. contains m k) none ∙ contains-empty nat_cmp k;
        member = λ high. absurd (omega (arith, past, fits));
      };
}

module _ {stride : ℕ} {s : FinSet nat_cmp} {least : List ℕ} (inv : AreLeast stride s least) (kind i : ℕ)
    (few : kind < KINDS) (low : kind * stride ≤ i) (high : i < kind * stride + stride) where
  within : kind < length least
  within = omega (arith, inv.many)

  -- the number is none of another kind
  elsewhere : (other k : ℕ) → other ≢ kind → other * stride ≤ k → k < other * stride + stride → k ≢ i
  elsewhere other k apart from_on below e =
      elim (cases_order other kind) [
        | inl same ↦ apart same
        | inr (inl before) ↦ omega (arith, e, row_fits other stride kind stride before (omega arith))
        | inr (inr after) ↦ omega (arith, e, row_fits kind stride other stride after (omega arith))
      ]

  -- a number that is no member is none after a removal
  none_left : (k : ℕ) → contains s k ≡ false → contains (remove s i) k ≡ false
  none_left k none =
      elim (cases_eq k i) [
        | inl e ↦ remove_same s i k e
        | inr apart ↦ remove_other s i k apart ∙ none
      ]

  -- ---- a number is added

  abbrev first : ℕ
  first = get_or least kind 0

  inserted_here : IsLeastOrEnd (insert s i) (kind * stride) (kind * stride + stride) (min first i)
  inserted_here = let old = inv.each kind few in record {
    low = omega (arith, old.low);
    least = λ k from_on below lower. insert_other s i k (λ e. omega (arith, e))
        ∙ old.least k from_on below (omega arith);
    member = λ below. elim (cases_lt first i) [
      | inl less ↦
          let is : first ≡ min first i = omega arith in
          subst (λ n. contains (insert s i) n ≡ true) is (insert_keeps s i first (old.member (omega arith)))
      | inr le ↦
          let is : i ≡ min first i = omega arith in
          subst (λ n. contains (insert s i) n ≡ true) is (insert_same s i i refl)
    ];
  }

  inserted_there : (other : ℕ) → other < KINDS → other ≢ kind
      → IsLeastOrEnd (insert s i) (other * stride) (other * stride + stride) (get_or least other 0)
  inserted_there other small apart = let old = inv.each other small in record {
    low = old.low;
    least = λ k from_on below lower. insert_other s i k (elsewhere other k apart from_on below)
        ∙ old.least k from_on below lower;
    member = λ below. insert_keeps s i (get_or least other 0) (old.member below);
  }

  -- what is written for one kind, with the rest as it was
  written : (after : FinSet nat_cmp) (n : ℕ) → IsLeastOrEnd after (kind * stride) (kind * stride + stride) n
      → ((other : ℕ) → other < KINDS → other ≢ kind
      → IsLeastOrEnd after (other * stride) (other * stride + stride) (get_or least other 0))
      → AreLeast stride after (set least kind n)
  written after n here there = record {
    limit = inv.limit;
    many = length-set least kind n ∙ inv.many;
    each = λ other small. elim (cases_eq other kind) [
      | inl e ↦
          let value : n ≡ get_or (set least kind n) other 0 =
          sym (ap (λ k. get_or (set least kind n) k 0) e ∙ get_or-set_same least kind n 0 within) in
          subst (λ k. IsLeastOrEnd after (k * stride) (k * stride + stride) (get_or (set least kind n) other 0))
          (sym e) (subst (λ v. IsLeastOrEnd after (kind * stride) (kind * stride + stride) v) value here)
      | inr apart ↦
          subst (λ v. IsLeastOrEnd after (other * stride) (other * stride + stride) v)
          (sym (get_or-set_other least kind other n 0 apart)) (there other small apart)
    ];
  }

  pub inserted_least : (n : ℕ) → n ≡ min first i → AreLeast stride (insert s i) (set least kind n)
  inserted_least n is =
      written (insert s i) n
      (subst (λ v. IsLeastOrEnd (insert s i) (kind * stride) (kind * stride + stride) v) (sym is) inserted_here)
      inserted_there

  -- ---- a number is removed

  removed_there : (other : ℕ) → other < KINDS → other ≢ kind
      → IsLeastOrEnd (remove s i) (other * stride) (other * stride + stride) (get_or least other 0)
  removed_there other small apart = let old = inv.each other small in record {
    low = old.low;
    least = λ k from_on below lower. none_left k (old.least k from_on below lower);
    member = λ below.
        remove_other s i (get_or least other 0) (elsewhere other (get_or least other 0) apart old.low below)
        ∙ old.member below;
  }

  -- the least one stays
  removed_more : first ≢ i → IsLeastOrEnd (remove s i) (kind * stride) (kind * stride + stride) first
  removed_more apart = let old = inv.each kind few in record {
    low = old.low;
    least = λ k from_on below lower. none_left k (old.least k from_on below lower);
    member = λ below. remove_other s i first apart ∙ old.member below;
  }

  -- the least one is removed
  removed_first : (n : ℕ) → first ≡ i → IsLeastOrEnd (remove s i) (i + 1) (kind * stride + stride) n
      → IsLeastOrEnd (remove s i) (kind * stride) (kind * stride + stride) n
  removed_first n e after = let old = inv.each kind few in record {
    low = omega (arith, after.low);
    least = λ k from_on below lower. elim (cases_order k i) [
      | inl same ↦ remove_same s i k same
      | inr (inl less) ↦ none_left k (old.least k from_on below (omega (arith, e)))
      | inr (inr more) ↦ after.least k (omega arith) below lower
    ];
    member = after.member;
  }

  pub removed_least : (n : ℕ) → (first ≢ i → n ≡ first)
      → (first ≡ i → IsLeastOrEnd (remove s i) (i + 1) (kind * stride + stride) n)
      → AreLeast stride (remove s i) (set least kind n)
  removed_least n kept next =
      written (remove s i) n
      (elim (cases_eq first i) [
        | inl e ↦ removed_first n e (next e)
        | inr apart ↦ subst (λ v. IsLeastOrEnd (remove s i) (kind * stride) (kind * stride + stride) v)
            (sym (kept apart)) (removed_more apart)
      ])
      removed_there

-- the least number of a kind, as callers see the set
module _ {r : KindBlocks} {stride room : ℕ} {s : FinSet nat_cmp} {least : List ℕ} (inv : AreLeast stride s least)
    (view : ◌≡◌ {A = KindBlocks} (record { stride = stride; room = room; members = s }) r) (kind : Kind)
    {first : ℕ} (first_is : first ≡ index_of r.stride kind 0) where
  pub seen_least : {group at : ℕ} → group ≡ kind_number kind → group < KINDS → at ≡ get_or least group 0
      → IsLeastOrEnd r.members first (first + r.stride) at
  seen_least {group} {at} number few read =
      let begins : group * stride ≡ first =
      omega (arith, first_is, index_is kind 0 number (ap (λ (b : KindBlocks). b.stride) view)) in
      subst (λ (b : KindBlocks). IsLeastOrEnd b.members first (first + b.stride) at) view
      (subst (λ f. IsLeastOrEnd s f (f + stride) at) begins
      (subst (λ n. IsLeastOrEnd s (group * stride) (group * stride + stride) n) (sym read) (inv.each group few)))

  pub seen_end : {end : ℕ} → end ≡ index_of stride kind stride → end ≡ first + r.stride
  seen_end is =
      let same : index_of stride kind stride ≡ index_of r.stride kind r.stride =
      ap (λ (b : KindBlocks). index_of b.stride kind b.stride) view in
      omega (arith, is, same, first_is)
