-- The walk that gives condemned regions their indices.
use Rattle.hd_mark.proofs.Basics.{Addr, Contains, Heap, IsTable, List, None, Some, and_from, and_parts, ap, arith, both_ways, cases_Bool, cases_eq, cases_lt, get_or, get_or-set_other, get_or-set_same, get_or_default, has_object, index_of, inl, inr, is_condemned, is_some, le-leb, leb-true, length, nil_from_length, not_in_none, index_at, refl, region_generation, set, subst, sym, true, ℕ, ⊎_elim, ◌+◌, ◌<◌, ◌∙◌, ◌≡◌, ◌≢◌, ◌≤◌, ◌⊎◌}
use Rattle.std.proofs.Common.{replicate, suc, zero}
use Rattle.hd_heap.proofs.NextObjects.{generation_is}
use Rattle.hd_heap.specs.{Calls.HasCondemned, Calls.IsNextRegion, Sound.IsSound}
use Rattle.hd_model.specs.{Counting.Counts, Heap.region_of, declared.limits.TheConstants.REGIONS}
use Rattle.hd_model.proofs.MapEntries.{some_value}

-- the condemned regions up to a number have their indices, from 1 on
pub record IsPlaced (h : Heap) (n after : ℕ) (indexes : List ℕ) (regions : ℕ) : Type 0 where
  pub table : IsTable indexes regions
  pub covers : (a : Addr) → is_condemned h n a ≡ true → region_of a ≤ after
      → is_some (index_at indexes (region_of a)) ≡ true
  pub young : (r p : ℕ) → index_at indexes r ≡ Some p → region_generation h r ≤ n
  pub some : 0 < regions
  pub few : regions ≤ after + 1

-- an index that is read is low
pub index_low : (indexes : List ℕ) (regions r w : ℕ) → IsTable indexes regions → r < length indexes
    → w ≡ get_or indexes r w → w < REGIONS
index_low indexes regions r zero table within is = omega arith
index_low indexes regions r (suc w) table within is =
    let low = table.within r (suc w) (ap index_of (get_or_default indexes r 0 (suc w) within ∙ sym is)) in
    omega (arith, low, table.few)

-- ---- where no region has one

module _ (indexes : List ℕ) (end : ℕ) (is : indexes ≡ replicate end 0) where
  none_at : (r : ℕ) → index_at indexes r ≡ None
  none_at r = ap (λ ps. index_of (get_or ps r 0)) is ∙ ap index_of (by end r)
    where
      by : (end r : ℕ) → get_or {A = ℕ} (replicate end 0) r 0 ≡ zero
      by zero r = refl
      by (suc end) zero = refl
      by (suc end) (suc r) = by end r

  never : (r p : ℕ) → index_at indexes r ≡ Some p → ⊥
  never r p here = let no : None ≡ Some p = sym (none_at r) ∙ here in absurd (cc)

  pub bare_table : (regions : ℕ) → regions ≤ REGIONS → IsTable indexes regions
  bare_table regions few = record {
    few = few;
    within = λ r p here. absurd (never r p here);
    apart = λ r s p here. absurd (never r p here);
  }

  -- nothing is condemned
  pub bare_covers : (h : Heap) (n count : ℕ) → Counts (HasCondemned h n) count → count ≡ 0
      → (a : Addr) → has_object h a ≡ true → is_some (index_at indexes (region_of a)) ≡ is_condemned h n a
  bare_covers h n count counts nothing a has =
      ap is_some (none_at (region_of a))
      ∙ sym (⊎_elim (λ young. absurd (not_in_none (region_of a) (subst (λ rs. Contains rs (region_of a))
      (nil_from_length counts.members (counts.number ∙ nothing))
      (counts.all (region_of a) (a, (young, refl)))))) (λ no. no) (cases_Bool (is_condemned h n a)))

  -- no region was come to
  pub bare_placed : (h : Heap) (n : ℕ) → IsSound h → IsPlaced h n 0 indexes 1
  bare_placed h n sound = record {
    table = bare_table 1 (omega arith);
    covers = λ a condemned le.
        let number = sound.numbers (region_of a) (sound.held a (and_parts _ _ condemned).0) in
        absurd (omega (arith, number.0, le));
    young = λ r p here. absurd (never r p here);
    some = omega arith;
    few = omega arith;
  }

-- ---- the next region

module _ {h : Heap} {n after r regions : ℕ} (next : IsNextRegion h n after r) (indexes : List ℕ)
    (placed : IsPlaced h n after indexes regions) (within : r < length indexes) where
  abbrev more : List ℕ
  more = set indexes r regions

  here : index_at more r ≡ Some regions
  here = ap index_of (get_or-set_same indexes r regions 0 within) ∙ by regions placed.some
    where
      by : (p : ℕ) → 0 < p → index_of p ≡ Some p
      by zero less = absurd (omega (arith, less))
      by (suc p) less = refl

  elsewhere : (s : ℕ) → s ≢ r → index_at more s ≡ index_at indexes s
  elsewhere s other = ap index_of (get_or-set_other indexes r s regions 0 other)

  -- what has an index now is the region, or had one
  index_how : (s p : ℕ) → index_at more s ≡ Some p
      → ((s ≡ r) × (p ≡ regions)) ⊎ ((index_at indexes s ≡ Some p) × (p < regions))
  index_how s p is = elim (cases_eq s r) [
    | inl same ↦ inl (same, (let e : Some p ≡ Some regions = sym is ∙ ap (index_at more) same ∙ here in cc e))
    | inr other ↦ let old = sym (elsewhere s other) ∙ is in inr (old, placed.table.within s p old)
  ]

  -- the generation of a region with a condemned object
  next_young : region_generation h r ≤ n
  next_young =
      let (there, young) = and_parts _ _ next.member in
      let same = generation_is h next.at there in
      let low = leb-true _ _ young in
      subst (λ (k : ℕ). region_generation h k ≤ n) next.region (omega (arith, same, low))

  pub placed_next : length indexes ≤ REGIONS → IsPlaced h n r more (regions + 1)
  placed_next short = record {
    table = record {
      few = (let few = placed.few in let beyond = next.beyond in omega arith);
      within = λ s p is.
          ⊎_elim (λ new. omega (arith, new.1)) (λ old. omega (arith, old.1)) (index_how s p is);
      apart = λ s t p is also. ⊎_elim
          (λ new. ⊎_elim (λ same. new.0 ∙ sym same.0) (λ old. absurd (omega (arith, new.1, old.1)))
          (index_how t p also))
          (λ old. ⊎_elim (λ new. absurd (omega (arith, new.1, old.1)))
          (λ both. placed.table.apart s t p old.0 both.0) (index_how t p also)) (index_how s p is);
    };
    covers = λ a condemned le. elim (cases_eq (region_of a) r) [
      | inl same ↦ ap (λ k. is_some (index_at more k)) same ∙ ap is_some here
      | inr other ↦ ap is_some (elsewhere (region_of a) other) ∙ ⊎_elim
          (λ later. absurd (let high = next.least a condemned later in omega (arith, high, le, other)))
          (placed.covers a condemned) (cases_lt after (region_of a))
    ];
    young = λ s p is. ⊎_elim
        (λ same. subst (λ (k : ℕ). region_generation h k ≤ n) (sym same.0) next_young)
        (λ old. placed.young s p old.0) (index_how s p is);
    some = omega arith;
    few = (let few = placed.few in let beyond = next.beyond in omega arith);
  }

-- after the last one the table covers the heap
pub placed_covers : {h : Heap} {n after regions : ℕ} {indexes : List ℕ} → IsPlaced h n after indexes regions
    → ((a : Addr) → is_condemned h n a ≡ true → region_of a ≤ after) → (a : Addr) → has_object h a ≡ true
    → is_some (index_at indexes (region_of a)) ≡ is_condemned h n a
placed_covers {h} {n} {after} {regions} {indexes} placed last a has =
    ⊎_elim (λ young. placed.covers a young (last a young) ∙ sym young)
    (λ older. ⊎_elim
    (λ some. absurd (both_ways _ older (and_from _ _ has (le-leb _ _
    (let (p, here) = some_value (index_at indexes (region_of a)) some in
    omega (arith, placed.young (region_of a) p here, generation_is h a has))))))
    (λ none. none ∙ sym older) (cases_Bool (is_some (index_at indexes (region_of a)))))
    (cases_Bool (is_condemned h n a))
