-- The slots of a table are copied into one that has none, from the first on.
use Rattle.hd_cwt.proofs.Basics.{HasKey, Id, IsSome, IsWeakTable, None, Option, Some, WeakTable, ap, arith, cases_eq, cases_lt, copied, empty, false≢true, get, get-empty, inl, inr, insert, insert_cases, is_some, len, len_new, nat_cmp, none-some, refl, room_of, slots_of, some_cases, sym, ℕ, ◌+◌, ◌<◌, ◌∙◌, ◌≡◌, ◌≤◌}
use Rattle.std.specs.Cmp.{nat_cmp_total}
use Rattle.std.specs.FinMap.{nat_cmp-IsAntisymmetric, same_map}
use Rattle.hd_model.proofs.{MapEntries.counts_keys, PropertyCounts.counts_le}

-- a table of so many blocks and buckets has the first slots of another
pub record IsCopied (upto blocks buckets : ℕ) (old now : WeakTable) : Type 0 where
  pub blocks_are : now.blocks ≡ blocks
  pub buckets_are : now.buckets ≡ buckets
  pub done : (s : ℕ) → s < upto → get now.held s ≡ get old.held s
  pub left : (s : ℕ) → upto ≤ s → get now.held s ≡ None

pub none_copied : (blocks buckets : ℕ) (old : WeakTable) {now : WeakTable}
    → now ≡ record { blocks = blocks; buckets = buckets; held = empty } → IsCopied 0 blocks buckets old now
none_copied blocks buckets old is = record {
  blocks_are = ap (λ (t : WeakTable). t.blocks) is;
  buckets_are = ap (λ (t : WeakTable). t.buckets) is;
  done = λ s below. absurd (omega (arith, below));
  left = λ s _. ap (λ (t : WeakTable). get t.held s) is ∙ get-empty nat_cmp s;
}

module _ {slot blocks buckets : ℕ} {old now : WeakTable} (is : IsCopied slot blocks buckets old now) where
  -- the next slot is copied
  pub copied_on : {next : WeakTable} → next ≡ copied now slot (get old.held slot)
      → IsCopied (slot + 1) blocks buckets old next
  copied_on {next} next_is = by (get old.held slot) refl next_is
    where
      by : (v : Option (Option Id)) → get old.held slot ≡ v → next ≡ copied now slot v
          → IsCopied (slot + 1) blocks buckets old next
      by None e same = record {
        blocks_are = ap (λ (t : WeakTable). t.blocks) same ∙ is.blocks_are;
        buckets_are = ap (λ (t : WeakTable). t.buckets) same ∙ is.buckets_are;
        done = λ s below. ap (λ (t : WeakTable). get t.held s) same ∙ elim (cases_eq s slot) [
          | inl here ↦ ap (get now.held) here ∙ is.left slot (omega arith) ∙ sym e
              ∙ ap (get old.held) (sym here)
          | inr apart ↦ is.done s (omega (arith, below, apart))
        ];
        left = λ s past. ap (λ (t : WeakTable). get t.held s) same ∙ is.left s (omega (arith, past));
      }
      by (Some v) e same = record {
        blocks_are = ap (λ (t : WeakTable). t.blocks) same ∙ is.blocks_are;
        buckets_are = ap (λ (t : WeakTable). t.buckets) same ∙ is.buckets_are;
        done = λ s below. ap (λ (t : WeakTable). get t.held s) same
            ∙ insert_cases now.held slot (λ q o. q < slot + 1 → o ≡ get old.held q) v s (λ _. sym e)
            (λ apart less. is.done s (omega (arith, less, apart))) below;
        left = λ s past. ap (λ (t : WeakTable). get t.held s) same
            ∙ insert_cases now.held slot (λ q o. slot + 1 ≤ q → o ≡ None) v s
            (λ more. absurd (omega (arith, more))) (λ apart more. is.left s (omega (arith, more))) past;
      }

  module _ (table : IsWeakTable old) where
    -- all are copied
    pub all_copied : slots_of old ≤ slot → now ≡ record old { blocks = blocks; buckets = buckets }
    all_copied all =
        let held = same_map nat_cmp_total nat_cmp-IsAntisymmetric now.held old.held
        (λ s. elim (cases_lt s slot) [
          | inl low ↦ is.done s low
          | inr past ↦ is.left s past ∙ sym (unheld s (get old.held s) refl past)
        ]) in
        λ i. record { blocks = is.blocks_are i; buckets = is.buckets_are i; held = held i }
      where
        unheld : (s : ℕ) (o : Option (Option Id)) → get old.held s ≡ o → slot ≤ s → get old.held s ≡ None
        unheld s None e past = e
        unheld s (Some v) e past = absurd (omega (arith, table.within s (ap is_some e), all, past))

    -- the next slot may be given what it has in the other table
    pub copy_new : (key : Id) → get old.held slot ≡ Some (Some key) → (other : ℕ) → HasKey now key other → ⊥
    copy_new key has other other_has = elim (cases_lt other slot) [
      | inl low ↦
          let same = table.apart key other slot (sym (is.done other low) ∙ other_has) has in
          omega (arith, low, same)
      | inr past ↦ none-some (Some key) (sym (is.left other past) ∙ other_has)
    ]

    pub copy_room : old.blocks ≤ blocks → IsSome (get old.held slot) → len now.held < room_of now
    copy_room more had =
        let longer = insert now.held slot None in
        let few : len longer ≤ len old.held =
        counts_le (λ s. IsSome (get longer s)) (λ s. IsSome (get old.held s)) (len longer) (len old.held)
        (some_cases now.held slot (λ s. IsSome (get old.held s)) None had still)
        (counts_keys longer (λ k. k) (λ k. k) (λ k. refl) (λ k. refl))
        (counts_keys old.held (λ k. k) (λ k. k) (λ k. refl) (λ k. refl)) in
        let longer_by = len_new now.held slot None (is.left slot (omega arith)) in
        omega (arith, few, longer_by, table.fits, more, is.blocks_are)
      where
        still : (s : ℕ) → IsSome (get now.held s) → IsSome (get old.held s)
        still s some = elim (cases_lt s slot) [
          | inl low ↦ sym (ap is_some (is.done s low)) ∙ some
          | inr past ↦ absurd (false≢true (sym (ap is_some (is.left s past)) ∙ some))
        ]
