-- A row of registers that is filled from the first one on.
use Rattle.std.proofs.Common.{List, None, Option, ap, arith, get_or, inl, inr, length, set, sym, ℕ, ◌+◌, ◌<◌, ◌∙◌, ◌≡◌, ◌≤◌}
use Rattle.std.proofs.lemmas.Bool.{cases_eq}
use Rattle.std.proofs.lemmas.List.{ext_get_or, get_or-set_other, get_or-set_same}

module _ {X : Type 0} (row want : List (Option X)) where
  -- one register more
  pub index-more : (i : ℕ) (v : Option X) → i < length row
      → ((k : ℕ) → k < i → get_or row k None ≡ get_or want k None) → v ≡ get_or want i None
      → (k : ℕ) → k < i + 1 → get_or (set row i v) k None ≡ get_or want k None
  index-more i v within before here k low =
      elim (cases_eq k i) [
        | inl same ↦ ap (λ j. get_or (set row i v) j None) same ∙ get_or-set_same row i v None within ∙ here
            ∙ sym (ap (λ j. get_or want j None) same)
        | inr apart ↦ get_or-set_other row i k v None apart ∙ before k (omega arith)
      ]

  -- all registers
  pub index-all : (n i : ℕ) → length row ≡ n → length want ≡ n → n ≤ i
      → ((k : ℕ) → k < i → get_or row k None ≡ get_or want k None) → row ≡ want
  index-all n i long there all same =
      ext_get_or None row want (long ∙ sym there) (λ k low. same k (omega (arith, low, long, all)))
