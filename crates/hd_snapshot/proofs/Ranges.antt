-- The entries of a map as they are read, one number after the other.
use Rattle.std.proofs.Common.{None, Option, Some, [], ap, arith, map, option_map, refl, sym, ℕ, ◌++◌, ◌+◌, ◌<◌, ◌∙◌, ◌∷◌, ◌≡◌}
use Rattle.std.proofs.lemmas.List.{map-append}
use Rattle.std.proofs.lemmas.List.Elements.{filter_map-append}
use Rattle.std.specs.{FinMap.FinMap, FinMap.entries, FinMap.get, Ordering.nat_cmp}
use Rattle.std.specs.List.{filter_map}
use Rattle.std.specs.Option.{option_and_then, option_to_list}
use Rattle.hd_seg.specs.Mapped.{entries_of, with_entry}
use Rattle.hd_scan.proofs.EntryRanges.{entries-are, entries-join}

module _ {X Y : Type 0} (f : ℕ → Option X) where
  -- none at first
  pub none_read : (g : ℕ × X → Y) (first : ℕ) → [] ≡ map g (entries_of first 0 f)
  unfolding entries_of
  none_read g first = refl

  pub none_kept : (g : ℕ × X → Option Y) (first : ℕ) → [] ≡ filter_map g (entries_of first 0 f)
  unfolding entries_of
  none_kept g first = refl

  -- then one number more
  read-with : (g : ℕ × X → Y) (k : ℕ) (o : Option X)
      → map g (with_entry k o []) ≡ option_to_list (option_map (λ x. g (k, x)) o)
  read-with g k None = refl
  read-with g k (Some x) = refl

  read-one : (g : ℕ × X → Y) (k : ℕ)
      → map g (entries_of k 1 f) ≡ option_to_list (option_map (λ x. g (k, x)) (f k))
  unfolding entries_of
  read-one g k = read-with g k (f k)

  pub read-more : (g : ℕ × X → Y) (first n k : ℕ) → first + n ≡ k
      → map g (entries_of first (n + 1) f)
      ≡ map g (entries_of first n f) ++ option_to_list (option_map (λ x. g (k, x)) (f k))
  read-more g first n k at =
      ap (map g) (entries-join f first n 1) ∙ map-append g (entries_of first n f) (entries_of (first + n) 1 f)
      ∙ ap (λ j. map g (entries_of first n f) ++ map g (entries_of j 1 f)) at
      ∙ ap (λ l. map g (entries_of first n f) ++ l) (read-one g k)

  kept-with : (g : ℕ × X → Option Y) (k : ℕ) (o : Option X)
      → filter_map g (with_entry k o []) ≡ option_to_list (option_and_then (λ x. g (k, x)) o)
  kept-with g k None = refl
  kept-with g k (Some x) = by (g (k, x)) refl
    where
      by : (p : Option Y) → g (k, x) ≡ p → filter_map g ((k, x) ∷ []) ≡ option_to_list (g (k, x))
      by None is = rw is refl
      by (Some y) is = rw is refl

  kept-one : (g : ℕ × X → Option Y) (k : ℕ)
      → filter_map g (entries_of k 1 f) ≡ option_to_list (option_and_then (λ x. g (k, x)) (f k))
  unfolding entries_of
  kept-one g k = kept-with g k (f k)

  pub kept-more : (g : ℕ × X → Option Y) (first n k : ℕ) → first + n ≡ k
      → filter_map g (entries_of first (n + 1) f)
      ≡ filter_map g (entries_of first n f) ++ option_to_list (option_and_then (λ x. g (k, x)) (f k))
  kept-more g first n k at =
      ap (filter_map g) (entries-join f first n 1)
      ∙ filter_map-append g (entries_of first n f) (entries_of (first + n) 1 f)
      ∙ ap (λ j. filter_map g (entries_of first n f) ++ filter_map g (entries_of j 1 f)) at
      ∙ ap (λ l. filter_map g (entries_of first n f) ++ l) (kept-one g k)

-- and at last all that a map has
module _ {X : Type 0} (m : FinMap nat_cmp X) where
  pub all_read : (n : ℕ) → ((q : ℕ) (x : X) → get m q ≡ Some x → q < n) → entries_of 0 n (get m) ≡ entries m
  all_read n below =
      sym (entries-are m 0 n (λ q x is. let low = below q x is in (omega arith, omega (arith, low))))
