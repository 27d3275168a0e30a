-- What is summed up by generation, over all generations.
use Rattle.std.proofs.Common.{All, List, [], ap, arith, cond, refl, suc, sum_by, sym, zero, ℕ, ◌+◌, ◌==◌, ◌∙◌, ◌∷◌, ◌≡◌, ◌≤◌}
use Rattle.std.specs.Prelude.{Some}
use Rattle.std.proofs.lemmas.List.Sums.{sum_by-cons}
use Rattle.hd_seen.specs.declared.SeenRegion.{SeenRegion}
use Rattle.hd_show.specs.Heaps.{RegionCounts, is_in}
use Rattle.hd_show.specs.Laws.{GenerationsAddUp, GenerationsAlwaysAddUp, IsYoung, of_generation, over_generations}
use Rattle.hd_show.proofs.ObjectSums.{all_ones}
use Rattle.hd_show.proofs.FilteredSums.{sum_filtered}

one_generation : (g n : ℕ) → g ≤ 2 → cond (g == 0) n 0 + cond (g == 1) n 0 + cond (g == 2) n 0 ≡ n
one_generation zero n low = omega arith
one_generation (suc zero) n low = omega arith
one_generation (suc (suc zero)) n low = omega arith
one_generation (suc (suc (suc g))) n low = absurd (omega (arith, low))

module _ (w : SeenRegion → ℕ) where
  abbrev at : ℕ → List SeenRegion → ℕ
  at g regions = sum_by (λ (r : SeenRegion). cond (r.generation == g) (w r) 0) regions

  more : (g : ℕ) (r : SeenRegion) (regions : List SeenRegion)
      → at g (r ∷ regions) ≡ cond (r.generation == g) (w r) 0 + at g regions
  more g r regions = sum_by-cons (λ (x : SeenRegion). cond (x.generation == g) (w x) 0) r regions

  all_at : (regions : List SeenRegion) → All IsYoung regions
      → at 0 regions + at 1 regions + at 2 regions ≡ sum_by w regions
  all_at [] h = refl
  all_at (r ∷ regions) h =
      omega (
        arith,
        more 0 r regions,
        more 1 r regions,
        more 2 r regions,
        sum_by-cons w r regions,
        one_generation r.generation (w r) (h 0 r (omega arith)),
        all_at regions (λ k d low. h (suc k) d (omega (arith, low))),
      )

  pub in_all : (regions : List SeenRegion) → All IsYoung regions
      → over_generations (λ g. sum_by w (of_generation regions g)) ≡ sum_by w regions
  in_all regions h =
      omega (
        arith,
        sum_filtered w (is_in (Some 0)) regions,
        sum_filtered w (is_in (Some 1)) regions,
        sum_filtered w (is_in (Some 2)) regions,
        all_at regions h,
      )

generation_sums : (c : RegionCounts) (regions : List SeenRegion) → All IsYoung regions
    → GenerationsAddUp c regions
generation_sums c regions young = record {
  objects = in_all (λ (r : SeenRegion). c.objects r.number) regions young;
  cells = in_all (λ (r : SeenRegion). c.cells r.number) regions young;
  number =
      ap over_generations (λ i g. sym (all_ones (of_generation regions g)) i)
      ∙ in_all (λ _. 1) regions young ∙ all_ones regions;
  pinned = in_all (λ (r : SeenRegion). c.pinned r.number) regions young;
  cards = in_all (λ (r : SeenRegion). r.cards) regions young;
}

pub generations_add_up : GenerationsAlwaysAddUp
generations_add_up c regions young = generation_sums c regions young
