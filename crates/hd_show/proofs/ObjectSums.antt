-- What is summed up by region, over all regions.
use Rattle.std.proofs.Common.{All, Bool, List, [], ap, arith, cond, count_by, false, filter, length, refl, suc, sum_by, sym, true, ℕ, ◌*◌, ◌+◌, ◌∙◌, ◌∷◌, ◌≡◌}
use Rattle.std.proofs.lemmas.List.Sums.{sum_by-cons}
use Rattle.hd_seen.specs.Seen.{ObjectSeen, Picture}
use Rattle.hd_seen.specs.declared.SeenRegion.{SeenRegion}
use Rattle.hd_show.specs.Heaps.{cells_of, in_region, is_pinned_in}
use Rattle.hd_show.specs.Laws.{EachObjectIsCountedOnce, IsInOne, ObjectsAreCountedOnce}
use Rattle.hd_show.specs.Pins.{is_pinned_by}
use Rattle.hd_show.proofs.FilteredSums.{both, same_sums, sum_filtered}

module _ {X Y : Type 0} (meets : Y → X → Bool) (w : X → ℕ) where
  -- what the things that meet one have together
  abbrev met : List X → Y → ℕ
  met xs y = sum_by (λ x. cond (meets y x) (w x) 0) xs

  weighed : (x : X) (ys : List Y)
      → sum_by (λ y. cond (meets y x) (w x) 0) ys ≡ count_by (λ y. meets y x) ys * w x
  weighed x [] = omega arith
  weighed x (y ∷ ys) =
      sum_by-cons (λ z. cond (meets z x) (w x) 0) y ys ∙ ap (λ n. cond (meets y x) (w x) 0 + n) (weighed x ys)
      ∙ step (meets y x) ∙ ap (λ n. n * w x) (sym (sum_by-cons (λ z. cond (meets z x) 1 0) y ys))
    where
      step : (t : Bool) → cond t (w x) 0 + count_by (λ z. meets z x) ys * w x
          ≡ (cond t 1 0 + count_by (λ z. meets z x) ys) * w x
      step true = grind arith
      step false = grind arith

  none : (ys : List Y) → sum_by (λ y. met [] y) ys ≡ 0
  none [] = refl
  none (y ∷ ys) = omega (arith, sum_by-cons (λ z. met [] z) y ys, none ys)

  one_more : (x : X) (xs : List X) (ys : List Y)
      → sum_by (λ y. met (x ∷ xs) y) ys
      ≡ sum_by (λ y. cond (meets y x) (w x) 0) ys + sum_by (λ y. met xs y) ys
  one_more x xs [] = refl
  one_more x xs (y ∷ ys) =
      omega (
        arith,
        sum_by-cons (λ z. met (x ∷ xs) z) y ys,
        sum_by-cons (λ z. cond (meets z x) (w x) 0) y ys,
        sum_by-cons (λ z. met xs z) y ys,
        sum_by-cons (λ z. cond (meets y z) (w z) 0) x xs,
        one_more x xs ys,
      )

  -- where each meets exactly one, they have all together
  pub each_once : (ys : List Y) (xs : List X) → All (λ x. count_by (λ y. meets y x) ys ≡ 1) xs
      → sum_by (λ y. met xs y) ys ≡ sum_by w xs
  each_once ys [] h = none ys
  each_once ys (x ∷ xs) h =
      one_more x xs ys ∙ ap (λ n. n + sum_by (λ y. met xs y) ys) (weighed x ys
      ∙ ap (λ n. n * w x) (h 0 x (omega arith)) ∙ alone)
      ∙ ap (λ n. w x + n) (each_once ys xs (λ k d low. h (suc k) d (omega (arith, low))))
      ∙ sym (sum_by-cons w x xs)
    where
      alone : 1 * w x ≡ w x
      alone = omega arith

pub all_ones : {X : Type 0} (xs : List X) → sum_by (λ _. 1) xs ≡ length xs
all_ones [] = refl
all_ones (x ∷ xs) = omega (arith, sum_by-cons (λ _. 1) x xs, all_ones xs)

module _ (p : Picture) (one : All (IsInOne p.regions) p.objects) where
  abbrev meets : SeenRegion → ObjectSeen → Bool
  meets r o = in_region r.number o

  abbrev pinned : ObjectSeen → ℕ
  pinned o = cond (is_pinned_by p.handles o.id.0) 1 0

  cells_met : (r : SeenRegion) → sum_by cells_of (filter (in_region r.number) p.objects)
      ≡ sum_by (λ o. cond (meets r o) (cells_of o) 0) p.objects
  cells_met r = sum_filtered cells_of (in_region r.number) p.objects

  pinned_met : (r : SeenRegion) → count_by (is_pinned_in p r.number) p.objects
      ≡ sum_by (λ o. cond (meets r o) (pinned o) 0) p.objects
  pinned_met r =
      same_sums (λ o. cond (is_pinned_in p r.number o) 1 0) (λ o. cond (meets r o) (pinned o) 0)
      (λ o. sym (both (meets r o) (is_pinned_by p.handles o.id.0))) p.objects

  pub counted_once : ObjectsAreCountedOnce p
  counted_once = record {
    objects = each_once meets (λ _. 1) p.regions p.objects one ∙ all_ones p.objects;
    cells =
        ap (λ f. sum_by f p.regions) (λ i r. cells_met r i)
        ∙ each_once meets cells_of p.regions p.objects one;
    pinned =
        ap (λ f. sum_by f p.regions) (λ i r. pinned_met r i)
        ∙ each_once meets pinned p.regions p.objects one;
  }

pub objects_are_counted_once : EachObjectIsCountedOnce
objects_are_counted_once p one = counted_once p one
