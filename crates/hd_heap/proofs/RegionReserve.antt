-- Lemmas on the list of free regions as it grows.
use Rattle.hd_heap.proofs.Basics.{Heap, [], ap, arith, length, length-append, max, refl, sym, take, take-append-le, take-length, ℕ, ◌++◌, ◌+◌, ◌<◌, ◌∙◌, ◌∷◌, ◌≡◌, ◌≤◌}

-- only the free regions have changed: they are the old ones and more, at most `count`, if those were fewer
pub record IsLonger (old new : Heap) (count : ℕ) : Type 0 where
  pub same : new ≡ record old { free = new.free }
  pub kept : take (length old.free) new.free ≡ old.free
  pub more : length old.free ≤ length new.free
  pub most : length new.free ≤ max count (length old.free)

pub same_length : (h : Heap) (count : ℕ) → IsLonger h h count
same_length h count = record {
  same = refl;
  kept = take-length h.free;
  more = omega arith;
  most = omega arith;
}

pub one_longer : (old now new : Heap) (count n : ℕ) → IsLonger old now count → length now.free < count
    → new ≡ record now { free = now.free ++ n ∷ [] } → IsLonger old new count
one_longer old now new count n is below added =
    let numbers : new.free ≡ now.free ++ n ∷ [] = ap (λ (h : Heap). h.free) added in
    let lengths : length new.free ≡ length now.free + 1 = ap length numbers
    ∙ length-append now.free (n ∷ []) in
    let more = is.more in
    let most = is.most in
    record {
      same = added ∙ ap (λ (h : Heap). record h { free = now.free ++ n ∷ [] }) is.same
          ∙ ap (λ ns. record old { free = ns }) (sym numbers);
      kept = ap (take (length old.free)) numbers ∙ take-append-le (length old.free) now.free (n ∷ []) is.more ∙ is.kept;
      more = omega arith;
      most = omega arith;
    }
