-- Runs of moves, and what copies of their objects leave of a region.
use Rattle.hd_heap.proofs.Basics.{Addr, AreLaidOut, ArePut, Contents, IsLaidOut, IsRun, List, Move, REGION, and_parts, ap, arith, cases_lt, cells_run, eqb-true, goes_with, inl, inr, length, length-map, ltb-true, move_at, object_of, put_run, region_forwarded, region_of, region_with_put, stored_forwarding, subst, suc, true, zero, ℕ, ◌+◌, ◌-◌, ◌/◌, ◌<◌, ◌∙◌, ◌≡◌, ◌≤◌}

module _ (ms : List Move) (first : ℕ) where
  pub run_one : first < length ms → IsRun ms first (first + 1)
  run_one within = record {
    some = omega arith;
    within = omega arith;
    with_first = λ k after before. absurd (omega arith);
  }

  -- a move that goes with the first
  pub goes_within : (k : ℕ) → goes_with ms k (move_at ms first) ≡ true → k < length ms
  goes_within k goes =
      ltb-true k (length ms) (and_parts _ _ (and_parts _ _ (and_parts _ _ goes).0).0).0

  pub run_more : (k : ℕ) → IsRun ms first k → goes_with ms k (move_at ms first) ≡ true → IsRun ms first (k + 1)
  run_more k run goes =
      let lt = goes_within k goes in
      let some = run.some in
      record {
        some = omega arith;
        within = omega arith;
        with_first = λ j after before. elim (cases_lt j k) [
          | inl low ↦ run.with_first j after low
          | inr from ↦
              let same : k ≡ j = omega arith in
              subst (λ i. goes_with ms i (move_at ms first) ≡ true) same goes
        ];
      }

  pub run_part : (k end : ℕ) → IsRun ms first end → first < k → k ≤ end → IsRun ms first k
  run_part k end run some le =
      let within = run.within in
      record {
        some = some;
        within = omega arith;
        with_first = λ j after before. run.with_first j after (omega arith);
      }

  -- it is in the region of the first, and goes to the same
  pub run_regions : (k : ℕ) → IsRun ms first (k + 1)
      → ((move_at ms k).from.0 / REGION ≡ (move_at ms first).from.0 / REGION)
      × (region_of (move_at ms k).to ≡ region_of (move_at ms first).to)
  unfolding region_of
  run_regions k run = elim (cases_lt first k) [
    | inl after ↦
        let (rest, to) = and_parts _ _ (run.with_first k after (omega arith)) in
        (eqb-true _ _ (and_parts _ _ rest).1, eqb-true _ _ to)
    | inr here ↦
        let some = run.some in
        let same : k ≡ first = omega arith in
        (ap (λ j. (move_at ms j).from.0 / REGION) same, ap (λ j. (move_at ms j).to.0 / REGION) same)
  ]

module _ (forwarding : Addr → Addr) (source : Contents) (ms : List Move) (first : ℕ) where
  -- the allocation pointer rises by the cells of what was put, of which each object has some
  pub run_fill : (n : ℕ) (r : Contents) → (put_run forwarding source ms first n r).fill
      ≡ r.fill + cells_run source ms first n
  unfolding put_run cells_run
  run_fill zero r = omega arith
  run_fill (suc n) r =
      omega (
        arith,
        run_fill n r,
        length-map (object_of source ms (first + n)).fields (stored_forwarding forwarding),
      )

  pub run_many : (n : ℕ) → n ≤ cells_run source ms first n
  unfolding cells_run
  run_many zero = omega arith
  run_many (suc n) = omega (arith, run_many n)

  -- one copy more
  pub put_next : {k : ℕ} {old mid new : Contents} → first ≤ k → IsRun ms first (k + 1)
      → mid ≡ put_run forwarding source ms first (k - first) old
      → AreLaidOut forwarding source ms first (k - first) old
      → new ≡ region_with_put mid (region_forwarded forwarding (object_of source ms k)) → IsLaidOut new
      → ArePut forwarding source ms first (k + 1) old new
  unfolding put_run
  put_next {k} {old} {mid} {new} le run so_far before put laid =
      let at : k ≡ first + (k - first) = omega arith in
      let more : suc (k - first) ≡ k + 1 - first = omega arith in
      let is : new ≡ put_run forwarding source ms first (suc (k - first)) old =
      put ∙ (λ i. region_with_put (so_far i) (region_forwarded forwarding (object_of source ms (at i)))) in
      record {
        run = run;
        is = is ∙ ap (λ n. put_run forwarding source ms first n old) more;
        laid_out = λ j below. elim (cases_lt j (k - first)) [
          | inl low ↦ before j low
          | inr from ↦
              let last : k - first ≡ j = omega arith in
              subst (λ n. IsLaidOut (put_run forwarding source ms first (suc n) old)) last (subst IsLaidOut is laid)
        ];
      }

  pub put_first : {old new : Contents} → first < length ms
      → new ≡ region_with_put old (region_forwarded forwarding (object_of source ms first)) → IsLaidOut new
      → ArePut forwarding source ms first (first + 1) old new
  unfolding put_run
  put_first {old} within put laid =
      let none : zero ≡ first - first = omega arith in
      put_next (omega arith) (run_one ms first within)
      (ap (λ n. put_run forwarding source ms first n old) none) (λ j below. absurd (omega arith)) put laid
