-- What a world's journal states before a command, and that it is a run after it. Only the state of the
-- machine has pinned addresses.
use Rattle.hd_store.proofs.StoreWords.{AgedRun, Cmd, Entry, FinMap, KeepsPinned, List, Machine, Moves, Run, Step, [], aged_by, ap, arith, empty, last_serial, length, nat_cmp, nothing_at, replicate, start_of, stay, subst, sym, with_pinned, ℕ, ◌*◌, ◌++◌, ◌+◌, ◌<◌, ◌^◌, ◌∷◌, ◌≡◌}
use Rattle.hd_model.proofs.{StepChains.aged_run_is_run, StepChains.push, Serials.last_serial-le, Serials.count-le}
use Rattle.hd_store.specs.Calls.{StaysWithin}
use Rattle.hd_world.specs.{TrueRuns.IsTrueRun, TrueRuns.Placed, TrueRuns.same_pinned, World.HasRunLimits}

-- what is true with the pinned addresses of a journal is true of any that are said to be those
pub at_pinned : (m : Machine) (journal : List Entry) (p q : FinMap nat_cmp ℕ)
    (P : FinMap nat_cmp ℕ → Type 0) → IsTrueRun m journal p → ∥ IsTrueRun m journal q ∥₁ → P p → P q
at_pinned m journal p q P is in_reply x = subst P (same_pinned m journal p q ∣ is ∣₁ in_reply) x

module _ (m : Machine) (journal : List Entry) (p : FinMap nat_cmp ℕ) (is : IsTrueRun m journal p) where
  pub run_of : Run m.numbers journal (with_pinned m.state p)
  run_of = aged_run_is_run m.numbers journal (with_pinned m.state p) m.ages is.run

  -- where the journal has room for one more entry
  module _ (room : length journal + 1 < 2 ^ 32) where
    small_of : (caller : ℕ) → last_serial m.state caller + 1 < 2 ^ 32
    small_of caller =
        omega (arith, last_serial-le m.numbers journal (with_pinned m.state p) caller run_of, room)

    -- no serial and no count is at the end of its type
    pub within_of : (caller : ℕ) (c : Cmd) → StaysWithin m.state caller c
    within_of caller c = record {
      serial = λ d fields fin is. small_of caller;
      count = λ h is slot handle register is_stored.
          let known = count-le m.numbers journal (with_pinned m.state p) slot handle run_of is_stored in
          omega (arith, known, room);
    }

  -- where a command keeps pinned addresses and the journal gets its entry
  module _ (next : Machine) (e : Entry) (entries : List Entry) (keeps : KeepsPinned m e next)
      (longer : entries ≡ journal ++ e ∷ []) where
    moved : Moves m e next p
    moved = keeps p is.addresses

    goes_on : IsTrueRun next entries moved.pinned
    goes_on = record {
      run = subst (λ es. AgedRun next.numbers es (with_pinned next.state moved.pinned) next.ages) (sym longer)
          (subst (λ k. AgedRun k (journal ++ e ∷ []) (with_pinned next.state moved.pinned) next.ages)
          (sym moved.numbers)
          (push is.run (record { step = moved.step; ages = moved.ages })));
      addresses = moved.addresses;
      limits = subst HasRunLimits (sym moved.numbers) is.limits;
    }

    -- there are pinned addresses with which it leads on
    pub placed_on : Placed next entries
    placed_on = (moved.pinned, ∣ goes_on ∣₁)

    -- and with any that are said to be those it does
    at_next : (P : FinMap nat_cmp ℕ → Type 0) → P moved.pinned → (q : Placed next entries) → P q.0
    at_next P x q = at_pinned next entries moved.pinned q.0 P goes_on q.1 x

    pub run_on : (q : Placed next entries) → IsTrueRun next entries q.0
    run_on q = at_next (λ r. IsTrueRun next entries r) goes_on q

    pub step_on : (q : Placed next entries)
        → Step m.numbers (with_pinned m.state p) e (with_pinned next.state q.0)
    step_on q =
        at_next (λ r. Step m.numbers (with_pinned m.state p) e (with_pinned next.state r)) moved.step q

    pub ages_on : next.ages ≡ aged_by (with_pinned m.state p) e m.ages
    ages_on = moved.ages

module _ (m : Machine) (entries : List Entry) (first : m.state ≡ start_of m.numbers)
    (oldest : m.ages ≡ replicate (4 * m.numbers.blocks) 2) (none : entries ≡ [])
    (within : HasRunLimits m.numbers) where
  -- at first there is no pinned address
  begins : IsTrueRun m entries empty
  begins = record {
    run = subst (λ es. AgedRun m.numbers es (with_pinned m.state empty) m.ages) (sym none)
        (subst (λ s. AgedRun m.numbers [] (with_pinned s empty) m.ages) (sym first)
        (subst (λ ages. AgedRun m.numbers [] (start_of m.numbers) ages) (sym oldest) stay));
    addresses = λ x at found. absurd (nothing_at x at found);
    limits = within;
  }

  pub placed_first : Placed m entries
  placed_first = (empty, ∣ begins ∣₁)

  at_first : (P : FinMap nat_cmp ℕ → Type 0) → P empty → (q : Placed m entries) → P q.0
  at_first P x q = at_pinned m entries empty q.0 P begins q.1 x

  pub run_first : (q : Placed m entries) → IsTrueRun m entries q.0
  run_first q = at_first (λ r. IsTrueRun m entries r) begins q

  pub state_first : (q : Placed m entries) → with_pinned m.state q.0 ≡ start_of m.numbers
  state_first q = at_first (λ r. with_pinned m.state r ≡ start_of m.numbers)
      (ap (λ s. with_pinned s empty) first) q
