use Rattle.hd_store.proofs.StoreWords.{Err, FinMap, IsOffer, Machine, Ok, OnErr, Result, TakesSteps, [], ap, arith, length, nat_cmp, subst, sym, true, with_pinned, ⊎_elim, ℕ, ◌++◌, ◌+◌, ◌<◌, ◌^◌, ◌∙◌, ◌∷◌, ◌≡◌}
use Rattle.hd_world.specs.{TrueRuns.IsTrueRun, TrueRuns.Placed, Applied.Applied, World.WorldView}
use Rattle.hd_store.proofs.OfferAddresses.{script_steps, steps_placed, offer_placed, growth_placed}
use Rattle.hd_world.proofs.JournalApply.{within_of, at_pinned, placed_on, run_on, step_on, ages_on}
use Rattle.hd_model.specs.{Journal.Recorded, Valid.takes_memory}
use Rattle.hd_world.proofs.world.World.apply.Goals as goal

pub apply-requires-clause-caller : goal.apply-requires-clause-caller
apply-requires-clause-caller g c =
    subst (λ (v : WorldView). c.args.caller < v.numbers.callers) (sym c.self.view_is) c.requires.caller

pub apply-requires-clause-offer : goal.apply-requires-clause-offer
apply-requires-clause-offer g c =
    let w = c.self.inside in
    offer_placed w.store.numbers w.store.state w.placed.0 c.args.caller c.args.cmd c.args.offer
    (subst (λ (v : WorldView). IsOffer v.state c.args.caller c.args.cmd c.args.offer)
    (sym c.self.view_is) c.requires.offer)

pub apply-requires-clause-within : goal.apply-requires-clause-within
apply-requires-clause-within g c =
    let w = c.self.inside in
    let known = ap (λ (v : WorldView). v.spare) c.self.view_is in
    let room : length w.journal.entries + 1 < 2 ^ 32 =
    omega (arith, c.spare-room.ensures.small, c.spare-room.ensures.value, known, c.requires.room) in
    within_of w.store w.journal.entries w.placed.0 c.self.invariant room c.args.caller c.args.cmd

-- the world as it was, where memory ran out
pub invariant_of-self-inside : goal.invariant_of-self-inside
invariant_of-self-inside g c =
    subst (λ m. Placed m c.self.inside.journal.entries × Unit {0}) (sym c.in_err-entry.ensures.unchanged)
    (c.self.inside.placed, tt)

pub invariant_of-self : goal.invariant_of-self
invariant_of-self g c =
    let entries = c.self.inside.journal.entries in
    let before : IsTrueRun c.apply.new.self entries c.self.inside.placed.0 =
    subst (λ m. IsTrueRun m entries c.self.inside.placed.0)
    (sym c.in_err-entry.ensures.unchanged) c.self.invariant in
    let at : (q : Placed c.apply.new.self entries) → IsTrueRun c.apply.new.self entries q.0 =
    λ q. at_pinned c.apply.new.self entries c.self.inside.placed.0 q.0
    (λ r. IsTrueRun c.apply.new.self entries r) before q.1 before in
    search at

-- a world with its parts
abbrev seen : Machine → Recorded → FinMap nat_cmp ℕ → WorldView
seen m j p = record {
  numbers = m.numbers;
  state = with_pinned m.state p;
  ages = m.ages;
  heap = m.heap;
  table = m.table;
  journal = j.entries;
  spare = j.spare;
}

on_err : {A B : Type 0} (r : Result A B) (P : Type 0) → P → OnErr r P
on_err (Ok a) P x = tt
on_err (Err b) P x = x

pub returns-in_err-entry-clause-unchanged : goal.returns-in_err-entry-clause-unchanged
returns-in_err-entry-clause-unchanged g c =
    let j = c.self.inside.journal in
    let m = c.apply.new.self in
    let p = c.self.inside.placed.0 in
    let before : IsTrueRun m j.entries p =
    subst (λ x. IsTrueRun x j.entries p) (sym c.in_err-entry.ensures.unchanged) c.self.invariant in
    let at : (q : Placed m j.entries) → OnErr c.from_residual.result (seen m j q.0 ≡ c.args.self.now) =
    λ q. on_err c.from_residual.result (seen m j q.0 ≡ c.args.self.now)
    (at_pinned m j.entries p q.0 (λ r. seen m j r ≡ c.args.self.now) before q.1
    (ap (λ x. seen x j p) c.in_err-entry.ensures.unchanged ∙ c.self.view_is)) in
    search at

-- within the limits of a run no first entry runs out
pub returns-in_err-entry-clause-memory : goal.returns-in_err-entry-clause-memory
returns-in_err-entry-clause-memory g c =
    on_err c.from_residual.result (takes_memory c.args.cmd ≡ true)
    (⊎_elim (λ memory. memory)
    (λ first. absurd (omega (arith, first.large, c.self.invariant.limits.blocks.1)))
    c.in_err-entry.ensures.memory)

pub invariant_of-self-inside-2 : goal.invariant_of-self-inside-2
invariant_of-self-inside-2 g c =
    let w = c.self.inside in (
      placed_on w.store w.journal.entries w.placed.0 c.self.invariant c.apply.new.self
          c.in_ok-entry.entry c.push.new.self.entries c.in_ok-entry.ensures.done.effect c.push.ensures.entries,
      tt,
    )

pub invariant_of-self-2 : goal.invariant_of-self-2
invariant_of-self-2 g c =
    let w = c.self.inside in
    let at = run_on w.store w.journal.entries w.placed.0 c.self.invariant c.apply.new.self
    c.in_ok-entry.entry c.push.new.self.entries c.in_ok-entry.ensures.done.effect c.push.ensures.entries in
    search at

pub returns-clause-done : goal.returns-clause-done
returns-clause-done g c =
    let w = c.self.inside in
    let j = c.push.new.self in
    let next = c.apply.new.self in
    let e = c.in_ok-entry.entry in
    let ran = c.in_ok-entry.ensures.done in
    let at : (q : Placed next j.entries)
    → Applied c.args.self.now c.args.caller c.args.cmd c.args.offer (seen next j q.0) e =
    λ q. subst (λ (v : WorldView). Applied v c.args.caller c.args.cmd c.args.offer (seen next j q.0) e)
    c.self.view_is (record {
      command = ran.command;
      journal = c.push.ensures.entries
          ∙ ap (λ n. w.journal.entries ++ record e { caller = n } ∷ []) (omega arith);
      spare = c.push.ensures.spare;
      step = step_on w.store w.journal.entries w.placed.0 c.self.invariant next e j.entries ran.effect
          c.push.ensures.entries q;
      ages = ages_on w.store w.journal.entries w.placed.0 c.self.invariant next e j.entries ran.effect
          c.push.ensures.entries;
      numbers = (ran.effect w.placed.0 c.self.invariant.addresses).numbers;
      offer = ran.offer;
      growth = growth_placed w.store.numbers w.store.state w.placed.0 c.args.caller c.args.cmd c.args.offer e
          ran.growth;
      heap = (ran.effect w.placed.0 c.self.invariant.addresses).heap;
      addresses = record {
        returned = ran.addresses.returned;
        pinned = ran.addresses.pinned;
        others = ran.addresses.others;
      };
    }) in
    search at

pub returns-clause-steps : goal.returns-clause-steps
returns-clause-steps g c =
    let w = c.self.inside in
    subst (λ (v : WorldView). TakesSteps v.state v.ages c.in_ok-entry.entry c.args.steps.now c.apply.new.steps)
    c.self.view_is
    (steps_placed w.store.state w.placed.0 w.store.ages c.in_ok-entry.entry c.args.steps.now
    c.apply.new.steps
    (script_steps w.store.numbers c.self.invariant.limits.blocks.1 c.self.invariant.limits.callers.1
    c.in_ok-entry.ensures.steps))
