-- What an end knows and carries after each step at the gate.
use Rattle.std.proofs.Common.{◌≡◌, ℕ, ◌+◌, ◌≤◌, List, ◌∷◌, length, sym, ap, ◌∙◌, subst, arith}
use mathlib.Core.Option.{none}
use Rattle.atomic_table.specs.Table.{Allows, step}
use Rattle.hd_turns.specs.declared.rule.View.{View}
use Rattle.hd_turns.specs.Views.{Enters, Known, TakesTurn, handed_out, missed, took}
use Rattle.hd_turns.specs.Rule.{Kept, MayFree, left}
use Rattle.hd_turns.proofs.TableSteps.{Mine, leaves}

module _ {W : Type 0} where
  -- misses before the look that won
  pub enters_after : {turn : ℕ → W → W → Type 0} {most all number : ℕ} {value : W} (times : ℕ) (old : View W)
      {new : View W} → times + most ≤ all → Enters turn most number value (missed times old) new
      → Enters turn all number value old new
  enters_after {value = value} times old fits e = record {
    by = e.by;
    past = e.past;
    goes_on = e.goes_on;
    turns = e.turns;
    number_is = e.number_is;
    times = times + e.times;
    few = (let f = e.few in omega arith);
    new_is =
        let sum : old.misses + times + e.times ≡ old.misses + (times + e.times) = omega arith in
        e.new_is ∙ ap (λ (k : ℕ). took ((e.by, value) ∷ e.past) (record old { misses = k })) sum;
  }

  pub takes_after : {turn : ℕ → W → W → Type 0} {most all number : ℕ} (times : ℕ) (old new : Known W)
      → times + most ≤ all → TakesTurn turn most number (record old { view = missed times old.view }) new
      → TakesTurn turn all number old new
  takes_after times old new fits e = record {
    found = e.found;
    table_is = e.table_is;
    value_is = e.value_is;
    enters = enters_after times old.view fits e.enters;
  }

  -- the same of an end as it is handed out
  pub handed : {turn : ℕ → W → W → Type 0} {most number : ℕ} (old new : Known W) → TakesTurn turn most number old new
      → TakesTurn turn most number (record old { view = handed_out old.view }) (record new { view = handed_out new.view })
  handed old new t = let e = t.enters in record {
    found = t.found;
    table_is = t.table_is;
    value_is = t.value_is;
    enters = record {
      by = e.by;
      past = e.past;
      goes_on = e.goes_on;
      turns = e.turns;
      number_is = e.number_is;
      times = e.times;
      few = e.few;
      new_is = ap handed_out e.new_is;
    };
  }

module _ {W : Type 0} (turn : ℕ → W → W → Type 0) where
  pub leaves_from : (slots id number stored : ℕ) (m : Mine W) → stored ≡ number + 1 → length m.0.seen ≡ number
      → MayFree turn m
      → Allows (Kept turn) slots id m 0 (λ _. stored) (λ _. left (step slots 0 stored 0 none) m stored)
  leaves_from slots id number stored m is long may =
      subst (λ (z : ℕ × List (ℕ × W)). Allows (Kept turn) slots id (m.0, z.1) 0 (λ _. z.0)
      (λ _. left (step slots 0 z.0 0 none) (m.0, z.1) z.0)) (λ i. (sym is i, sym may.carried i))
      (leaves turn slots id number m.0 may.value may.gate long may.may)
