-- The run of a load: its numbers, the sum in its line, and the line.
use Rattle.hd_run.proofs.Basics.{BLOCKS, Cmd, Done, Ending, Fault, HEAP, HasLine, HasSumOf, IsLoadScript, LOAD_CALLERS, List, Option, Outcome, Output, RanAllTogether, Refused, Reports, RootId, RunCause, SinkView, Stopped, Summary, Took, WorldView, append-nil, arith, commands_of, fault_status, generated_list, in_threads, length-map, load_numbers, numbers_for, part_of, ran_text, range_with_len, refl, status_of, subst, sym, text_for, ℕ, ◌*◌, ◌+◌, ◌<◌, ◌^◌, ◌∙◌, ◌≡◌, ◌≤◌}
use Rattle.std.proofs.lemmas.Nat.{mul-le}
use Rattle.hd_model.specs.Generated.{generated_lists}
use Rattle.hd_script.specs.Load.{IsLoadRun}
use Rattle.hd_script.proofs.LoadLine.{returned, loads_have_their_line}
use Rattle.hd_run.proofs.ReadFaults.{no_whole}
use Rattle.hd_run.proofs.ReportedTexts.{reported_as}
use Rattle.hd_run.specs.declared.ending.Ran.TheVariants as ran

-- its script has four callers, so its numbers are those of every load
pub load_is : (rounds : ℕ)
    → numbers_for (record { heap = HEAP; blocks = BLOCKS }) (generated_lists rounds) ≡ load_numbers
unfolding generated_lists
load_is rounds = λ i. record {
  heap = HEAP;
  blocks = BLOCKS;
  callers = length-map (range_with_len 0 LOAD_CALLERS) (generated_list rounds) i;
}

-- of a fault there is no line
pub refused_line : (rounds : ℕ) (before after : SinkView) (output : Output) (f : Fault) (o : Outcome) →
    Reports before after output (Refused f) o → HasLine rounds before after o.status
refused_line rounds before after output f o reports zero =
    absurd (no_whole f (reported_as before after (fault_status f) (text_for output (Refused f)) o.status
    reports.written 0 zero (λ five. cc)).0)

module _ (rounds : ℕ) (lists : List (List Cmd)) (load : IsLoadScript rounds lists) where
  load_run : (w : WorldView) → RanAllTogether load_numbers lists w → IsLoadRun rounds w.journal w.state
  load_run w all =
      let same : RanAllTogether load_numbers (generated_lists rounds) w =
      subst (λ (ls : List (List Cmd)). RanAllTogether load_numbers ls w) load.lists_are all in
      record {
        run = same.run;
        parts = λ caller. sym (same.parts caller ∙ append-nil (commands_of (part_of w.journal caller)));
      }

  -- the sum of what is read fits in its line
  small : 2 * rounds * (rounds + 1) < 2 ^ 64
  small =
      let most_rounds : rounds ≤ 3000 = load.most in
      let double : 2 * rounds ≤ 6000 = omega (arith, most_rounds) in
      let next : rounds + 1 ≤ 3001 = omega (arith, most_rounds) in
      let product : 2 * rounds * (rounds + 1) ≤ 6000 * 3001 = mul-le (2 * rounds) (rounds + 1) 6000 3001
      double next in
      omega (arith, product)

  pub load_sum : (e : Ending) → RunCause in_threads load_numbers lists e → HasSumOf Summary e
  load_sum (Refused f) is = tt
  load_sum (Stopped run) at = tt
  load_sum (Done (ran.Alone w) roots) all = absurd all.0
  load_sum (Done (ran.Shared w) roots) all =
      omega (arith, returned rounds w.journal w.state load.most (load_run w all.0), small)

  -- and the line is known
  module _ (before after : SinkView) where
    line_at : (e : Ending) → RunCause in_threads load_numbers lists e → status_of e ≡ 0 →
        Took before after (text_for Summary e) → HasLine rounds before after 0
    line_at (Refused f) is zero took = absurd (no_whole f zero)
    line_at (Stopped run) at zero took = cc
    line_at (Done (ran.Alone w) roots) all zero took = absurd all.0
    line_at (Done (ran.Shared w) roots) all zero took = λ _. subst (Took before after)
        (loads_have_their_line rounds w.journal w.state load.least load.most (load_run w all.0))
        (subst (λ (rs : Option (List RootId)). Took before after (ran_text Summary w rs)) all.1 took)

    pub line_of : (e : Ending) (o : Outcome) → RunCause in_threads load_numbers lists e →
        Reports before after Summary e o → HasLine rounds before after o.status
    line_of e o cause reports zero =
        let at = reported_as before after (status_of e) (text_for Summary e) o.status reports.written 0 zero
        (λ five. cc) in
        line_at e cause at.0 at.1 refl
