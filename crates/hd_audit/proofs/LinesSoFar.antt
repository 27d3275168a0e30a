-- A text, after some of its lines were judged.
use Rattle.std.proofs.Common.{List, [], ap, append_assoc, arith, eqb-true, false, length, length-append, subst, sym, true, ℕ, ◌++◌, ◌+◌, ◌<◌, ◌==◌, ◌^◌, ◌∙◌, ◌∷◌, ◌≡◌, ◌≤◌}
use Rattle.std.proofs.lemmas.List.{nil_from_length}
use Rattle.std.specs.FinMap.{len}
use Rattle.hd_model.specs.declared.command.Cmd.{Cmd}
use Rattle.hd_model.specs.RunTexts.{IsNoRun, cut_lines}
use Rattle.hd_model.specs.State.{Numbers}
use Rattle.hd_audit.specs.declared.lines.Progress.{Progress}
use Rattle.hd_audit.specs.declared.lines.Verdict.{Verdict}
use Rattle.hd_audit.specs.RightVerdicts.{IsRight}
use Rattle.hd_audit.specs.Inside.{Ends, TakesLine, Along}
use Rattle.hd_audit.proofs.JudgedLines.{lines_fit, objects_fit}
use Rattle.hd_audit.proofs.LineVerdicts.{missing_line, wrong_line}
use Rattle.hd_model.specs.declared.limits.TheConstants.{MOST_COMMANDS}

-- after a number of lines of bytes, with others left
pub record IsAt (n : Numbers) (lists : List (List Cmd)) (j : Progress) (bytes rest : List ℕ) (count : ℕ)
    : Type 0 where
  pub lines : List (List ℕ)
  pub along : Along lists j lines
  pub numbers : j.machine.numbers ≡ n
  pub count_is : length lines ≡ count
  pub cut : cut_lines bytes ≡ lines ++ cut_lines rest

module _ {n : Numbers} {lists : List (List Cmd)} {j : Progress} {bytes rest : List ℕ} {count : ℕ}
    (at : IsAt n lists j bytes rest count) where
  pub few_lines : count + j.left ≤ MOST_COMMANDS
  few_lines = let low = lines_fit at.along in let same = at.count_is in omega (arith, low, same)

  pub few_objects : len j.machine.state.objects < 2 ^ 32
  few_objects = objects_fit at.along

  no_run : IsNoRun j.machine.numbers lists bytes (length at.lines + 1) → IsNoRun n lists bytes (count + 1)
  no_run none =
      subst (λ m. IsNoRun m lists bytes (count + 1)) at.numbers
      (subst (λ k. IsNoRun j.machine.numbers lists bytes (k + 1)) at.count_is none)

  module _ (line after : List ℕ) (next : cut_lines rest ≡ line ∷ cut_lines after) (new : Progress) where
    -- a line follows that is not right
    pub wrong_follows : TakesLine lists j line new false → IsNoRun n lists bytes (count + 1)
    wrong_follows none =
        no_run (wrong_line at.along bytes rest at.cut line (cut_lines after) next (none at.lines at.along))

    -- a line follows that is right
    pub right_follows : TakesLine lists j line new true → IsAt n lists new bytes after (count + 1)
    right_follows taken = record {
      lines = at.lines ++ line ∷ [];
      along = taken.1 at.lines at.along;
      numbers = taken.0 ∙ at.numbers;
      count_is = length-append at.lines (line ∷ []) ∙ ap (λ k. k + 1) at.count_is;
      cut = at.cut ∙ ap (λ (l : List (List ℕ)). at.lines ++ l) next
          ∙ sym (append_assoc at.lines (line ∷ []) (cut_lines after));
    }

  -- the verdict on what follows
  pub ends_so : (verdict : Verdict) → Ends j count rest verdict → IsRight n lists bytes verdict
  ends_so verdict ends =
      subst (λ m. IsRight m lists bytes verdict) at.numbers
      (ends lists at.lines bytes at.along at.count_is at.cut)
