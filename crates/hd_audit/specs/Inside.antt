-- What private clauses alone cite.
use Rattle.std.specs.Prelude.{ℕ, List, ◌≡◌, [], ◌∷◌, ◌++◌, ◌+◌, ◌<◌, ◌≤◌, Bool, true, false, length, sum_by, slice_index}
use Rattle.hd_model.specs.declared.command.Cmd.{Cmd}
use Rattle.hd_model.specs.declared.data.Entry.{Entry}
use Rattle.hd_model.specs.FullText.{full_lines}
use Rattle.hd_model.specs.Text.{collections_of}
use Rattle.hd_model.specs.State.{State, Numbers}
use Rattle.hd_model.specs.declared.limits.TheConstants.{BLOCKS, CALLERS, MOST_COMMANDS}
use Rattle.hd_model.specs.RunTexts.{AreRight, GoesAlong, cut_lines, list_of}
use Rattle.hd_audit.specs.declared.lines.Progress.{Progress}
use Rattle.hd_audit.specs.declared.lines.Verdict.{Verdict}
use Rattle.hd_audit.specs.RightVerdicts.{IsRight}
use Rattle.hd_audit.specs.SoFar.{entries_of}

-- these lines are the full lines of a run, in which each caller has the commands of its list left after as
-- many entries as are counted for it
pub record IsJudged (n : Numbers) (lists : List (List Cmd)) (s : State) (done : List ℕ)
    (left collections : ℕ) (lines : List (List ℕ)) : Type 0 where
  pub journal : List Entry
  pub rest : List (List Cmd)
  pub along : GoesAlong n lists journal s (list_of rest)
  pub lines_are : lines ≡ full_lines journal
  pub callers : n.callers ≡ length lists
  pub few_callers : n.callers ≤ CALLERS
  pub few_blocks : n.blocks ≤ BLOCKS
  pub each_rest : length rest ≡ n.callers
  pub each_done : length done ≡ n.callers
  pub counts : (c : ℕ) → c < n.callers → slice_index done c ≡ entries_of c journal
  pub left_is : left ≡ sum_by (λ (list : List Cmd). length list) rest
  pub few : length journal + left ≤ MOST_COMMANDS
  pub collected : collections ≡ collections_of journal

-- the judge has these lines behind it
abbrev pub Along : List (List Cmd) → Progress → List (List ℕ) → Type 0
Along lists j lines = IsJudged j.machine.numbers lists j.machine.state j.done.items j.left j.collections lines

-- a line that is right takes the judge one step on, and one that is not is that of no entry that may come
abbrev pub TakesLine : List (List Cmd) → Progress → List ℕ → Progress → Bool → Type 0
TakesLine lists old line new true =
    (new.machine.numbers ≡ old.machine.numbers)
    × ((lines : List (List ℕ)) → Along lists old lines → Along lists new (lines ++ line ∷ []))
TakesLine lists old line new false =
    (lines : List (List ℕ)) → Along lists old lines
    → AreRight old.machine.numbers lists (lines ++ line ∷ []) → ⊥

-- the verdict on a text of a number of lines that were judged and of bytes that are left
abbrev pub Ends : Progress → ℕ → List ℕ → Verdict → Type 0
Ends j count rest verdict =
    (lists : List (List Cmd)) (lines : List (List ℕ)) (bytes : List ℕ) → Along lists j lines
    → length lines ≡ count → cut_lines bytes ≡ lines ++ cut_lines rest
    → IsRight j.machine.numbers lists bytes verdict

-- it has lines of a run behind it
abbrev pub HasLines : List (List Cmd) → Progress → Type 0
HasLines lists j = (lines : List (List ℕ)) × Along lists j lines
