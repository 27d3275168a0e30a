-- What the lines of commands and roots are, and how the lines of a text are numbered.
use Rattle.hd_model.proofs.Basics.{List, Numbers, [], arith, length, refl, start_of, stay, ℕ, ◌+◌, ◌≤◌}
use Rattle.std.specs.Fmt.{digits}
use Rattle.hd_model.specs.declared.command.Cmd.{Cmd}
use Rattle.hd_model.specs.RunTexts.{IsNoRun, cut_lines, list_of, missing, so_far, wrong}
use Rattle.hd_laws.specs.LineLaws.{LinesAreThese, WrongLinesAreNumbered}

pub lines_are_these : LinesAreThese
unfolding digits
lines_are_these = record { commands = refl; kinds = refl; roots = refl }

module _ (n : Numbers) (lists : List (List Cmd)) (bytes : List ℕ) where
  low : {k : ℕ} → IsNoRun n lists bytes k → 1 ≤ k
  low (wrong within right not) = omega arith
  low (missing along whole) = omega arith

  high : {k : ℕ} → IsNoRun n lists bytes k → k ≤ length (cut_lines bytes) + 1
  high (wrong within right not) = omega arith
  high (missing along whole) = omega arith

pub wrong_lines_are_numbered : WrongLinesAreNumbered
wrong_lines_are_numbered = record {
  cut = refl;
  numbers = λ n lists bytes. record {
    low = λ k no. low n lists bytes no;
    high = λ k no. high n lists bytes no;
    first = λ some not.
        wrong {i = 0} some (so_far {journal = []} {s = start_of n} {left = list_of lists}
        (record { run = stay; parts = λ caller. refl })) not;
  };
}
