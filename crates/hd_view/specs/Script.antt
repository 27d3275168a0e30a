-- A script that leads to a world, or its lines before one that do.
use Rattle.std.specs.Prelude.{◌≡◌, ℕ, ◌-◌, Err, List, take, Option, Some, None}
use Rattle.std.specs.List.{concat}
use Rattle.hd_heap.specs.Sound.{IsSound}
use Rattle.hd_io.specs.Source.{SourceView}
use Rattle.hd_model.specs.declared.command.Cmd.{Cmd}
use Rattle.hd_model.specs.Grammar.{IsScript, script_of}
use Rattle.hd_model.specs.RunTexts.{cut_lines}
use Rattle.hd_model.specs.Table.{IsTable}
use Rattle.hd_run.specs.Bounds.{Bounds, numbers_for}
use Rattle.hd_run.specs.Ending.{ReadWhole}
use Rattle.hd_run.specs.Turns.{RanWhole}
use Rattle.hd_world.specs.StateHeap.{IsOfJournal}
use Rattle.hd_world.specs.World.{WorldView}

-- the lines of bytes before one, counted from 1, or all of them
abbrev pub lines_before : Option ℕ → List ℕ → List ℕ
lines_before None bytes = bytes
lines_before (Some line) bytes = concat (take (line - 1) (cut_lines bytes))

-- the source was read to its end, and its script, or the lines of it before one, was run as `solo` runs it to
-- this world. Its ages, and the objects, rows and uses of heap and table, are those of its journal; objects lie
-- apart below the allocation pointers of regions in use; and each chain has exactly the blocks of its kind.
pub record RanTo (b : Bounds) (line : Option ℕ) (old new : SourceView) (w : WorldView) : Type 0 where
  pub bytes : List ℕ
  pub read : ReadWhole old new bytes
  pub lists : List (List Cmd)
  pub script : IsScript (lines_before line bytes) lists
  pub ran : RanWhole (numbers_for b lists) lists w
  pub journal : IsOfJournal w
  pub heap : IsSound w.heap
  pub table : IsTable w.table

-- this line of bytes, from 1, is the first of the wanted ones that has no reading or is one command too many
abbrev pub IsBadLine : Option ℕ → List ℕ → ℕ → Type 0
IsBadLine line bytes bad = script_of (lines_before line bytes) ≡ Err bad
