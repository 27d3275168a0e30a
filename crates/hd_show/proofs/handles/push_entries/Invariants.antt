use Rattle.std.proofs.Common.{take, ◌++◌, ◌≡◌}
use Rattle.std.specs.Prelude.{flat_map}
use Rattle.hd_model.specs.Text.{newline}
use Rattle.hd_show.specs.Handles.{entry_row, entries_header}
use Rattle.hd_show.proofs.handles.push_entries.Given as goal

abbrev pub invariant-loop-entry : goal.invariant-loop-entry
invariant-loop-entry l =
    l.text ≡ (l.fn.text ++ (entries_header ++ newline)) ++ flat_map entry_row (take l.entry-index l.entries)
