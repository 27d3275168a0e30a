use Rattle.std.proofs.Common.{take, ◌++◌, ◌≡◌}
use Rattle.std.specs.Prelude.{flat_map}
use Rattle.hd_model.specs.Text.{newline}
use Rattle.hd_show.specs.Handles.{handle_row, handles_header}
use Rattle.hd_show.proofs.handles.push_handles.Given as goal

abbrev pub invariant-loop-handle : goal.invariant-loop-handle
invariant-loop-handle l =
    l.text ≡ (l.fn.text ++ (handles_header ++ newline)) ++ flat_map handle_row (take l.handle-index l.handles)
