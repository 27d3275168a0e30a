use Rattle.std.proofs.Common.{take, ◌≡◌, ◌≤◌}
use Rattle.std.specs.Prelude.{count_by}
use Rattle.hd_show.specs.Kinds.{handle_is}
use Rattle.hd_show.proofs.kinds.count_handles.Given as goal

abbrev pub invariant-loop-handle : goal.invariant-loop-handle
invariant-loop-handle l =
    record {
      counted : l.count ≡ count_by (handle_is l.kind) (take l.handle-index l.handles);
      few : l.count ≤ l.handle-index;
    }
