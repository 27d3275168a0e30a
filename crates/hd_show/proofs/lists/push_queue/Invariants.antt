use Rattle.std.proofs.Common.{take, ◌++◌, ◌≡◌}
use Rattle.std.specs.Prelude.{codes, flat_map}
use Rattle.std.specs.List.{enumerate_from}
use Rattle.hd_model.specs.Text.{newline}
use Rattle.hd_show.specs.Lists.{queue_row}
use Rattle.hd_show.proofs.lists.push_queue.Given as goal

abbrev pub invariant-loop-i : goal.invariant-loop-i
invariant-loop-i l =
    l.text
    ≡ (l.fn.text ++ (codes "QUEUED  OBJECT" ++ newline))
    ++ flat_map queue_row (enumerate_from 1 (take l.i l.queue))
