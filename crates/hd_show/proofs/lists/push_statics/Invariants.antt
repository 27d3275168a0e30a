use Rattle.std.proofs.Common.{take, ◌++◌, ◌≡◌}
use Rattle.std.specs.Prelude.{codes, flat_map}
use Rattle.std.specs.List.{enumerate_from}
use Rattle.hd_model.specs.Text.{newline}
use Rattle.hd_show.specs.Lists.{static_rows}
use Rattle.hd_show.proofs.lists.push_statics.Given as goal

abbrev pub invariant-loop-i : goal.invariant-loop-i
invariant-loop-i l =
    l.text
    ≡ (l.fn.text ++ (codes "STATIC  OBJECT" ++ newline))
    ++ flat_map static_rows (enumerate_from 0 (take l.i l.statics))
