use Rattle.std.proofs.Common.{take, ◌++◌, ◌≡◌}
use Rattle.std.specs.Prelude.{flat_map}
use Rattle.std.specs.List.{enumerate_from}
use Rattle.hd_talk.specs.Slots.{board_line}
use Rattle.hd_talk.proofs.holders.push_board.Given as goal

abbrev pub invariant-loop-k : goal.invariant-loop-k
invariant-loop-k l =
    l.text.items
    ≡ l.fn.text.items ++ flat_map (board_line l.slot.0) (enumerate_from 0 (take l.k l.board))
