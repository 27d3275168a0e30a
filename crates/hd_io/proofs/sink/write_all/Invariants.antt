use Rattle.std.proofs.Common.{◌-◌, ◌≤◌, length, take}
use Rattle.hd_io.specs.Sink.{Took}
use Rattle.hd_io.proofs.sink.write_all.Given as goal

-- the first bytes of the piece are written
abbrev pub invariant-loop-done : goal.invariant-loop-done
invariant-loop-done g l =
    let seen = g.K.Sink.seen in
    record {
      within : l.done ≤ length l.piece;
      took : Took (seen l.fn.sink) (seen l.sink) (take l.done l.piece);
    }

abbrev pub decreases-loop-done : goal.decreases-loop-done
decreases-loop-done g l = length l.piece - l.done
