use Rattle.std.proofs.Common.{◌≡◌, false, position, None}
use Rattle.hd_model.specs.Grammar.{is_line_end}
use Rattle.hd_step.specs.Inside.{Filled}
use Rattle.hd_step.proofs.reader.Reader.read_on.Given as goal

-- what was read is at hand, and none of it ends a line
abbrev pub invariant-reading : goal.invariant-reading
invariant-reading g l =
    let seen = g.S.Source.seen in
    record {
      more : l.self.ended ≡ false;
      unended : position is_line_end l.self.bytes ≡ None;
      filled : Filled l.fn.self l.self (seen l.fn.source) (seen l.source);
    }

abbrev pub decreases-reading : goal.decreases-reading
decreases-reading g l = l.self.room
