use Rattle.std.proofs.Common.{◌-◌, ◌≤◌, ◌≡◌, length}
use Rattle.hd_io.specs.Source.{Gave}
use Rattle.hd_io.proofs.source.read_all.Given as goal

-- the bytes so far are the ones that were read in this call, and not too many
abbrev pub invariant-reading : goal.invariant-reading
invariant-reading g l =
    let seen = g.S.Source.seen in
    record {
      gave : Gave (seen l.fn.source) (seen l.source) l.bytes.items;
      within : length l.bytes.items ≤ l.fn.most;
      limit : l.limit ≡ l.fn.most;
    }

abbrev pub decreases-reading : goal.decreases-reading
decreases-reading g l = l.fn.most - length l.bytes.items
