use Rattle.std.proofs.Common.{take}
use Rattle.hd_path.specs.Inside.{LeastOf}
use Rattle.hd_path.proofs.names.least_link.Given as goal

abbrev pub invariant-loop-link : goal.invariant-loop-link
invariant-loop-link l = record { least : LeastOf (take l.link-index l.links) l.id l.to l.least }
