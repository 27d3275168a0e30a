use Rattle.hd_host.specs.Kinds.{IsListedOf}
use Rattle.hdt_c.proofs.Listings.{IsListing}
use Rattle.hdt_c.proofs.on_lists.list.Given as goal

abbrev pub invariant-loop-i : goal.invariant-loop-i
invariant-loop-i l = IsListing (IsListedOf l.host l.kinds l.cleared) l.from l.initial.out l.at l.i l.out
