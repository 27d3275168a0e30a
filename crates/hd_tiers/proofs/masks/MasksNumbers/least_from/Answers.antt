use Rattle.hd_tiers.proofs.Basics.{BITS, arith, ◌*◌, ◌+◌, ◌/◌}
use Rattle.hd_tiers.proofs.Searches.{further_found, further_none, none_in}
use Rattle.hd_tiers.proofs.masks.MasksNumbers.least_from.Goals as goal

pub returns-clause-found : goal.returns-clause-found
returns-clause-found c =
    further_found c.args.self.now.members c.args.from (BITS * (c.args.from / BITS + 1)) (omega arith)
    (none_in c.in_default.is c.least_beside.ensures.none) c.least_beyond.result c.least_beyond.ensures.found

pub returns-clause-none : goal.returns-clause-none
returns-clause-none c =
    further_none c.args.self.now.members c.args.from (BITS * (c.args.from / BITS + 1)) (omega arith)
    (none_in c.in_default.is c.least_beside.ensures.none) c.least_beyond.result c.least_beyond.ensures.none
