use Rattle.hd_pool.proofs.LeastByKind.{found_or_end, none_or_end}
use Rattle.hd_pool.proofs.ready.least_or_end.Goals as goal

pub returns-in-Some : goal.returns-in-Some
returns-in-Some c = found_or_end c.in-Some.ensures.found

pub returns-in-None : goal.returns-in-None
returns-in-None c =
    none_or_end c.args.numbers.now.members c.args.from c.args.to c.requires c.in-None.ensures.none
