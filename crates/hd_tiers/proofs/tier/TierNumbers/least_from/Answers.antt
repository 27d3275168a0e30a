use Rattle.hd_tiers.proofs.TierMembers.{next_found, next_some, none_after}
use Rattle.hd_tiers.proofs.Searches.{at_none, none_in}
use Rattle.hd_tiers.proofs.tier.TierNumbers.least_from.Goals as goal

pub returns-in_err-block-clause-none : goal.returns-in_err-block-clause-none
returns-in_err-block-clause-none g c =
    at_none c.from_residual.ensures
    (none_after c.self.invariant c.self.view_is c.args.from
    (none_in c.in_default.is c.least_beside.ensures.none) c.in_err-block.ensures.none)

pub returns-clause-found : goal.returns-clause-found
returns-clause-found g c =
    next_found c.self.invariant c.self.view_is c.args.from
    (none_in c.in_default.is c.least_beside.ensures.none)
    c.in_ok-block.ensures.found c.least_of.result c.least_of.ensures.found

pub returns-clause-none : goal.returns-clause-none
returns-clause-none g c =
    next_some c.self.invariant c.self.view_is c.args.from
    (none_in c.in_default.is c.least_beside.ensures.none)
    c.in_ok-block.ensures.found c.least_of.result c.least_of.ensures.none
