use Rattle.hd_tiers.proofs.TierMembers.{first_found, first_some, none_found}
use Rattle.hd_tiers.proofs.Searches.{at_none}
use Rattle.hd_tiers.proofs.tier.TierNumbers.least.Goals as goal

pub returns-in_err-block-clause-none : goal.returns-in_err-block-clause-none
returns-in_err-block-clause-none g c =
    at_none c.from_residual.ensures (none_found c.self.invariant c.self.view_is c.in_err-block.ensures.none)

pub returns-clause-found : goal.returns-clause-found
returns-clause-found g c =
    first_found c.self.invariant c.self.view_is c.in_ok-block.ensures.found c.least_of.result
    c.least_of.ensures.found

pub returns-clause-none : goal.returns-clause-none
returns-clause-none g c =
    first_some c.self.invariant c.self.view_is c.in_ok-block.ensures.found c.least_of.result
    c.least_of.ensures.none
