use Rattle.hd_pool.proofs.Basics.{HasNoneBetween, IsLeastBetween, ap, arith, is_some, subst, true≢false, ◌+◌, ◌-◌}
use Rattle.hd_pool.proofs.WholeBlocks.{found_least, found_small, no_whole}
use Rattle.hd_pool.proofs.pool.Pool.whole.Goals as goal

pub number_of-first-requires : goal.number_of-first-requires
number_of-first-requires c = omega (arith, c.self.invariant.0.some, c.self.invariant.0.wide)

pub returns-in_err-at-clause-none : goal.returns-in_err-at-clause-none
returns-in_err-at-clause-none c = (
  λ _. no_whole c.self.invariant.0 c.self.invariant.1 c.self.view_is c.args.kind c.number_of-first.ensures.value
      (subst (λ n. HasNoneBetween c.self.inside.wholes.members c.number_of-first.result
      (c.number_of-first.result + n)) c.stride.ensures.value c.in_err-at.ensures.none),
  λ _. ap is_some c.from_residual.ensures,
)

pub returns-clause-least : goal.returns-clause-least
returns-clause-least c =
    found_least c.self.invariant.0 c.self.invariant.1 c.self.view_is c.args.kind c.number_of-first.ensures.value
    (subst (λ n. IsLeastBetween c.self.inside.wholes.members c.number_of-first.result
    (c.number_of-first.result + n) c.in_ok-at.at) c.stride.ensures.value c.in_ok-at.ensures.found)

pub returns-clause-small : goal.returns-clause-small
returns-clause-small c =
    found_small c.self.invariant.0 c.self.invariant.1 c.self.view_is c.args.kind c.number_of-first.ensures.value
    (subst (λ n. IsLeastBetween c.self.inside.wholes.members c.number_of-first.result
    (c.number_of-first.result + n) c.in_ok-at.at) c.stride.ensures.value c.in_ok-at.ensures.found)

pub returns-clause-none : goal.returns-clause-none
returns-clause-none c = (
  λ e. absurd (true≢false e),
  λ none. absurd (none (c.in_ok-at.at - c.number_of-first.result) (returns-clause-least c).whole),
)
