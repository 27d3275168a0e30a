use Rattle.hd_pool.proofs.Basics.{IfNone, IfSome, HasNoneBetween, IsLeastBetween, IsLeastOrEnd, arith, get_or, get_or_default_zero, length, subst, sym, ◌<◌, ◌∙◌, ◌≡◌}
use Rattle.hd_pool.proofs.LeastByKind.{least_nothing, least_some, seen_end, seen_least}
use Rattle.hd_pool.proofs.ready.Ready.least.Goals as goal

pub number_by-end-requires-clause-few : goal.number_by-end-requires-clause-few
number_by-end-requires-clause-few c = c.self.invariant.limit

pub index-at-requires : goal.index-at-requires
index-at-requires c =
    omega (arith, c.self.invariant.many, c.number-group.ensures.small, c.self.inside.least.ok.0)

pub returns-clause-found : goal.returns-clause-found
returns-clause-found c =
    let first = c.args.first in
    let seen = c.args.self.now in
    let items = c.self.inside.least.items in
    let group = c.number-group.result in
    let at = c.index-at.result.now in
    let within : group < length items = omega (arith, c.self.invariant.many, c.number-group.ensures.small) in
    let read : at ≡ get_or items group 0 = c.index-at.ensures ∙ get_or_default_zero items group at within in
    let end_is = seen_end c.self.invariant c.self.view_is c.args.kind c.requires c.number_by-end.ensures.value in
    let is : IsLeastOrEnd seen.members first c.number_by-end.result at =
    subst (λ n. IsLeastOrEnd seen.members first n at) (sym end_is)
    (seen_least c.self.invariant c.self.view_is c.args.kind c.requires c.number-group.ensures.value
    c.number-group.ensures.small read) in
    subst (λ n. IfSome c.below.result (IsLeastBetween seen.members first n)) end_is
    (least_some is c.below.result c.below.ensures.some)

pub returns-clause-none : goal.returns-clause-none
returns-clause-none c =
    let first = c.args.first in
    let seen = c.args.self.now in
    let items = c.self.inside.least.items in
    let group = c.number-group.result in
    let at = c.index-at.result.now in
    let within : group < length items = omega (arith, c.self.invariant.many, c.number-group.ensures.small) in
    let read : at ≡ get_or items group 0 = c.index-at.ensures ∙ get_or_default_zero items group at within in
    let end_is = seen_end c.self.invariant c.self.view_is c.args.kind c.requires c.number_by-end.ensures.value in
    let is : IsLeastOrEnd seen.members first c.number_by-end.result at =
    subst (λ n. IsLeastOrEnd seen.members first n at) (sym end_is)
    (seen_least c.self.invariant c.self.view_is c.args.kind c.requires c.number-group.ensures.value
    c.number-group.ensures.small read) in
    subst (λ n. IfNone c.below.result (HasNoneBetween seen.members first n)) end_is
    (least_nothing is c.below.result c.below.ensures.none)
