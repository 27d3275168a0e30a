use Rattle.hd_pool.proofs.Basics.{HasAllOf, IsLeastFreeFor, IsTrue, ap, arith, is_some, refl, remove, subst, sym, true≢false, ℕ, ◌↔◌, ◌∙◌}
use Rattle.hd_pool.proofs.PoolCalls.{in_some, same_stride, seen_taken, take_index, take_kind, take_least, take_none, take_ready, take_room, take_some}
use Rattle.hd_pool.proofs.WholeBlocks.{taken_where, wholes_along}
use Rattle.hd_pool.proofs.pool.Pool.take.Goals as goal

pub returns-in_err-at-clause-none : goal.returns-in_err-at-clause-none
returns-in_err-at-clause-none c = (
  λ _. take_none c.self.invariant.0 c.self.view_is c.args.kind c.number_of-first.ensures.value
      c.in_err-at.ensures.none,
  λ _. ap is_some c.from_residual.ensures,
)

pub number_of-first-requires : goal.number_of-first-requires
number_of-first-requires c = omega (arith, c.self.invariant.0.some, c.self.invariant.0.wide)

pub least-requires : goal.least-requires
least-requires c = c.number_of-first.ensures.value

pub take_least-requires : goal.take_least-requires
take_least-requires c =
    take_room c.self.invariant.0 c.self.view_is c.args.kind c.number_of-first.ensures.value c.in_ok-at.ensures.found

pub unwrap-taken-requires : goal.unwrap-taken-requires
unwrap-taken-requires c =
    take_some c.self.invariant.0 c.self.view_is c.args.kind c.number_of-first.ensures.value c.in_ok-at.ensures.found
    c.take_least.result c.take_least.ensures.none

pub remove_where-requires : goal.remove_where-requires
remove_where-requires c =
    omega (arith, c.in_ok-at.ensures.found.high, c.self.invariant.1.room, c.number_of-first.ensures.below)

pub remove_where-requires-2 : goal.remove_where-requires-2
remove_where-requires-2 c =
    let found = c.in_ok-at.ensures.found in
    let start_is = c.number_of-first.ensures.value in (
      omega (arith, found.high, c.self.invariant.0.ready_room, c.number_of-first.ensures.below),
      omega (arith, found.low, start_is),
      omega (arith, found.high, start_is),
    )

pub invariant_of-self : goal.invariant_of-self
invariant_of-self c =
    let free = c.self.inside.free in
    let taken = c.unwrap-taken.result in
    let start_is = c.number_of-first.ensures.value in
    let found = c.in_ok-at.ensures.found in
    let least = in_some _ c.unwrap-taken.ensures c.take_least.ensures.least in
    let after = in_some _ c.unwrap-taken.ensures c.take_least.ensures.taken in (
      take_ready c.self.invariant.0 c.self.view_is c.args.kind start_is found least after _ taken.last
          (in_some _ c.unwrap-taken.ensures c.take_least.ensures.last)
          (in_some _ c.unwrap-taken.ensures c.take_least.ensures.left)
          c.remove_where-2.ensures.removed c.remove_where-2.ensures.kept,
      wholes_along after
          (same_stride taken.last c.remove_where-2.ensures.removed c.remove_where-2.ensures.kept refl) refl
          (taken_where c.self.invariant.0 c.self.invariant.1 taken.number
          (take_kind c.self.invariant.0 c.self.view_is c.args.kind start_is found least) _ _
          (take_index c.self.invariant.0 c.self.view_is c.args.kind start_is found least) taken.full
          (subst (λ b. IsTrue taken.full ↔ HasAllOf free.members b) (sym least.of_block)
          (in_some _ c.unwrap-taken.ensures c.take_least.ensures.full))
          c.remove_where.ensures.removed c.remove_where.ensures.kept),
    )

pub returns-clause-least : goal.returns-clause-least
returns-clause-least c =
    subst (λ (n : ℕ). IsLeastFreeFor c.args.self.now c.args.kind (record { 0 = n })) (omega arith)
    (take_least c.self.invariant.0 c.self.view_is c.args.kind c.number_of-first.ensures.value
    c.in_ok-at.ensures.found (in_some _ c.unwrap-taken.ensures c.take_least.ensures.least))

pub returns-clause-taken : goal.returns-clause-taken
returns-clause-taken c =
    let old = c.args.self.now in
    seen_taken c.self.invariant.0 c.self.view_is c.args.kind c.number_of-first.ensures.value
    c.in_ok-at.ensures.found (in_some _ c.unwrap-taken.ensures c.take_least.ensures.least)
    (in_some _ c.unwrap-taken.ensures c.take_least.ensures.taken)
    ∙ ap (λ n. record old { free = remove old.free n }) (omega arith)

pub returns-clause-none : goal.returns-clause-none
returns-clause-none c =
    let least = returns-clause-least c in
    (λ e. absurd (true≢false e), λ none. absurd (none (record { 0 = c.unwrap-taken.result.number }) least.free))
