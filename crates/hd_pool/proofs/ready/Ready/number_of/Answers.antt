use Rattle.hd_pool.proofs.Basics.{KINDS, KindBlocks, ap, arith, index_of, subst, ◌*◌, ◌+◌, ◌∙◌, ◌≤◌}
use Rattle.hd_pool.proofs.ready.Ready.number_of.Goals as goal

pub number_by-requires-clause-few : goal.number_by-requires-clause-few
number_by-requires-clause-few c = c.self.invariant.limit

pub number_by-requires-clause-within : goal.number_by-requires-clause-within
number_by-requires-clause-within c = omega (arith, c.requires, ap (λ (r : KindBlocks). r.stride) c.self.view_is)

pub returns-clause-value : goal.returns-clause-value
returns-clause-value c =
    c.number_by.ensures.value ∙ ap (λ (r : KindBlocks). index_of r.stride c.args.kind c.args.block) c.self.view_is

pub returns-clause-below : goal.returns-clause-below
returns-clause-below c =
    subst (λ (r : KindBlocks). c.number_by.result + r.stride ≤ KINDS * r.stride + c.args.block) c.self.view_is
    c.number_by.ensures.below
