use Rattle.hd_pool.proofs.Basics.{FinSet, KindBlocks, NumberSet, ap, cond, contains, insert, nat_cmp, sym, ◌∙◌}
use Rattle.hd_pool.specs.Inside.{with_block}
use Rattle.hd_pool.proofs.MovedLists.{by_wanted}
use Rattle.hd_pool.proofs.pool.move_block.Goals as goal

pub returns-clause-ready : goal.returns-clause-ready
returns-clause-ready c =
    let ready : KindBlocks = c.args.ready.now in
    let after : KindBlocks = c.args.after.now in
    let with : FinSet nat_cmp → KindBlocks = λ m. record after { members = m } in
    let wanted = c.contains.ensures ∙ ap (contains ready.members) c.number_of-from.ensures.value in
    by_wanted with c.contains.result c.insert_where.ensures.added c.insert_where.ensures.kept
    ∙ (λ i. with (cond (wanted i) (insert after.members (c.number_of-to.ensures.value i)) after.members))
    ∙ ap (λ o. with (with_block ready.stride after.stride o c.args.block ready.members after.members))
    (sym c.in-Some.is)

pub returns-clause-wholes : goal.returns-clause-wholes
returns-clause-wholes c =
    let from = c.args.ready.now.stride in
    let to = c.args.after.now.stride in
    let old : FinSet nat_cmp = c.args.wholes.now.members in
    let whole : NumberSet = c.args.whole.now in
    let with : FinSet nat_cmp → NumberSet = λ m. record whole { members = m } in
    let wanted = c.contains-2.ensures ∙ ap (contains old) c.number_of-from.ensures.value in
    by_wanted with c.contains-2.result c.insert_where-2.ensures.added c.insert_where-2.ensures.kept
    ∙ (λ i. with (cond (wanted i) (insert whole.members (c.number_of-to.ensures.value i)) whole.members))
    ∙ ap (λ o. with (with_block from to o c.args.block old whole.members)) (sym c.in-Some.is)
