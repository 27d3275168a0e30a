use Rattle.hd_ages.proofs.Basics.{Option, ap, blocks_from, chain_of, due_clumps, sym, ℕ, ◌∙◌}
use Rattle.hd_ages.proofs.WalkSteps.{from_start}
use Rattle.hd_ages.proofs.YoungestAge.{none_due}
use Rattle.hd_ages.proofs.due_rows.first_due.Goals as goal

pub returns-then-may_be_due-clause-clumps : goal.returns-then-may_be_due-clause-clumps
returns-then-may_be_due-clause-clumps c =
    ap (due_clumps c.args.ages.now c.args.n)
    (ap (λ (o : Option ℕ). blocks_from o (chain_of c.args.seg.now c.args.kind)) c.first.ensures.value
    ∙ from_start (chain_of c.args.seg.now c.args.kind))

pub returns-else-may_be_due-clause-clumps : goal.returns-else-may_be_due-clause-clumps
returns-else-may_be_due-clause-clumps c =
    sym (none_due c.args.seg.now c.given-given.ensures.table c.args.ages.now c.requires c.args.n c.args.kind
    (c.may_be_due.ensures.none c.if-may_be_due.false))
