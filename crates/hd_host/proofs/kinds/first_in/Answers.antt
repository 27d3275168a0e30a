use Rattle.std.proofs.Common.{sym, ◌∙◌}
use Rattle.std.proofs.lemmas.Bool.{false≢true}
use Rattle.hd_host.proofs.HandleKinds.{few-block, next-in-rows, none-in-rows, none-of-kind, none-unused}
use Rattle.hd_host.proofs.kinds.first_in.Goals as goal

pub returns-in_default : goal.returns-in_default
returns-in_default c =
    none-unused c.requires.sound c.args.kinds c.args.cleared c.args.block c.args.first c.requires.first
    (sym c.in_default.is ∙ c.kind_in.ensures)

pub returns-then-not-is_one_of : goal.returns-then-not-is_one_of
returns-then-not-is_one_of c =
    none-of-kind c.requires.sound c.args.kinds c.args.cleared c.args.block c.args.first c.requires.first c.in-Some.kind
    c.in-Some.ensures (λ one. false≢true (sym c.if-not-is_one_of.true ∙ c.is_one_of.ensures.1 one))

pub first_row-requires-clause-few : goal.first_row-requires-clause-few
first_row-requires-clause-few c = few-block c.requires.sound c.args.block c.in-Some.kind c.in-Some.ensures

pub returns-in-Some-first_row : goal.returns-in-Some-first_row
returns-in-Some-first_row c =
    next-in-rows c.requires.sound c.args.kinds c.args.cleared c.args.block c.args.first c.requires.first c.in-Some.kind
    c.in-Some.ensures c.in-Some-first_row.row c.in-Some-first_row.ensures
    (c.is_one_of.ensures.0 c.if-not-is_one_of.false)

pub returns-in-None : goal.returns-in-None
returns-in-None c =
    none-in-rows c.requires.sound c.args.kinds c.args.cleared c.args.block c.args.first c.requires.first c.in-Some.kind
    c.in-Some.ensures c.in-None.ensures
