use Rattle.std.proofs.Common.{sym, ◌∙◌}
use Rattle.hd_view.proofs.CauseFacts.{line_wrong, no_rest, on_line}
use Rattle.hd_view.proofs.cause.cause_of.Goals as goal

pub first_cause-requires-clause-wrong : goal.first_cause-requires-clause-wrong
first_cause-requires-clause-wrong c =
    line_wrong c.args.before.now c.rest-rest.result.now c.cut_line.result.0.now c.cut_line.result.1.now
    c.rest-rest.ensures c.cut_line.ensures.lines c.requires.wrong

pub returns : goal.returns
returns c =
    on_line c.args.before.now c.rest-rest.result.now c.cut_line.result.0.now c.cut_line.result.1.now
    c.first_cause.result c.rest-rest.ensures c.cut_line.ensures.lines c.first_cause.ensures

pub returns-then-is_empty : goal.returns-then-is_empty
returns-then-is_empty c =
    no_rest c.args.before.now c.rest-rest.result.now c.rest-rest.ensures
    (sym c.is_empty.ensures ∙ c.if-is_empty.true)
