use Rattle.std.proofs.Common.{[], arith, refl}
use Rattle.hd_audit.proofs.LinesBefore.{all_behind, ended_behind, rest_ended, some_rest, taken}
use Rattle.hd_audit.proofs.before.state_after.Goals as goal

pub lines-init : goal.lines-init
lines-init c = (
  record {
    lines = [];
    along = c.in_ok-judged.ensures.none;
    numbers = c.in_ok-judged.ensures.numbers;
    count_is = refl;
    cut = refl;
  },
  omega arith,
)

pub cut_line-requires : goal.cut_line-requires
cut_line-requires c =
    some_rest c.args.count _ c.lines.invariant.0 (omega arith) c.requires.within

pub take_line-requires-clause-along : goal.take_line-requires-clause-along
take_line-requires-clause-along c = (c.lines.invariant.0.lines, c.lines.invariant.0.along)

pub lines-preserved : goal.lines-preserved
lines-preserved c = (
  taken c.args.count c.lines.invariant.0 (omega arith) c.requires.right c.cut_line.result.0.now
      c.cut_line.result.1.now c.cut_line.ensures.lines c.take_line.new.self _ c.in_ok-take_line.ensures,
  omega arith,
)

pub cut_line-requires-2 : goal.cut_line-requires-2
cut_line-requires-2 c =
    some_rest c.args.count _ c.lines.invariant.0
    (omega (arith, c.lines.invariant.1, c.if-number-count.false)) c.requires.within

pub invariant_of-result : goal.invariant_of-result
invariant_of-result c = (c.lines.invariant.0.lines, c.lines.invariant.0.along)

pub returns-then-number-count-clause-known : goal.returns-then-number-count-clause-known
returns-then-number-count-clause-known c =
    all_behind c.args.count c.lines.invariant.0 (omega (arith, c.if-number-count.true))

pub returns-clause-known : goal.returns-clause-known
returns-clause-known c =
    let less = c.if-number-count.false in
    ended_behind c.args.count c.lines.invariant.0 (omega (arith, c.lines.invariant.1, less)) c.requires.right
    c.cut_line-2.result.0.now c.cut_line-2.result.1.now c.cut_line-2.ensures.lines
    (omega (arith, c.lines.invariant.1, less)) c.requires.within

pub returns-clause-rest : goal.returns-clause-rest
returns-clause-rest c =
    let less = c.if-number-count.false in
    rest_ended c.args.count c.lines.invariant.0 (omega (arith, c.lines.invariant.1, less)) c.requires.right
    c.cut_line-2.result.0.now c.cut_line-2.result.1.now c.cut_line-2.ensures.lines
    (omega (arith, c.lines.invariant.1, less)) c.requires.within
