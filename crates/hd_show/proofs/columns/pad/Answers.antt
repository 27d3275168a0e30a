use Rattle.std.proofs.Common.{[], ap, arith, length, length-append, ◌∙◌, ◌∷◌}
use Rattle.hd_show.proofs.Blanks.{blanks_none, blanks_more, blanks_all}
use Rattle.hd_show.proofs.columns.pad.Goals as goal

pub loop-init : goal.loop-init
loop-init c = record {
  blanks = blanks_none c.args.line.now _ (omega arith);
  long = omega arith;
  low = omega arith;
  high = omega arith;
}

pub loop-preserved : goal.loop-preserved
loop-preserved c = record {
  blanks = c.push_str.ensures
      ∙ blanks_more c.args.line.now c.loop.line c.loop.counter c.loop.invariant.low c.loop.invariant.blanks;
  long = omega (arith, ap length c.push_str.ensures, length-append c.loop.line (32 ∷ []));
  low = omega arith;
  high = omega arith;
}

pub returns-clause-blanks : goal.returns-clause-blanks
returns-clause-blanks c =
    blanks_all c.args.line.now c.loop.line c.loop.counter c.args.column c.loop.invariant.blanks (omega arith)
    c.loop.invariant.high c.loop.invariant.low
