use Rattle.std.proofs.Common.{ap, arith, not, ◌∙◌}
use Rattle.hd_maps.proofs.TableCalls.{is_unused, used_more}
use Rattle.hd_maps.proofs.table.Table.least_unused.Goals as goal

pub returns-then-is_none-clause-found : goal.returns-then-is_none-clause-found
returns-then-is_none-clause-found c = record {
  unused = is_unused c.args.self.now c.loop-block.block c.use_of.result c.use_of.ensures c.if-is_none.ensures;
  low = c.loop-block.auto.block;
  high = omega (arith, c.loop-block-test.true, c.blocks-block-end.ensures.value);
  least = c.loop-block.invariant;
}

pub loop-block-preserved : goal.loop-block-preserved
loop-block-preserved c =
    used_more c.args.self.now c.loop-block.block c.use_of.result c.use_of.ensures c.args.from
    (c.is_none.ensures ∙ ap not c.if-is_none.false) c.loop-block.invariant
