use Rattle.std.proofs.Common.{arith, [], ◌∙◌}
use Rattle.std.proofs.lemmas.List.{length-set}
use Rattle.std.specs.Prelude.{slice_index_or}
use Rattle.hd_seen.specs.declared.TheConstants.{INDEXES}
use Rattle.hd_snapshot.proofs.FilledRows.{index-all, index-more}
use Rattle.hd_snapshot.proofs.roots.registers_of.Goals as goal

pub loop-d-preserved : goal.loop-d-preserved
loop-d-preserved c = record {
  long = length-set c.loop-d.row c.loop-d.d c.register.result ∙ c.loop-d.invariant.long;
  same = index-more c.loop-d.row (slice_index_or c.args.store.now.state.registers c.args.caller []) c.loop-d.d
      c.register.result (omega (arith, c.loop-d.invariant.long, c.loop-d-test.true)) c.loop-d.invariant.same
      c.register.ensures;
}

pub returns : goal.returns
returns c =
    index-all c.loop-d.row
    (slice_index_or c.args.store.now.state.registers c.args.caller []) INDEXES c.loop-d.d
    c.loop-d.invariant.long
    (c.contents-contents.ensures.sound.well_formed.shape.each_registers c.args.caller c.requires) (omega arith)
    c.loop-d.invariant.same
