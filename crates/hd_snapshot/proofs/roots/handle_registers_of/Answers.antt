use Rattle.std.proofs.Common.{arith, [], ◌∙◌}
use Rattle.std.proofs.lemmas.List.{length-set}
use Rattle.std.specs.Prelude.{slice_index_or}
use Rattle.hd_seen.specs.declared.TheConstants.{INDEXES}
use Rattle.hd_snapshot.proofs.FilledRows.{index-all, index-more}
use Rattle.hd_snapshot.proofs.roots.handle_registers_of.Goals as goal

pub loop-h-preserved : goal.loop-h-preserved
loop-h-preserved c = record {
  long = length-set c.loop-h.row c.loop-h.h c.handle_register.result ∙ c.loop-h.invariant.long;
  same = index-more c.loop-h.row
      (slice_index_or c.args.store.now.state.handle_registers c.args.caller []) c.loop-h.h
      c.handle_register.result
      (omega (arith, c.loop-h.invariant.long, c.loop-h-test.true)) c.loop-h.invariant.same
      c.handle_register.ensures;
}

pub returns : goal.returns
returns c =
    index-all c.loop-h.row
    (slice_index_or c.args.store.now.state.handle_registers c.args.caller []) INDEXES c.loop-h.h
    c.loop-h.invariant.long
    (c.contents-contents.ensures.sound.well_formed.shape.each_handle_registers c.args.caller c.requires)
    (omega arith)
    c.loop-h.invariant.same
