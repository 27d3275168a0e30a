use Rattle.std.proofs.Common.{arith, ◌∙◌}
use Rattle.std.proofs.lemmas.List.{length-set}
use Rattle.hd_seen.specs.declared.TheConstants.{INDEXES}
use Rattle.hd_snapshot.proofs.FilledRows.{index-all, index-more}
use Rattle.hd_snapshot.proofs.roots.statics.Goals as goal

pub loop-k-preserved : goal.loop-k-preserved
loop-k-preserved c = record {
  long = length-set c.loop-k.row c.loop-k.k c.static_at.result ∙ c.loop-k.invariant.long;
  same = index-more c.loop-k.row c.args.store.now.state.statics c.loop-k.k c.static_at.result
      (omega (arith, c.loop-k.invariant.long, c.loop-k-test.true)) c.loop-k.invariant.same
      c.static_at.ensures;
}

pub returns : goal.returns
returns c =
    index-all c.loop-k.row c.args.store.now.state.statics INDEXES c.loop-k.k c.loop-k.invariant.long
    c.contents-contents.ensures.sound.well_formed.shape.statics (omega arith) c.loop-k.invariant.same
