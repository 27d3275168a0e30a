use Rattle.hd_store.proofs.StoreWords.{arith}
use Rattle.hd_store.proofs.SpareBlocks.{all_released, next_idle, none_released, one_released}
use Rattle.hd_store.proofs.contents.Contents.release_slots.Goals as goal

pub loop-row-init : goal.loop-row-init
loop-row-init c = none_released c.args.self.now c.args.block

pub release-requires : goal.release-requires
release-requires c = next_idle c.loop-row.invariant c.requires.vacant (omega arith)

pub loop-row-preserved : goal.loop-row-preserved
loop-row-preserved c = one_released c.loop-row.invariant c.release.ensures

pub returns : goal.returns
returns c = all_released c.loop-row.invariant (omega (arith, c.loop-row-test.false, c.loop-row.auto.row-end))
