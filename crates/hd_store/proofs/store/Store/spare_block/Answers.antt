use Rattle.hd_store.proofs.SoundCalls.{has-handles}
use Rattle.hd_store.proofs.store.Store.spare_block.Goals as goal

pub spare_block-requires-clause-handles : goal.spare_block-requires-clause-handles
spare_block-requires-clause-handles c = has-handles c.self.inside.contents c.self.invariant

pub spare_block-requires-clause-few : goal.spare_block-requires-clause-few
spare_block-requires-clause-few c = c.self.invariant.limits.blocks.1
