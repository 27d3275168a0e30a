use Rattle.hd_seg.proofs.Basics.{◌∙◌}
use Rattle.hd_seg.proofs.ChainRings.{first_seen}
use Rattle.hd_seg.proofs.chains.Chains.first.Goals as goal

pub returns : goal.returns
returns c =
    c.block_in.ensures
    ∙ first_seen c.self.invariant c.self.view_is c.args.kind c.number.ensures.value c.index.result.now
    c.index.ensures
