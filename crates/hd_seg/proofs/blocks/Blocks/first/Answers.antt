use Rattle.hd_seg.proofs.Basics.{Uses, ap, chain_of, slice_get, ◌∙◌}
use Rattle.hd_seg.proofs.blocks.Blocks.first.Goals as goal

pub returns : goal.returns
returns c = c.first.ensures
    ∙ ap (λ (u : Uses). slice_get (chain_of u.table c.args.kind) 0) c.self.view_is
