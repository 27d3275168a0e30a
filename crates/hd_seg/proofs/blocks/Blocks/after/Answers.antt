use Rattle.hd_seg.proofs.Basics.{Uses, ap, chain_of, kind_at, kind_number, ◌∙◌}
use Rattle.hd_seg.proofs.ChainLinks.{block_chained}
use Rattle.hd_seg.proofs.blocks.Blocks.after.Goals as goal

pub after-requires : goal.after-requires
after-requires c = block_chained c.self.invariant.0 c.self.view_is c.args.block c.requires

pub returns : goal.returns
returns c before after is =
    let k = kind_at c.args.self.now.table c.args.block in
    c.after.ensures (kind_number k) before after (ap (λ (u : Uses). chain_of u.table k) c.self.view_is ∙ is)
