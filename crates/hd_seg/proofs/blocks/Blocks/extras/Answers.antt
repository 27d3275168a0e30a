use Rattle.hd_seg.proofs.Basics.{Block, Uses, ap, arith, get, get_or_read, sym, ◌∙◌, ◌≤◌}
use Rattle.hd_seg.proofs.ChainLinks.{extras_is}
use Rattle.hd_seg.proofs.blocks.Blocks.extras.Goals.{After-index}
use Rattle.hd_seg.proofs.blocks.Blocks.extras.Goals as goal

pub index-requires : goal.index-requires
index-requires c =
    omega (arith, c.requires.high, ap (λ (u : Uses). u.table.blocks) c.self.view_is, c.self.invariant.0.size)

pub returns : goal.returns
returns c =
    let few : c.args.block ≤ c.self.inside.number =
    omega (arith, c.requires.high, ap (λ (u : Uses). u.table.blocks) c.self.view_is) in
    record {
      value =
          ap (λ (b : Block). b.extras)
          (get_or_read c.self.inside.table.items c.args.block c.index.result.now
          (omega (arith, few, c.self.invariant.0.size)) c.index.ensures _)
          ∙ sym (extras_is c.self.invariant.0 c.args.block c.requires.low few)
          ∙ ap (λ (u : Uses). get u.extras c.args.block) c.self.view_is;
    }
