use Rattle.hd_seg.proofs.Basics.{Block, Uses, [], ap, arith, block_kind_of, get, get_or_read, length, sym, use_at, ◌<◌, ◌∙◌, ◌∷◌, ◌≤◌}
use Rattle.hd_seg.proofs.ChainLinks.{use_is, kind-use_of}
use Rattle.hd_seg.proofs.blocks.Blocks.kind.Goals as goal

pub returns : goal.returns
returns c =
    let high : c.args.block ≤ c.self.inside.number =
    omega (arith, c.requires.high, ap (λ (u : Uses). u.table.blocks) c.self.view_is) in
    let inside : c.args.block < length c.self.inside.table.items = omega (arith, c.self.invariant.0.size) in
    sym (kind-use_of c.index.result.now.kind) ∙ ap (λ (b : Block). block_kind_of (use_at (b ∷ []) 0))
    (get_or_read c.self.inside.table.items c.args.block c.index.result.now inside c.index.ensures _)
    ∙ ap block_kind_of (sym
    (use_is c.self.invariant.0 c.args.block c.requires.low high))
    ∙ ap (λ (u : Uses). block_kind_of (get u.table.uses c.args.block)) c.self.view_is
