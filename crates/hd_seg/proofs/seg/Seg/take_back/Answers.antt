use Rattle.hd_seg.proofs.Basics.{IsSeg, IsTable, None, ROWS, Some, Table, Uses, ap, get, handles_of, is_single, kind_at, row_in, subst, sym, table_in, without_block, ℕ, ◌/◌, ◌∙◌, ◌≡◌}
use Rattle.hd_seg.proofs.RowVectors.{row_is}
use Rattle.hd_seg.proofs.BlockChange.{back-seg, back-view, single_in}
use Rattle.hd_seg.proofs.SegVectors.{vectors}
use Rattle.hd_seg.proofs.seg.Seg.take_back.Goals.{After-remove}
use Rattle.hd_seg.proofs.seg.Seg.take_back.Goals as goal

-- the block has handles of a kind, and no live row
in_use : (c : After-remove) → get c.self.inside.blocks.table.uses c.args.block
    ≡ Some (handles_of (kind_at c.self.inside.blocks.table c.args.block))
in_use c = (single_in (get c.self.inside.blocks.table.uses c.args.block)
    (ap (λ (t : Table). is_single (get t.uses c.args.block)) c.self.view_is ∙ c.requires.single)).0

vacant : (c : After-remove) (q : ℕ) → q / ROWS ≡ c.args.block
    → row_in c.self.inside.blocks (vectors c.self.inside) q ≡ None
vacant c q is = sym (row_is c.self.invariant q) ∙ ap (λ (t : Table). get t.rows q) c.self.view_is
    ∙ c.requires.vacant q is

pub invariant_of-self : goal.invariant_of-self
invariant_of-self c =
    subst (λ u. IsSeg u (vectors c.self.inside) c.self.inside.live)
    (sym c.remove.ensures.after)
    (back-seg c.self.invariant c.args.block (kind_at c.self.inside.blocks.table c.args.block) (in_use c)
    (vacant c)
    (subst (λ (u : Uses). IsTable u.table) c.remove.ensures.after c.remove.ensures.table))

pub returns : goal.returns
returns c =
    ap (λ u. table_in u (vectors c.self.inside)) c.remove.ensures.after
    ∙ back-view c.self.invariant c.args.block (kind_at c.self.inside.blocks.table c.args.block) (in_use c)
    (vacant c) c.self.view_is ∙ ap (λ k. without_block c.args.self.now k c.args.block)
    (ap (λ (t : Table). kind_at t c.args.block) c.self.view_is)
