use Rattle.hd_seg.proofs.Basics.{IsSeg, IsTable, Uses, Vectors, ap, empty, empty_table, subst, sym, table_in, ◌∙◌, ◌≡◌}
use Rattle.hd_seg.proofs.ReadCalls.{bare, seg-none, view-none}
use Rattle.hd_seg.proofs.seg.Seg.open.Goals as goal

pub invariant_of-result : goal.invariant_of-result
invariant_of-result c =
    let table : IsTable (empty_table c.args.blocks) =
    subst (λ (u : Uses). IsTable u.table) c.in_ok-blocks.ensures.none c.in_ok-blocks.ensures.table in
    let opened : Vectors =
    record {
      targets = c.in_ok-targets.targets.items;
      extras = c.in_ok-extras.extras.items;
      masks = c.in_ok-masks.masks.items;
    } in
    let same : bare c.args.blocks ≡ opened =
    λ i. record {
      targets = sym c.in_ok-targets.ensures i;
      extras = sym c.in_ok-extras.ensures i;
      masks = sym c.in_ok-masks.ensures i;
    } in
    subst (λ u. IsSeg u opened 0) (sym c.in_ok-blocks.ensures.none)
    (subst (λ v. IsSeg (record { table = empty_table c.args.blocks; extras = empty }) v 0) same
    (seg-none c.args.blocks table))

pub returns : goal.returns
returns c =
    let opened : Vectors =
    record {
      targets = c.in_ok-targets.targets.items;
      extras = c.in_ok-extras.extras.items;
      masks = c.in_ok-masks.masks.items;
    } in
    let same : opened ≡ bare c.args.blocks =
    λ i. record {
      targets = c.in_ok-targets.ensures i;
      extras = c.in_ok-extras.ensures i;
      masks = c.in_ok-masks.ensures i;
    } in
    ap (λ u. table_in u opened) c.in_ok-blocks.ensures.none
    ∙ ap (table_in (record { table = empty_table c.args.blocks; extras = empty })) same
    ∙ view-none c.args.blocks
