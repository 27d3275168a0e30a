use Rattle.hd_seg.proofs.Basics.{IsBlocks, None, ap, arith, replicate, subst, sym, use_at, uses_in, ◌+◌, ◌∙◌}
use Rattle.hd_seg.proofs.{ChainLinks.is_table, BlockAdd.blocks-none, BlockAdd.no_use, BlockAdd.view-none}
use Rattle.hd_seg.proofs.UnusedBlocks.{unused_none}
use Rattle.hd_seg.specs.Chains.{ChainLists}
use Rattle.hd_seg.specs.declared.row.BlockKind.TheVariants as block
use Rattle.hd_seg.proofs.blocks.Blocks.open.Goals as goal

-- no block is in use, and no chain has a block
pub invariant_of-result : goal.invariant_of-result
invariant_of-result c = (
  subst (λ xs. IsBlocks c.args.number 0 xs c.in_ok-chains.chains.lists) (sym c.in_ok-table.ensures)
      (subst (λ (s : ChainLists). IsBlocks c.args.number 0
      (replicate (c.args.number + 1) (record { kind = block.Unused; extras = None })) s.lists)
      (sym c.in_ok-chains.ensures) (blocks-none c.args.number c.requires)),
  omega (arith, ap (λ (s : ChainLists). s.room) c.in_ok-chains.ensures),
  unused_none c.args.number c.in_ok-table.table.items c.in_ok-unused.unused
      (λ b. ap (λ xs. use_at xs b) c.in_ok-table.ensures ∙ no_use c.args.number b) c.in_ok-unused.ensures,
)

pub returns-clause-none : goal.returns-clause-none
returns-clause-none c =
    ap (λ xs. uses_in c.args.number xs c.in_ok-chains.chains.lists) c.in_ok-table.ensures
    ∙ ap (λ (s : ChainLists). uses_in c.args.number
    (replicate (c.args.number + 1) (record { kind = block.Unused; extras = None })) s.lists)
    c.in_ok-chains.ensures ∙ view-none c.args.number

pub returns-clause-table : goal.returns-clause-table
returns-clause-table c = is_table (invariant_of-result c).0
