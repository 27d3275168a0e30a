use Rattle.hd_seg.proofs.Basics.{IsBlocks, None, ap, arith, kind_at, kind_number, set, subst, sym, uses_in, ◌-◌, ◌∙◌}
use Rattle.hd_seg.proofs.ChainLinks.{block_chained, is_table, its_chain}
use Rattle.hd_seg.proofs.BlockRemove.{blocks-gone, inside, its_high, some_given, unused-gone, view-gone}
use Rattle.std.specs.FinSet.{insert}
use Rattle.hd_seg.specs.Chains.{ChainLists}
use Rattle.hd_seg.specs.declared.row.BlockKind.TheVariants as block
use Rattle.hd_seg.proofs.blocks.Blocks.remove.Goals as goal

pub index_mut-requires : goal.index_mut-requires
index_mut-requires c =
    let known = inside c.self.invariant.0 c.self.view_is c.args.block c.requires.handles c.requires.plain in
    omega (arith, known, c.self.inside.table.ok.0)

pub remove-requires : goal.remove-requires
remove-requires c = block_chained c.self.invariant.0 c.self.view_is c.args.block c.requires.handles

pub overflow_sub-self : goal.overflow_sub-self
overflow_sub-self c =
    some_given c.self.invariant.0 c.self.view_is c.args.block c.requires.handles c.requires.plain

pub insert-requires : goal.insert-requires
insert-requires c =
    let high = its_high c.self.invariant.0 c.self.view_is c.args.block c.requires.handles c.requires.plain in
    omega (arith, high, c.self.invariant.2.room)

pub invariant_of-self : goal.invariant_of-self
invariant_of-self c =
    let k = kind_number (kind_at c.args.self.now.table c.args.block) in
    let removed = c.remove.ensures k
    (its_chain c.self.invariant.0 c.self.view_is c.args.block c.requires.handles) in (
      subst (λ (s : ChainLists). IsBlocks c.self.inside.number (c.self.inside.given - 1)
          (set c.self.inside.table.items c.args.block (record { kind = block.Unused; extras = None })) s.lists)
          (sym removed)
          (blocks-gone c.self.invariant.0 c.self.view_is c.args.block c.requires.handles c.requires.plain),
      omega (arith, c.self.invariant.1, ap (λ (s : ChainLists). s.room) removed),
      unused-gone c.self.invariant.0 c.self.view_is c.args.block c.requires.handles c.requires.plain
          c.self.invariant.2
          (c.insert.ensures
          ∙ ap (λ n. record c.self.inside.unused { members = insert c.self.inside.unused.members n })
          (omega arith)),
    )

pub returns-clause-after : goal.returns-clause-after
returns-clause-after c =
    let k = kind_number (kind_at c.args.self.now.table c.args.block) in
    ap (λ (s : ChainLists). uses_in c.self.inside.number
    (set c.self.inside.table.items c.args.block (record { kind = block.Unused; extras = None })) s.lists)
    (c.remove.ensures k (its_chain c.self.invariant.0 c.self.view_is c.args.block c.requires.handles))
    ∙ view-gone c.self.invariant.0 c.self.view_is c.args.block c.requires.handles c.requires.plain

pub returns-clause-table : goal.returns-clause-table
returns-clause-table c = is_table (invariant_of-self c).0
