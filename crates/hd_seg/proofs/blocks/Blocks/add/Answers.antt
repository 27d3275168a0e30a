use Rattle.hd_seg.proofs.Basics.{IsBlocks, None, Uses, ap, arith, get, has_handles, set, subst, sym, uses_in, ◌+◌, ◌∙◌}
use Rattle.hd_seg.proofs.ChainLinks.{is_table, few_of, one_left, chain_short, extras_is}
use Rattle.hd_seg.proofs.BlockAdd.{blocks-add, in_none, unused-add, view-add, least_is}
use Rattle.hd_seg.proofs.UnusedBlocks.{all_used, fits, has_from, inside, is_unused}
use Rattle.hd_seg.specs.Chains.{ChainLists}
use Rattle.hd_seg.specs.declared.row.BlockKind.TheVariants as block
use Rattle.hd_seg.proofs.blocks.Blocks.add.Goals as goal

pub take_from-block-requires-clause-some : goal.take_from-block-requires-clause-some
take_from-block-requires-clause-some c =
    has_from c.self.invariant.0 c.self.invariant.2 (omega arith)
    (one_left c.self.invariant.0 (few_of _ c.self.view_is c.requires))

pub take_from-block-requires-clause-within : goal.take_from-block-requires-clause-within
take_from-block-requires-clause-within c = fits c.self.invariant.0 c.self.invariant.2

pub push-requires-clause-within : goal.push-requires-clause-within
push-requires-clause-within c =
    let low = inside c.self.invariant.0 c.self.invariant.2 c.take_from-block.ensures.least in
    omega (arith, low, c.self.invariant.0.size, c.self.invariant.1)

pub push-requires-clause-few : goal.push-requires-clause-few
push-requires-clause-few c =
    let few = few_of _ c.self.view_is c.requires in
    omega (
      arith,
      chain_short c.self.invariant.0 c.args.kind,
      few,
      c.self.invariant.0.counted,
      c.self.invariant.1,
    )

pub push-requires-clause-new : goal.push-requires-clause-new
push-requires-clause-new c =
    let inv = c.self.invariant.0 in
    let found = c.take_from-block.ensures.least in
    in_none inv c.args.kind c.take_from-block.result found.low (inside inv c.self.invariant.2 found)
    (is_unused inv c.self.invariant.2 found)

pub index_mut-requires : goal.index_mut-requires
index_mut-requires c =
    let low = inside c.self.invariant.0 c.self.invariant.2 c.take_from-block.ensures.least in
    omega (arith, low, c.self.inside.table.ok.0)

pub invariant_of-self : goal.invariant_of-self
invariant_of-self c =
    let inv = c.self.invariant.0 in
    let found = c.take_from-block.ensures.least in
    let within = inside inv c.self.invariant.2 found in
    let unused = is_unused inv c.self.invariant.2 found in (
      subst (λ (s : ChainLists). IsBlocks c.self.inside.number (c.self.inside.given + 1)
          (set c.self.inside.table.items c.take_from-block.result
          (record { kind = block.Rows c.args.kind; extras = None })) s.lists)
          (sym c.push.ensures)
          (blocks-add inv c.args.kind c.take_from-block.result found.low within unused),
      omega (arith, c.self.invariant.1, ap (λ (s : ChainLists). s.room) c.push.ensures),
      unused-add inv c.args.kind c.take_from-block.result found.low within unused c.self.invariant.2
          c.take_from-block.ensures.taken,
    )

pub returns-clause-least : goal.returns-clause-least
returns-clause-least c =
    let inv = c.self.invariant.0 in
    let found = c.take_from-block.ensures.least in
    least_is inv c.self.view_is 1 c.take_from-block.result (omega arith) found.low
    (inside inv c.self.invariant.2 found) (is_unused inv c.self.invariant.2 found)
    (all_used inv c.self.invariant.2 found (omega arith))

pub returns-clause-plain : goal.returns-clause-plain
returns-clause-plain c =
    let inv = c.self.invariant.0 in
    let found = c.take_from-block.ensures.least in
    sym (ap (λ (u : Uses). get u.extras c.take_from-block.result) c.self.view_is)
    ∙ extras_is inv c.take_from-block.result found.low
    (omega (arith, inside inv c.self.invariant.2 found, inv.size))
    ∙ inv.plain c.take_from-block.result (ap has_handles (is_unused inv c.self.invariant.2 found))

pub returns-clause-after : goal.returns-clause-after
returns-clause-after c =
    let inv = c.self.invariant.0 in
    let found = c.take_from-block.ensures.least in
    ap (λ (s : ChainLists). uses_in c.self.inside.number
    (set c.self.inside.table.items c.take_from-block.result
    (record { kind = block.Rows c.args.kind; extras = None })) s.lists) c.push.ensures
    ∙ view-add inv c.args.kind c.take_from-block.result found.low (inside inv c.self.invariant.2 found)
    (is_unused inv c.self.invariant.2 found) c.self.view_is

pub returns-clause-table : goal.returns-clause-table
returns-clause-table c = is_table (invariant_of-self c).0
