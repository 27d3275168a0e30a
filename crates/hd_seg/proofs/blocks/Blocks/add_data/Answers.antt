use Rattle.hd_seg.proofs.Basics.{Block, List, Some, Uses, ap, arith, block_at, get, get_or_read, has_handles, length, length-set, set, sym, true, use_at, ◌+◌, ◌<◌, ◌∙◌, ◌≡◌, ◌≤◌}
use Rattle.hd_seg.proofs.ChainLinks.{is_table, few_of, one_left, use_is}
use Rattle.hd_seg.proofs.BlockAdd.{blocks-with_data, unused-with_data, view-with_data, least_is}
use Rattle.hd_seg.proofs.UnusedBlocks.{all_used, fits, has_from, inside, is_unused, unused_after}
use Rattle.hd_seg.proofs.blocks.Blocks.add_data.Goals.{After-self-3-1}
use Rattle.hd_seg.proofs.blocks.Blocks.add_data.Goals as goal

pub overflow_add-block : goal.overflow_add-block
overflow_add-block c =
    omega (arith, c.requires.high, ap (λ (u : Uses). u.table.blocks) c.self.view_is, c.self.invariant.0.limit)

pub take_from-data-requires-clause-some : goal.take_from-data-requires-clause-some
take_from-data-requires-clause-some c =
    has_from c.self.invariant.0 c.self.invariant.2 (omega arith)
    (unused_after c.self.invariant.0 c.self.view_is c.requires.high c.requires.used
    (one_left c.self.invariant.0 (few_of _ c.self.view_is c.requires.room)))

pub take_from-data-requires-clause-within : goal.take_from-data-requires-clause-within
take_from-data-requires-clause-within c = fits c.self.invariant.0 c.self.invariant.2

-- the block that was found
within : (c : After-self-3-1) → c.take_from-data.result < length c.self.inside.table.items
within c = inside c.self.invariant.0 c.self.invariant.2 c.take_from-data.ensures.least

of_is : (c : After-self-3-1) → c.index_mut-of.result.now ≡ block_at c.self.inside.table.items c.args.block
of_is c = get_or_read c.self.inside.table.items c.args.block c.index_mut-of.result.now
    (omega (arith, within c, c.take_from-data.ensures.least.low)) c.index_mut-of.ensures.value _

-- the block of handles with its data block
abbrev with_data_block : After-self-3-1 → Block
with_data_block c = record c.index_mut-of.result.now { extras = Some c.take_from-data.result }

at_is : (c : After-self-3-1) → c.index_mut-extras.result.now
    ≡ block_at (set c.self.inside.table.items c.args.block (with_data_block c)) c.take_from-data.result
at_is c =
    let first : List Block = set c.self.inside.table.items c.args.block (with_data_block c) in
    let lt : c.take_from-data.result < length first =
    (let known = length-set c.self.inside.table.items c.args.block (with_data_block c) in
    omega (arith, within c, known)) in
    get_or_read first c.take_from-data.result c.index_mut-extras.result.now lt
    c.index_mut-extras.ensures.value _

below : (c : After-self-3-1) → c.args.block < c.take_from-data.result
below c = omega (arith, c.take_from-data.ensures.least.low)

-- the block has handles
taken : (c : After-self-3-1) → has_handles (use_at c.self.inside.table.items c.args.block) ≡ true
taken c =
    let high : c.args.block ≤ c.self.inside.number =
    omega (arith, c.requires.high, ap (λ (u : Uses). u.table.blocks) c.self.view_is) in
    ap has_handles (sym (use_is c.self.invariant.0 c.args.block c.requires.low high)
    ∙ ap (λ (u : Uses). get u.table.uses c.args.block) c.self.view_is) ∙ c.requires.handles

pub invariant_of-self : goal.invariant_of-self
invariant_of-self c =
    let inv = c.self.invariant.0 in
    let unused = is_unused inv c.self.invariant.2 c.take_from-data.ensures.least in (
      blocks-with_data inv c.args.block c.take_from-data.result c.requires.low (below c) (within c) unused
          (taken c) (of_is c) (at_is c),
      c.self.invariant.1,
      unused-with_data inv c.args.block c.take_from-data.result c.requires.low (below c) (within c) unused
          (taken c) (of_is c) (at_is c) c.self.invariant.2 c.take_from-data.ensures.taken,
    )

pub returns-clause-least : goal.returns-clause-least
returns-clause-least c =
    let inv = c.self.invariant.0 in
    let found = c.take_from-data.ensures.least in
    least_is inv c.self.view_is (c.args.block + 1) c.take_from-data.result (omega arith) found.low (within c)
    (is_unused inv c.self.invariant.2 found) (all_used inv c.self.invariant.2 found (omega arith))

pub returns-clause-after : goal.returns-clause-after
returns-clause-after c =
    let inv = c.self.invariant.0 in
    view-with_data inv c.args.block c.take_from-data.result c.requires.low (below c) (within c)
    (is_unused inv c.self.invariant.2 c.take_from-data.ensures.least) (taken c) (of_is c) (at_is c)
    c.self.view_is

pub returns-clause-table : goal.returns-clause-table
returns-clause-table c = is_table (invariant_of-self c).0
