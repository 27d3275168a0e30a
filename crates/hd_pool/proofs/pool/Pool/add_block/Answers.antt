use Rattle.hd_pool.proofs.Basics.{KindBlocks, ap, arith, insert, length, numbers_of, union, ◌<◌, ◌∙◌}
use Rattle.hd_pool.proofs.PoolCalls.{added, along, blocks_is, is_of, kind_is, seen_put}
use Rattle.hd_pool.proofs.WholeBlocks as wholes
use Rattle.hd_pool.proofs.pool.Pool.add_block.Goals as goal

pub number_of-index-requires : goal.number_of-index-requires
number_of-index-requires c =
    let inv = c.self.invariant.0 in
    omega (arith, blocks_is inv c.self.view_is, c.requires.within.0, c.requires.within.1, inv.wide)

pub insert-requires : goal.insert-requires
insert-requires c =
    let inv = c.self.invariant.0 in
    let small : c.args.block < c.self.inside.ready.stride =
    omega (arith, blocks_is inv c.self.view_is, c.requires.within.0, c.requires.within.1, inv.wide) in
    is_of c.args.kind c.args.block c.number_of-index.ensures.value small
    (omega (arith, inv.ready_room, c.number_of-index.ensures.below, small))

pub insert-requires-2 : goal.insert-requires-2
insert-requires-2 c =
    let inv = c.self.invariant.0 in
    omega (
      arith,
      blocks_is inv c.self.view_is,
      c.requires.within.0,
      c.requires.within.1,
      inv.wide,
      c.self.invariant.1.room,
      c.number_of-index.ensures.below,
    )

pub invariant_of-self : goal.invariant_of-self
invariant_of-self c =
    let within : c.args.block < length c.self.inside.kinds.items =
    omega (arith, blocks_is c.self.invariant.0 c.self.view_is, c.self.invariant.0.some) in
    let new = kind_is c.self.invariant.0 c.self.view_is c.args.block ∙ c.requires.new in (
      along c.insert_block.ensures
          (c.insert.ensures ∙ ap (λ n. record c.self.inside.ready
          { members = insert c.self.inside.ready.members n }) c.number_of-index.ensures.value)
          (added c.self.invariant.0 c.args.block c.args.kind within new),
      wholes.wholes_along c.insert_block.ensures (ap (λ (r : KindBlocks). r.stride) c.insert.ensures)
          (c.insert-2.ensures ∙ ap (λ n. record c.self.inside.wholes
          { members = insert c.self.inside.wholes.members n }) c.number_of-index.ensures.value)
          (wholes.added c.self.invariant.0 c.self.invariant.1 c.args.block c.args.kind within new),
    )

pub returns : goal.returns
returns c =
    seen_put c.self.invariant.0 c.self.view_is c.args.block c.args.kind (λ s. union s (numbers_of c.args.block))
    (omega (arith, blocks_is c.self.invariant.0 c.self.view_is, c.self.invariant.0.some)) c.insert_block.ensures
