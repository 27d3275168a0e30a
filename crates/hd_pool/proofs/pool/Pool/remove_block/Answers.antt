use Rattle.hd_pool.proofs.Basics.{KindBlocks, Some, ap, arith, difference, kind_at, numbers_of, remove, sym, ◌∙◌, ◌≡◌}
use Rattle.hd_pool.proofs.PoolCalls.{dropped, along, in_list, is_of, low, has_room, read_kind, read_some, seen_left, with_left}
use Rattle.hd_pool.proofs.WholeBlocks as wholes
use Rattle.hd_pool.proofs.pool.Pool.remove_block.Goals as goal

pub index-requires : goal.index-requires
index-requires c =
    let known = in_list c.self.invariant.0 c.self.view_is c.args.block c.requires in
    omega (arith, c.self.inside.kinds.ok.0, known)

pub unwrap-kind-requires : goal.unwrap-kind-requires
unwrap-kind-requires c =
    read_some c.self.invariant.0 c.self.view_is c.args.block c.requires c.index.ensures

pub index_mut-requires : goal.index_mut-requires
index_mut-requires c =
    let known = in_list c.self.invariant.0 c.self.view_is c.args.block c.requires in
    omega (arith, c.self.inside.kinds.ok.0, known)

pub remove_block-requires : goal.remove_block-requires
remove_block-requires c =
    omega (arith, has_room c.self.invariant.0 c.self.view_is c.args.block c.requires)

pub number_of-index-requires : goal.number_of-index-requires
number_of-index-requires c = low c.self.invariant.0 c.self.view_is c.args.block c.requires

pub remove-requires : goal.remove-requires
remove-requires c =
    let small = low c.self.invariant.0 c.self.view_is c.args.block c.requires in
    is_of c.unwrap-kind.result c.args.block c.number_of-index.ensures.value small
    (omega (arith, c.self.invariant.0.ready_room, c.number_of-index.ensures.below, small))

pub remove-requires-2 : goal.remove-requires-2
remove-requires-2 c =
    let small = low c.self.invariant.0 c.self.view_is c.args.block c.requires in
    omega (arith, c.self.invariant.1.room, c.number_of-index.ensures.below, small)

pub invariant_of-self : goal.invariant_of-self
invariant_of-self c =
    let kinds = c.self.inside.kinds.items in
    let of_kind : kind_at kinds c.args.block ≡ Some c.unwrap-kind.result =
    sym (read_kind c.self.invariant.0 c.self.view_is c.args.block c.requires c.index.ensures)
    ∙ c.unwrap-kind.ensures in (
      with_left kinds c.args.block (cc)
          (along c.remove_block.ensures (c.remove.ensures ∙ ap (λ n. record c.self.inside.ready
          { members = remove c.self.inside.ready.members n }) c.number_of-index.ensures.value)
          (dropped c.self.invariant.0 c.args.block of_kind)),
      wholes.wholes_left kinds c.args.block (cc)
          (wholes.wholes_along c.remove_block.ensures (ap (λ (r : KindBlocks). r.stride) c.remove.ensures)
          (c.remove-2.ensures ∙ ap (λ n. record c.self.inside.wholes
          { members = remove c.self.inside.wholes.members n }) c.number_of-index.ensures.value)
          (wholes.dropped c.self.invariant.0 c.self.invariant.1 c.args.block of_kind)),
    )

pub returns : goal.returns
returns c =
    seen_left c.self.invariant.0 c.self.view_is (cc) c.args.block
    (λ s. difference s (numbers_of c.args.block)) c.remove_block.ensures
