use Rattle.hd_pool.proofs.Basics.{HasAllOf, HasSomeOf, IsTrue, NumberSet, ROWS, Some, ap, arith, false, insert, kind_at, refl, subst, sym, ◌/◌, ◌∙◌, ◌≡◌, ◌↔◌}
use Rattle.hd_pool.proofs.PoolCalls.{along, in_list, is_of, low, has_room, read_kind, read_some, same_stride}
use Rattle.hd_pool.proofs.PoolCalls as pools
use Rattle.hd_pool.proofs.WholeBlocks as wholes
use Rattle.hd_pool.proofs.pool.Pool.put.Goals as goal

pub index-requires : goal.index-requires
index-requires c =
    let known = in_list c.self.invariant.0 c.self.view_is (c.args.slot.0 / ROWS) c.requires.added in
    omega (arith, c.self.inside.kinds.ok.0, known)

pub unwrap-kind-requires : goal.unwrap-kind-requires
unwrap-kind-requires c =
    read_some c.self.invariant.0 c.self.view_is (c.args.slot.0 / ROWS) c.requires.added c.index.ensures

pub add-added-requires : goal.add-added-requires
add-added-requires c =
    omega (arith, has_room c.self.invariant.0 c.self.view_is (c.args.slot.0 / ROWS) c.requires.added)

pub number_of-index-requires : goal.number_of-index-requires
number_of-index-requires c =
    low c.self.invariant.0 c.self.view_is (c.args.slot.0 / ROWS) c.requires.added

pub insert_where-requires : goal.insert_where-requires
insert_where-requires c =
    let small = low c.self.invariant.0 c.self.view_is (c.args.slot.0 / ROWS) c.requires.added in
    is_of c.unwrap-kind.result (c.args.slot.0 / ROWS) c.number_of-index.ensures.value small
    (omega (arith, c.self.invariant.0.ready_room, c.number_of-index.ensures.below, small))

pub insert_where-requires-2 : goal.insert_where-requires-2
insert_where-requires-2 c =
    let small = low c.self.invariant.0 c.self.view_is (c.args.slot.0 / ROWS) c.requires.added in
    omega (arith, c.self.invariant.1.room, c.number_of-index.ensures.below, small)

pub invariant_of-self : goal.invariant_of-self
invariant_of-self c =
    let kinds = c.self.inside.kinds.items in
    let slot = c.args.slot.0 in
    let old = c.self.inside.free in
    let after = c.add-added.new.self in
    let added = c.add-added.result in
    let its_kind : kind_at kinds (slot / ROWS) ≡ Some c.unwrap-kind.result =
    sym (read_kind c.self.invariant.0 c.self.view_is (slot / ROWS) c.requires.added c.index.ensures)
    ∙ c.unwrap-kind.ensures in
    let free_is : after ≡ record old { members = insert old.members slot } =
    c.add-added.ensures.value ∙ ap (λ n. record old { members = insert old.members n }) (omega arith) in
    let more : added.first ≡ false → HasSomeOf old.members (slot / ROWS) =
    λ e. subst (HasSomeOf old.members) (omega arith) (c.add-added.ensures.more e) in
    let full : IsTrue added.full ↔ HasAllOf after.members (slot / ROWS) =
    subst (λ b. IsTrue added.full ↔ HasAllOf after.members b) (omega arith) c.add-added.ensures.full in (
      along free_is refl (pools.put_where c.self.invariant.0 slot its_kind _ _ c.number_of-index.ensures.value
          added.first more c.insert_where.ensures.added c.insert_where.ensures.kept),
      wholes.wholes_along free_is
          (same_stride added.first c.insert_where.ensures.added c.insert_where.ensures.kept refl) refl
          (wholes.put_where c.self.invariant.0 c.self.invariant.1 slot its_kind _ _
          c.number_of-index.ensures.value added.full
          (subst (λ (s : NumberSet). IsTrue added.full ↔ HasAllOf s.members (slot / ROWS)) free_is full)
          c.insert_where-2.ensures.added c.insert_where-2.ensures.kept),
    )
