use Rattle.hd_pool.proofs.Basics.{AreLeast, KindBlocks, NumberSet, ap, arith, get_or, get_or_default_zero, insert, length, min, set, subst, sym, ◌<◌, ◌∙◌, ◌≡◌}
use Rattle.hd_pool.proofs.LeastByKind.{index_is, inserted_least}
use Rattle.hd_pool.proofs.ready.Ready.insert.Goals as goal

pub insert-requires : goal.insert-requires
insert-requires c = omega (arith, c.requires.0, ap (λ (r : KindBlocks). r.room) c.self.view_is)

pub index-least-requires : goal.index-least-requires
index-least-requires c =
    omega (arith, c.self.invariant.many, c.number-group.ensures.small, c.self.inside.least.ok.0)

pub index_mut-requires : goal.index_mut-requires
index_mut-requires c =
    omega (arith, c.self.invariant.many, c.number-group.ensures.small, c.self.inside.least.ok.0)

pub invariant_of-self : goal.invariant_of-self
invariant_of-self c =
    let items = c.self.inside.least.items in
    let stride = c.self.inside.stride in
    let group = c.number-group.result in
    let least = c.index-least.result.now in
    let lower = c.min-lower.result in
    let is = ap (λ (r : KindBlocks). r.stride) c.self.view_is in
    let within : group < length items = omega (arith, c.self.invariant.many, c.number-group.ensures.small) in
    let read : least ≡ get_or items group 0 = c.index-least.ensures ∙ get_or_default_zero items group least within
    in
    subst (λ (t : NumberSet). AreLeast stride t.members (set items group lower)) (sym c.insert.ensures)
    (inserted_least c.self.invariant group c.args.i c.number-group.ensures.small
    (omega (arith, c.requires.1, index_is c.args.kind 0 c.number-group.ensures.value is))
    (omega (arith, c.requires.2, index_is c.args.kind stride c.number-group.ensures.value is, is)) lower
    (c.min-lower.ensures ∙ ap (λ n. min n c.args.i) read))

pub returns : goal.returns
returns c =
    (λ j. record {
      stride = c.self.inside.stride;
      room = ap (λ (t : NumberSet). t.room) c.insert.ensures j;
      members = ap (λ (t : NumberSet). t.members) c.insert.ensures j;
    }) ∙ ap (λ (r : KindBlocks). record r { members = insert r.members c.args.i }) c.self.view_is
