use Rattle.hd_pool.proofs.Basics.{AreLeast, IsLeastOrEnd, KindBlocks, NumberSet, ap, arith, get_or, get_or_default_zero, index_of, length, remove, set, subst, sym, ◌*◌, ◌+◌, ◌<◌, ◌∙◌, ◌≡◌}
use Rattle.hd_pool.proofs.LeastByKind.{index_is, removed_least}
use Rattle.hd_pool.proofs.ready.Ready.remove.Goals as goal

pub number_by-end-requires-clause-few : goal.number_by-end-requires-clause-few
number_by-end-requires-clause-few c = c.self.invariant.limit

pub remove-requires : goal.remove-requires
remove-requires c = omega (arith, c.requires.0, ap (λ (r : KindBlocks). r.room) c.self.view_is)

pub index-least-requires : goal.index-least-requires
index-least-requires c =
    omega (arith, c.self.invariant.many, c.number-group.ensures.small, c.self.inside.least.ok.0)

pub index_mut-requires : goal.index_mut-requires
index_mut-requires c =
    omega (arith, c.self.invariant.many, c.number-group.ensures.small, c.self.inside.least.ok.0)

pub least_without-after-requires : goal.least_without-after-requires
least_without-after-requires c =
    let same = ap (λ (r : KindBlocks). index_of r.stride c.args.kind r.stride) c.self.view_is in
    omega (arith, c.requires.2, c.number_by-end.ensures.value, same)

pub invariant_of-self : goal.invariant_of-self
invariant_of-self c =
    let items = c.self.inside.least.items in
    let stride = c.self.inside.stride in
    let group = c.number-group.result in
    let least = c.index-least.result.now in
    let after = c.least_without-after.result in
    let is = ap (λ (r : KindBlocks). r.stride) c.self.view_is in
    let after_set = remove c.self.inside.numbers.members c.args.i in
    let end_is : c.number_by-end.result ≡ group * stride + stride =
    c.number_by-end.ensures.value ∙ ap (λ n. n * stride + stride) (sym c.number-group.ensures.value) in
    let within : group < length items = omega (arith, c.self.invariant.many, c.number-group.ensures.small) in
    let read : least ≡ get_or items group 0 = c.index-least.ensures ∙ get_or_default_zero items group least within
    in
    subst (λ (t : NumberSet). AreLeast stride t.members (set items group after)) (sym c.remove.ensures)
    (removed_least c.self.invariant group c.args.i c.number-group.ensures.small
    (omega (arith, c.requires.1, index_is c.args.kind 0 c.number-group.ensures.value is))
    (omega (arith, c.requires.2, index_is c.args.kind stride c.number-group.ensures.value is, is)) after
    (λ apart. c.least_without-after.ensures.kept (λ e. apart (sym read ∙ e)) ∙ read)
    (λ e. subst (λ n. IsLeastOrEnd after_set (c.args.i + 1) n after) end_is
    (subst (λ (t : NumberSet). IsLeastOrEnd t.members (c.args.i + 1) c.number_by-end.result after) c.remove.ensures
    (c.least_without-after.ensures.next (read ∙ e)))))

pub returns : goal.returns
returns c =
    (λ j. record {
      stride = c.self.inside.stride;
      room = ap (λ (t : NumberSet). t.room) c.remove.ensures j;
      members = ap (λ (t : NumberSet). t.members) c.remove.ensures j;
    }) ∙ ap (λ (r : KindBlocks). record r { members = remove r.members c.args.i }) c.self.view_is
