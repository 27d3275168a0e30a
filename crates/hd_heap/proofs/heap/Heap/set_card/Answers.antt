use Rattle.hd_heap.proofs.Basics.{arith, or_parts, sym, true, ◌∙◌}
use Rattle.hd_heap.proofs.{GenerationSums.older_carded, RegionReads.closed, RegionReads.left_read, RegionReads.opened, RegionReads.index_within, RegionReads.found_read, RegionChanges.card_changed}
use Rattle.hd_heap.proofs.heap.Heap.set_card.Goals as goal

pub index_mut-requires : goal.index_mut-requires
index_mut-requires c =
    let i = index_within (opened c.self.inside c.self.view_is c.self.invariant) c.args.at c.requires
    c.index_of.ensures in
    omega (arith, i)

pub invariant_of-self : goal.invariant_of-self
invariant_of-self c =
    let heap = opened c.self.inside c.self.view_is c.self.invariant in
    let f = found_read heap c.args.at c.requires c.index_of.ensures c.index_mut.ensures.value in
    rw c.offset_of.ensures (closed (card_changed heap c.args.at c.args.on f
    (λ off. (or_parts _ _ (sym c.noted-self-inside.ensures ∙ off)).0)
    (λ off. (or_parts _ _ (sym c.noted-self-inside.ensures ∙ off)).1))
    (left_read c.self.inside c.self.view_is c.self.invariant.3)
    (older_carded f.located.index _ c.self.invariant.4))

pub returns : goal.returns
returns c =
    let heap = opened c.self.inside c.self.view_is c.self.invariant in
    let f = found_read heap c.args.at c.requires c.index_of.ensures c.index_mut.ensures.value in
    rw c.offset_of.ensures
    (card_changed heap c.args.at c.args.on {c = true} f (λ on. absurd (cc on)) (λ on. absurd (cc on))).view
