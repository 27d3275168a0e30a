use Rattle.hd_store.proofs.StoreWords.{Machine, ap, len, parts, sym, ◌∙◌}
use Rattle.hd_store.proofs.{StateCounts.len-objects, StateHeap.over-heap}
use Rattle.hd_store.proofs.contents.Contents.objects.Goals as goal

pub returns-clause-value : goal.returns-clause-value
returns-clause-value c =
    c.count.ensures.value ∙ sym (len-objects c.self.inside.heap c.self.invariant.identities)
    ∙ ap (λ (m : Machine). len m.state.objects) c.self.view_is

pub returns-clause-heap : goal.returns-clause-heap
returns-clause-heap c = over-heap (parts c.self.inside) c.args.self.now c.self.view_is c.self.invariant
