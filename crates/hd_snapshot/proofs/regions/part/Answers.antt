use Rattle.std.proofs.Common.{ap, subst, sym, ◌∙◌, ◌≡◌}
use Rattle.hd_model.specs.Heap.{Heap}
use Rattle.hd_seen.specs.Seen.{picture}
use Rattle.hd_snapshot.proofs.HeapObjects.{without-free}
use Rattle.hd_snapshot.proofs.HeapParts.{parted}
use Rattle.hd_snapshot.specs.Laws.{IsParted}
use Rattle.hd_store.specs.StateHeap.{IsOfHeap}
use Rattle.hd_store.specs.Store.{Machine, without_free}
use Rattle.hd_snapshot.proofs.regions.part.Goals as goal

pub returns : goal.returns
returns c =
    let m = c.args.store.now in
    let h = c.heap.result.now in
    let same : without_free h ≡ m.heap =
    c.heap.ensures.value ∙ ap (λ (s : Machine). s.heap) c.contents-contents.ensures.value in
    let of : IsOfHeap m.state (without_free h) =
    subst (λ (k : Heap). IsOfHeap m.state k) (sym same) c.contents-contents.ensures.heap.heap in
    subst (λ (k : Heap). IsParted (picture m.numbers m.state m.ages k m.table)) same
    (parted h c.count-count.ensures.sound of.identities m.numbers m.state m.ages m.table
    (of.objects ∙ without-free h))
