use Rattle.std.proofs.Common.{IfOk, List, ap, map, subst, sym, ◌∙◌, ◌≡◌}
use Rattle.std.specs.{FinMap.FinMap, FinMap.entries, Ordering.nat_cmp}
use Rattle.hd_model.specs.declared.data.Id.{Id}
use Rattle.hd_model.specs.Heap.{Heap}
use Rattle.hd_model.specs.State.{Object}
use Rattle.hd_seen.specs.Seen.{ObjectSeen, object_seen, object_shown}
use Rattle.hd_store.specs.{Reading.objects_by_id, Store.Machine}
use Rattle.hd_snapshot.proofs.HeapObjects.{without-free}
use Rattle.hd_snapshot.proofs.objects.objects.Goals as goal

pub returns : goal.returns
returns c =
    let h = c.heap.result.now in
    let m = c.args.store.now in
    subst (λ (xs : List ObjectSeen). IfOk c.objects_of.result (λ seen. map object_shown seen.items ≡ xs))
    (ap (λ (os : FinMap nat_cmp (Object Id)). map (object_seen h) (entries os)) (sym (without-free h))
    ∙ ap (λ (k : Heap). map (object_seen k) (entries (objects_by_id k)))
    (c.heap.ensures.value ∙ ap (λ (s : Machine). s.heap) c.contents.ensures.value)
    ∙ ap (λ (os : FinMap nat_cmp (Object Id)). map (object_seen m.heap) (entries os))
    (sym c.contents.ensures.heap.heap.objects))
    c.objects_of.ensures
