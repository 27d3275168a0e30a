use Rattle.std.proofs.Common.{List, Some, [], subst, sym, ◌++◌, ◌∙◌, ◌∷◌}
use Rattle.hd_heap.specs.Calls.{IsNext}
use Rattle.hd_model.specs.Heap.{has_object}
use Rattle.hd_snapshot.proofs.HeapObjects.{id-there}
use Rattle.hd_snapshot.proofs.Walks.{IsWalking, walk-step}
use Rattle.hd_snapshot.specs.declared.objects.Located.{Located}
use Rattle.hd_snapshot.proofs.objects.locate.Goals as goal

pub walk-preserved : goal.walk-preserved
walk-preserved c =
    let h = c.args.heap.now in
    let at = c.in-Some.at in
    let next : IsNext (has_object h) c.walk.after at = c.in-Some.ensures.walk in
    subst (λ (listed : List Located). IsWalking h (Some at) listed)
    (sym (c.in_ok-push.ensures.items
    ∙ (λ i. c.walk.located.items
    ++ (record { id = (c.id-id.ensures.identity ∙ sym (id-there h at next.member)) i; at = at }) ∷ [])))
    (walk-step c.walk.invariant c.requires at next)
