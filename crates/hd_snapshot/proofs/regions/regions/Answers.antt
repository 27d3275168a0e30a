use Rattle.std.proofs.Common.{IfOk, ap, subst, ◌∙◌, ◌≡◌}
use Rattle.hd_model.specs.Heap.{Heap}
use Rattle.hd_store.specs.Store.{Machine}
use Rattle.hd_seen.specs.Seen.{regions_seen}
use Rattle.hd_snapshot.proofs.regions.regions.Goals as goal

pub returns : goal.returns
returns c =
    subst (λ (h : Heap). IfOk c.regions_of.result (λ seen. seen.items ≡ regions_seen h))
    (c.heap.ensures.value ∙ ap (λ (m : Machine). m.heap) c.contents.ensures.value) c.regions_of.ensures
