use Rattle.hd_store.proofs.StoreWords.{Machine, ap, id_at, length, length-map, sym, ◌∙◌}
use Rattle.hd_store.proofs.contents.Contents.queued.Goals as goal

pub returns : goal.returns
returns c =
    c.len.ensures.value ∙ sym (length-map c.self.inside.queue.queued (id_at c.self.inside.heap))
    ∙ ap (λ (m : Machine). length m.state.queue) c.self.view_is
