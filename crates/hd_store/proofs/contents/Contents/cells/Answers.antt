use Rattle.hd_store.proofs.StoreWords.{Machine, ap, sym, total_size, ◌∙◌}
use Rattle.hd_store.proofs.StateCounts.{used-is}
use Rattle.hd_store.proofs.contents.Contents.cells.Goals as goal

pub returns : goal.returns
returns c =
    c.used.ensures.value ∙ sym (used-is c.self.inside.heap c.self.invariant.identities)
    ∙ ap (λ (m : Machine). total_size m.state) c.self.view_is
