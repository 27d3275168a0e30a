use Rattle.hd_store.proofs.StoreWords.{Machine, ap, ◌∙◌}
use Rattle.hd_store.proofs.contents.Contents.limit.Goals as goal

pub returns : goal.returns
returns c = c.limit.ensures ∙ ap (λ (m : Machine). m.numbers.heap) c.self.view_is
