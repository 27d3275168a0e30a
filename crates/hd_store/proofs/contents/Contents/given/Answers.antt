use Rattle.hd_store.proofs.StoreWords.{Machine, ap, len, ◌∙◌}
use Rattle.hd_store.proofs.contents.Contents.given.Goals as goal

pub returns : goal.returns
returns c = c.given.ensures.value ∙ ap (λ (m : Machine). len m.state.blocks) c.self.view_is
