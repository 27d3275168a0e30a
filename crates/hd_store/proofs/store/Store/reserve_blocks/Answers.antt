use Rattle.std.proofs.lemmas.Result.{MatchResult-weaker}
use Rattle.hd_store.proofs.StoreWords.{Machine, ap, max, ◌∙◌}
use Rattle.hd_store.specs.Growth.{with_blocks}
use Rattle.hd_store.proofs.LargerTable.{sound_reserved}
use Rattle.hd_store.proofs.store.Store.reserve_blocks.Goals as goal

pub invariant_of-self : goal.invariant_of-self
invariant_of-self c =
    sound_reserved c.args.blocks c.reserve_blocks.result c.reserve_blocks.ensures c.requires c.self.invariant

pub returns : goal.returns
returns c =
    MatchResult-weaker c.reserve_blocks.result c.reserve_blocks.ensures
    (λ _ is. is ∙ ap (λ (m : Machine). with_blocks (max m.numbers.blocks c.args.blocks) m) c.self.view_is)
    (λ _ same. same ∙ c.self.view_is)
