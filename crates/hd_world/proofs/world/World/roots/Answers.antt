use Rattle.hd_store.proofs.StoreWords.{ap, ◌∙◌}
use Rattle.hd_scan.specs.Gathering.{roots_of as table_roots_of}
use Rattle.hd_store.proofs.RootIdentities.{few-roots}
use Rattle.hd_world.proofs.world.World.roots.Goals as goal

pub named_roots-requires : goal.named_roots-requires
named_roots-requires g c =
    c.deref.ensures.value ∙ c.in_ok-roots.ensures ∙ ap table_roots_of c.table.ensures

pub returns-clause-few : goal.returns-clause-few
returns-clause-few g c =
    few-roots c.contents-store.result.now.state c.live-live.result c.named_roots.result c.live-live.ensures
    c.live-live.type_inv c.named_roots.ensures
