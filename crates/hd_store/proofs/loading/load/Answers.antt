use Rattle.hd_store.proofs.LoadedParts.{has-loaded}
use Rattle.hd_store.proofs.loading.load.Goals as goal

pub returns-clause-loaded : goal.returns-clause-loaded
returns-clause-loaded g c =
    has-loaded _ _ c.args.caller c.args.d c.found-loaded.result c.found-loaded.ensures.0 c.found-loaded.ensures.1
    c.set_register.ensures
