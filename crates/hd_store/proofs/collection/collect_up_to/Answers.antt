use Rattle.hd_store.proofs.AddressSteps.{collect-returns}
use Rattle.hd_store.proofs.collection.collect_up_to.Goals as goal

pub returns : goal.returns
returns g c =
    collect-returns c.args.store.now c.collect.new.self c.args.n c.args.caller c.requires.caller
    c.requires.generation
    c.args.steps.now c.collect.new.steps c.collect.result c.collect.ensures
