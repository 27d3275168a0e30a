use Rattle.hd_store.proofs.StoreWords.{refl}
use Rattle.hd_model.specs.declared.command.Cmd.TheVariants as cmd
use Rattle.hd_store.proofs.ValueCalls.{endless, run-called, run-sound}
use Rattle.hd_store.proofs.store.Store.trim.Goals as goal

pub invariant_of-self : goal.invariant_of-self
invariant_of-self c =
    run-sound (cmd.Trim c.args.kind) c.self.invariant c.self.view_is c.requires.caller c.requires.single
    c.requires.offer
    (endless refl) c.objects-before.ensures.heap c.objects-after.ensures.heap c.trim-grown.ensures

pub returns : goal.returns
returns c =
    run-called (cmd.Trim c.args.kind) c.self.invariant c.self.view_is c.requires.caller c.requires.single
    c.requires.offer
    (endless refl) c.objects-before.ensures.heap c.objects-after.ensures.heap c.trim-grown.ensures
