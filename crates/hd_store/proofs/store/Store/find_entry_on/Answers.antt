use Rattle.hd_store.proofs.StoreWords.{refl}
use Rattle.hd_model.specs.declared.command.Cmd.TheVariants as cmd
use Rattle.hd_commands.specs.Done.{done_of, done_with}
use Rattle.hd_store.specs.Replies.{found_reply}
use Rattle.hd_store.proofs.ValueCalls.{endless, run-called, run-sound, unoffered}
use Rattle.hd_store.proofs.store.Store.find_entry_on.Goals as goal

pub invariant_of-self : goal.invariant_of-self
invariant_of-self g c =
    run-sound (cmd.CFind c.args.d c.args.k) c.self.invariant c.self.view_is c.requires.caller
    c.requires.registers tt
    (endless refl) c.objects-before.ensures.heap c.objects-after.ensures.heap
    (unoffered (done_of (done_with found_reply c.find_entry-came.result)) refl c.find_entry-came.ensures.done)

pub returns : goal.returns
returns g c =
    run-called (cmd.CFind c.args.d c.args.k) c.self.invariant c.self.view_is c.requires.caller
    c.requires.registers tt
    (endless refl) c.objects-before.ensures.heap c.objects-after.ensures.heap
    (unoffered (done_of (done_with found_reply c.find_entry-came.result)) refl c.find_entry-came.ensures.done)
