use Rattle.hd_store.proofs.StoreWords.{Ok, refl}
use Rattle.hd_model.specs.declared.command.Cmd.TheVariants as cmd
use Rattle.hd_commands.specs.Done.{done_with, queued_reply}
use Rattle.hd_store.proofs.ValueCalls.{called, endless, sound-on, unaged}
use Rattle.hd_store.proofs.store.Store.take_queued.Goals as goal

pub invariant_of-self : goal.invariant_of-self
invariant_of-self c =
    sound-on (cmd.Final c.args.d) (done_with queued_reply (Ok c.take_queued-came.result)) c.self.invariant
    c.self.view_is c.requires.caller
    c.requires.register (endless refl) c.objects-before.ensures.heap c.objects-after.ensures.heap
    refl refl refl refl c.take_queued-came.ensures (unaged _ _)

pub returns : goal.returns
returns c =
    called (cmd.Final c.args.d) (done_with queued_reply (Ok c.take_queued-came.result)) c.self.invariant
    c.self.view_is c.requires.caller
    c.requires.register (endless refl) c.objects-before.ensures.heap c.objects-after.ensures.heap
    refl refl refl refl c.take_queued-came.ensures (unaged _ _)
