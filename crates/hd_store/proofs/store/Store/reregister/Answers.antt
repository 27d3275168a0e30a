use Rattle.hd_store.proofs.StoreWords.{refl}
use Rattle.hd_model.specs.declared.command.Cmd.TheVariants as cmd
use Rattle.hd_model.specs.declared.data.Reply.TheVariants as reply
use Rattle.hd_commands.specs.Done.{done_with}
use Rattle.hd_store.proofs.ValueCalls.{called, endless, sound-on, unaged}
use Rattle.hd_store.proofs.store.Store.reregister.Goals as goal

pub set_registered-came-requires-clause-object : goal.set_registered-came-requires-clause-object
set_registered-came-requires-clause-object c =
    c.self.invariant.well_formed.names.registers c.args.caller c.args.o

pub invariant_of-self : goal.invariant_of-self
invariant_of-self c =
    sound-on (cmd.Reregister c.args.o) (done_with (λ _. reply.Done) c.set_registered-came.result)
    c.self.invariant c.self.view_is c.requires.caller
    c.requires.register (endless refl) c.objects-before.ensures.heap c.objects-after.ensures.heap
    refl refl refl refl c.set_registered-came.ensures (unaged _ _)

pub returns : goal.returns
returns c =
    called (cmd.Reregister c.args.o) (done_with (λ _. reply.Done) c.set_registered-came.result)
    c.self.invariant c.self.view_is c.requires.caller
    c.requires.register (endless refl) c.objects-before.ensures.heap c.objects-after.ensures.heap
    refl refl refl refl c.set_registered-came.ensures (unaged _ _)
