use Rattle.hd_store.proofs.StoreWords.{arith, refl}
use Rattle.hd_model.specs.declared.command.Cmd.TheVariants as cmd
use Rattle.hd_model.specs.declared.data.Reply.TheVariants as reply
use Rattle.hd_commands.specs.Done.{done_with}
use Rattle.hd_store.proofs.ValueCalls.{called, endless, sound-on, unaged}
use Rattle.hd_store.proofs.store.Store.set_field.Goals as goal

pub set_field-came-requires-clause-object : goal.set_field-came-requires-clause-object
set_field-came-requires-clause-object c =
    c.self.invariant.well_formed.names.registers c.args.caller c.args.o

pub invariant_of-self : goal.invariant_of-self
invariant_of-self c =
    sound-on (cmd.Set c.args.o c.args.i c.args.v) (done_with (λ _. reply.Done) c.set_field-came.result)
    c.self.invariant c.self.view_is c.requires.caller
    (c.requires.registers.0, omega (arith, c.ranges.i.fits), c.requires.registers.1) (endless refl)
    c.objects-before.ensures.heap c.objects-after.ensures.heap
    refl refl refl refl c.set_field-came.ensures (unaged _ _)

pub returns : goal.returns
returns c =
    called (cmd.Set c.args.o c.args.i c.args.v) (done_with (λ _. reply.Done) c.set_field-came.result)
    c.self.invariant c.self.view_is c.requires.caller
    (c.requires.registers.0, omega (arith, c.ranges.i.fits), c.requires.registers.1) (endless refl)
    c.objects-before.ensures.heap c.objects-after.ensures.heap
    refl refl refl refl c.set_field-came.ensures (unaged _ _)
