use Rattle.hd_store.proofs.StoreWords.{arith, refl}
use Rattle.hd_model.specs.declared.command.Cmd.TheVariants as cmd
use Rattle.hd_model.specs.Command.{load_reply}
use Rattle.hd_commands.specs.Done.{done_with}
use Rattle.hd_store.proofs.ValueCalls.{called, endless, sound-on, unaged}
use Rattle.hd_store.proofs.store.Store.get_field.Goals as goal

pub invariant_of-self : goal.invariant_of-self
invariant_of-self c =
    sound-on (cmd.Get c.args.d c.args.o c.args.i) (done_with load_reply c.get_field-came.result)
    c.self.invariant c.self.view_is c.requires.caller
    (c.requires.registers.0, c.requires.registers.1, omega (arith, c.ranges.i.fits)) (endless refl)
    c.objects-before.ensures.heap c.objects-after.ensures.heap
    refl refl refl refl c.get_field-came.ensures (unaged _ _)

pub returns : goal.returns
returns c =
    called (cmd.Get c.args.d c.args.o c.args.i) (done_with load_reply c.get_field-came.result)
    c.self.invariant c.self.view_is c.requires.caller
    (c.requires.registers.0, c.requires.registers.1, omega (arith, c.ranges.i.fits)) (endless refl)
    c.objects-before.ensures.heap c.objects-after.ensures.heap
    refl refl refl refl c.get_field-came.ensures (unaged _ _)
