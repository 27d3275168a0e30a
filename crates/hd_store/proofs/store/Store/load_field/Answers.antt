use Rattle.hd_store.proofs.StoreWords.{arith, refl}
use Rattle.hd_model.specs.declared.command.Cmd.TheVariants as cmd
use Rattle.hd_model.specs.Command.{load_reply}
use Rattle.hd_commands.specs.Done.{done_with}
use Rattle.hd_store.specs.declared.hosted.Loaded.{Loaded}
use Rattle.hd_store.proofs.HostedCalls.{reads-field}
use Rattle.hd_store.proofs.ValueCalls.{called, endless, known-in, sound-on, unaged}
use Rattle.hd_store.proofs.store.Store.load_field.Goals as goal

pub load_field-came-requires : goal.load_field-came-requires
load_field-came-requires c = (
  known-in c.self.view_is c.requires.caller,
  c.requires.registers.0,
  c.requires.registers.1,
)

pub invariant_of-self : goal.invariant_of-self
invariant_of-self c =
    sound-on (cmd.Get c.args.d c.args.o c.args.i)
    (done_with (λ (l : Loaded). load_reply l.id) c.load_field-came.result)
    c.self.invariant c.self.view_is c.requires.caller
    (c.requires.registers.0, c.requires.registers.1, omega (arith, c.ranges.i.fits)) (endless refl)
    c.objects-before.ensures.heap c.objects-after.ensures.heap
    refl refl refl refl c.load_field-came.ensures.came (unaged _ _)

pub returns-clause-got : goal.returns-clause-got
returns-clause-got c =
    called (cmd.Get c.args.d c.args.o c.args.i)
    (done_with (λ (l : Loaded). load_reply l.id) c.load_field-came.result)
    c.self.invariant c.self.view_is c.requires.caller
    (c.requires.registers.0, c.requires.registers.1, omega (arith, c.ranges.i.fits)) (endless refl)
    c.objects-before.ensures.heap c.objects-after.ensures.heap
    refl refl refl refl c.load_field-came.ensures.came (unaged _ _)

pub returns-clause-reads : goal.returns-clause-reads
returns-clause-reads c =
    reads-field c.self.invariant (known-in c.self.view_is c.requires.caller)
    (sound-on (cmd.Get c.args.d c.args.o c.args.i)
    (done_with (λ (l : Loaded). load_reply l.id) c.load_field-came.result)
    c.self.invariant c.self.view_is c.requires.caller
    (c.requires.registers.0, c.requires.registers.1, omega (arith, c.ranges.i.fits)) (endless refl)
    c.objects-before.ensures.heap c.objects-after.ensures.heap
    refl refl refl refl c.load_field-came.ensures.came (unaged _ _))
    c.load_field-came.ensures.came.1.0 c.objects-after.ensures.heap c.args.d c.requires.registers.0
    c.load_field-came.result c.load_field-came.ensures.loaded
