use Rattle.hd_store.proofs.StoreWords.{Ok, refl}
use Rattle.hd_model.specs.declared.command.Cmd.TheVariants as cmd
use Rattle.hd_model.specs.declared.data.Reply.TheVariants as reply
use Rattle.hd_commands.specs.Done.{done_with}
use Rattle.hd_store.proofs.ValueCalls.{called, endless, sound-on}
use Rattle.hd_store.proofs.store.Store.copy_register.Goals as goal

pub invariant_of-self : goal.invariant_of-self
invariant_of-self c =
    sound-on (cmd.Copy c.args.d c.args.s) (done_with (λ _. reply.Done) (Ok (tt {0}))) c.self.invariant
    c.self.view_is c.requires.caller
    c.requires.registers (endless refl) c.objects-before.ensures.heap c.objects-after.ensures.heap
    refl refl refl refl c.copy_register.ensures refl

pub returns : goal.returns
returns c =
    called (cmd.Copy c.args.d c.args.s) (done_with (λ _. reply.Done) (Ok (tt {0}))) c.self.invariant
    c.self.view_is c.requires.caller
    c.requires.registers (endless refl) c.objects-before.ensures.heap c.objects-after.ensures.heap
    refl refl refl refl c.copy_register.ensures refl
