use Rattle.hd_store.proofs.StoreWords.{Ok, refl}
use Rattle.hd_model.specs.declared.command.Cmd.TheVariants as cmd
use Rattle.hd_model.specs.Command.{load_reply}
use Rattle.hd_commands.specs.Done.{done_with}
use Rattle.hd_store.proofs.ValueCalls.{called, endless, sound-on, unaged}
use Rattle.hd_store.proofs.store.Store.get_static.Goals as goal

pub invariant_of-self : goal.invariant_of-self
invariant_of-self c =
    sound-on (cmd.SGet c.args.d c.args.k) (done_with load_reply (Ok c.get_static-came.result))
    c.self.invariant c.self.view_is c.requires.caller
    c.requires.registers (endless refl) c.objects-before.ensures.heap c.objects-after.ensures.heap
    refl refl refl refl c.get_static-came.ensures (unaged _ _)

pub returns : goal.returns
returns c =
    called (cmd.SGet c.args.d c.args.k) (done_with load_reply (Ok c.get_static-came.result))
    c.self.invariant c.self.view_is c.requires.caller
    c.requires.registers (endless refl) c.objects-before.ensures.heap c.objects-after.ensures.heap
    refl refl refl refl c.get_static-came.ensures (unaged _ _)
