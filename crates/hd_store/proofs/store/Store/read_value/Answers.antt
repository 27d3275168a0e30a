use Rattle.hd_store.proofs.StoreWords.{Machine, refl, subst}
use Rattle.hd_model.specs.declared.command.Cmd.TheVariants as cmd
use Rattle.hd_model.specs.declared.data.Reply.TheVariants as reply
use Rattle.hd_commands.specs.Done.{done_with}
use Rattle.hd_store.specs.Calls.{HasReturned}
use Rattle.hd_store.proofs.ValueCalls.{called, endless, unaged}
use Rattle.hd_store.proofs.store.Store.read_value.Goals as goal

pub returns : goal.returns
returns c =
    subst (λ (m : Machine). HasReturned c.args.self.now c.args.caller (cmd.Read c.args.o) reply.Value m
    c.read_value.result) c.self.view_is
    (called (cmd.Read c.args.o) (done_with reply.Value c.read_value.result) c.self.invariant c.self.view_is
    c.requires.caller
    c.requires.register (endless refl) c.objects-before.ensures.heap c.objects-before.ensures.heap
    refl refl refl refl c.read_value.ensures (unaged _ _))
