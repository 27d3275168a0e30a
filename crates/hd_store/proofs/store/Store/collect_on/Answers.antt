use Rattle.hd_store.proofs.StoreWords.{Machine, Ok, entry_by, refl, subst, sym}
use Rattle.hd_model.specs.declared.command.Cmd.TheVariants as cmd
use Rattle.hd_model.specs.declared.data.Reply.TheVariants as reply
use Rattle.hd_commands.specs.Done.{replied}
use Rattle.hd_store.specs.Calls.{HasReturned, IsSound}
use Rattle.hd_store.proofs.{SoundCalls.sound-after, ValueCalls.kept-called, ValueCalls.unoffered}
use Rattle.hd_store.proofs.store.Store.collect_on.Goals as goal

pub invariant_of-self : goal.invariant_of-self
invariant_of-self g c = subst IsSound (sym c.in_err-report.ensures.0) c.self.invariant

pub invariant_of-self-2 : goal.invariant_of-self-2
invariant_of-self-2 g c =
    sound-after c.self.inside.contents c.collect_up_to.new.store
    (entry_by c.args.caller (cmd.Collect c.args.n) (replied (reply.Report c.in_ok-report.report)))
    c.self.invariant c.in_ok-report.ensures.0

pub returns : goal.returns
returns g c =
    subst (λ (m : Machine). HasReturned m c.args.caller (cmd.Collect c.args.n) reply.Report
    c.collect_up_to.new.store (Ok c.in_ok-report.report)) c.self.view_is
    (kept-called c.objects-before.ensures.heap c.objects-after.ensures.heap
    (unoffered (replied (reply.Report c.in_ok-report.report)) refl c.in_ok-report.ensures.0))
