use Rattle.hd_store.proofs.StoreWords.{Ok, ap, done_of, entry_by, is_collect, refl}
use Rattle.hd_store.proofs.AddressSteps.{as-asked, looked-run, others-run, others-steps, plain-kept, plain-runs}
use Rattle.hd_store.proofs.{PartsCommands.parts-run, ValueCalls.object-ran}
use Rattle.hd_model.specs.declared.command.Cmd.TheVariants as cmd
use Rattle.hd_model.specs.declared.data.Reply.TheVariants as reply
use Rattle.hd_commands.specs.Done.{done_making, done_with, replied}
use Rattle.hd_store.specs.Replies.{done_trimming, found_reply, removed_reply, root_reply}
use Rattle.hd_store.proofs.commands.carry_out.Goals as goal

pub new_object-requires-clause-serial : goal.new_object-requires-clause-serial
new_object-requires-clause-serial g c = c.requires.serial c.in-New.d c.in-New.fields c.in-New.fin c.in-New.is

pub new_object-requires-clause-fresh : goal.new_object-requires-clause-fresh
new_object-requires-clause-fresh g c = c.requires.fresh c.in-New.d c.in-New.fields c.in-New.fin c.in-New.is

pub returns-in_ok-new_object-in-New : goal.returns-in_ok-new_object-in-New
returns-in_ok-new_object-in-New g c =
    let m = c.args.store.now in
    let k = c.new_object.new.store in
    let asked = cmd.New c.in-New.d c.in-New.fields c.in-New.fin in
    let steps = c.args.steps.now in
    let came = c.in_ok-new_object-in-New.field-0 in
    let r = done_with reply.Object came in
    as-asked m k c.args.caller c.args.cmd asked c.args.offer c.made.result r steps steps c.in-New.is
    c.made.ensures c.requires
    (λ may. plain-runs m k c.args.caller asked c.args.offer steps (entry_by c.args.caller asked (done_of r))
    refl
    (object-ran c.in-New.d c.in-New.fields c.in-New.fin came
    (may.serial c.in-New.d c.in-New.fields c.in-New.fin refl) c.in_ok-new_object-in-New.ensures.done
    c.in_ok-new_object-in-New.ensures.names c.args.offer may.offer) may)

pub returns-in-HNew : goal.returns-in-HNew
returns-in-HNew g c =
    let m = c.args.store.now in
    let k = c.new_handle.new.store in
    let asked = cmd.HNew c.in-HNew.d c.in-HNew.make c.in-HNew.t in
    let r = done_making c.new_handle.result in
    let steps = c.args.steps.now in
    as-asked m k c.args.caller c.args.cmd asked c.args.offer c.making.result r steps steps c.in-HNew.is
    c.making.ensures c.requires
    (plain-runs m k c.args.caller asked c.args.offer steps (entry_by c.args.caller asked (done_of r)) refl
    c.new_handle.ensures)

pub returns-in-AddrOf : goal.returns-in-AddrOf
returns-in-AddrOf g c =
    let m = c.args.store.now in
    let steps = c.args.steps.now in
    let asked = cmd.AddrOf c.in-AddrOf.s in
    let r = done_with reply.Place c.reply_address.result in
    as-asked m m c.args.caller c.args.cmd asked c.args.offer c.addressing.result r steps steps c.in-AddrOf.is
    c.addressing.ensures c.requires
    (others-run m m c.args.caller asked c.args.offer r steps steps refl c.reply_address.ensures
    (others-steps (entry_by c.args.caller asked (done_of r)) is_collect refl (λ n. refl) m steps refl))

pub returns-in_ok-report-in-Collect : goal.returns-in_ok-report-in-Collect
returns-in_ok-report-in-Collect g c =
    let m = c.args.store.now in
    let k = c.collect_up_to.new.store in
    let asked = cmd.Collect c.in-Collect.n in
    let r = Ok (replied (reply.Report c.in_ok-report-in-Collect.report)) in
    as-asked m k c.args.caller c.args.cmd asked c.args.offer (Ok c.of.result) r c.args.steps.now
    c.collect_up_to.new.steps c.in-Collect.is (ap Ok c.of.ensures) c.requires
    (others-run m k c.args.caller asked c.args.offer r c.args.steps.now c.collect_up_to.new.steps refl
    c.in_ok-report-in-Collect.ensures.0 c.in_ok-report-in-Collect.ensures.1)

pub returns-in-Trim : goal.returns-in-Trim
returns-in-Trim g c =
    let m = c.args.store.now in
    let k = c.trim.new.store in
    let asked = cmd.Trim c.in-Trim.kind in
    let r = Ok (done_trimming c.trim.result) in
    let steps = c.args.steps.now in
    as-asked m k c.args.caller c.args.cmd asked c.args.offer (Ok c.trimming.result) r steps steps c.in-Trim.is
    (ap Ok c.trimming.ensures) c.requires
    (plain-runs m k c.args.caller asked c.args.offer steps (entry_by c.args.caller asked (done_of r)) refl
    c.trim.ensures)

pub returns-in_ok-add_entry-in-CAdd : goal.returns-in_ok-add_entry-in-CAdd
returns-in_ok-add_entry-in-CAdd g c =
    let m = c.args.store.now in
    let k = c.add_entry.new.store in
    let asked = cmd.CAdd c.in-CAdd.k c.in-CAdd.v in
    let r = done_making c.in_ok-add_entry-in-CAdd.field-0 in
    as-asked m k c.args.caller c.args.cmd asked c.args.offer c.making-in-CAdd.result r c.args.steps.now
    c.add_entry.new.steps c.in-CAdd.is c.making-in-CAdd.ensures c.requires
    (λ may. (
      plain-kept m k c.args.caller asked c.args.offer may (entry_by c.args.caller asked (done_of r))
          c.in_ok-add_entry-in-CAdd.ensures.0,
      c.in_ok-add_entry-in-CAdd.ensures.1,
    ))

pub returns-in-CFind : goal.returns-in-CFind
returns-in-CFind g c =
    let m = c.args.store.now in
    let k = c.find_entry.new.store in
    let asked = cmd.CFind c.in-CFind.d c.in-CFind.k in
    let r = done_with found_reply c.find_entry.result in
    let after = c.find_entry.new.steps in
    as-asked m k c.args.caller c.args.cmd asked c.args.offer c.finding.result r c.args.steps.now after
    c.in-CFind.is c.finding.ensures c.requires
    (looked-run m k c.args.caller asked c.args.offer r c.args.steps.now after refl c.find_entry.ensures.done
    c.find_entry.ensures.steps)

pub returns-in-CRemove : goal.returns-in-CRemove
returns-in-CRemove g c =
    let m = c.args.store.now in
    let k = c.remove_entry.new.store in
    let asked = cmd.CRemove c.in-CRemove.k in
    let r = done_with removed_reply c.remove_entry.result in
    let after = c.remove_entry.new.steps in
    as-asked m k c.args.caller c.args.cmd asked c.args.offer c.removing.result r c.args.steps.now after
    c.in-CRemove.is c.removing.ensures c.requires
    (looked-run m k c.args.caller asked c.args.offer r c.args.steps.now after refl c.remove_entry.ensures.done
    c.remove_entry.ensures.steps)

pub returns-in_ok-return_root-in-GcRoot : goal.returns-in_ok-return_root-in-GcRoot
returns-in_ok-return_root-in-GcRoot g c =
    let m = c.args.store.now in
    let steps = c.args.steps.now in
    let asked = cmd.GcRoot c.in-GcRoot.s in
    let r = done_with root_reply c.in_ok-return_root-in-GcRoot.field-0 in
    as-asked m m c.args.caller c.args.cmd asked c.args.offer c.rooting.result r steps steps c.in-GcRoot.is
    c.rooting.ensures c.requires
    (looked-run m m c.args.caller asked c.args.offer r steps steps refl c.in_ok-return_root-in-GcRoot.ensures
    (others-steps (entry_by c.args.caller asked (done_of r)) is_collect refl (λ n. refl) m steps refl))

pub returns-in-Set : goal.returns-in-Set
returns-in-Set g c =
    parts-run c.args.store.now c.carry_out.new.parts c.args.caller c.args.cmd c.carry_out.result
    c.carry_out.ensures.alone c.carry_out.ensures.decided c.args.offer c.args.steps.now c.requires
