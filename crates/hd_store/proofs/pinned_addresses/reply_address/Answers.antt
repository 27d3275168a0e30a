use Rattle.hd_store.proofs.AddressSteps.{addr-replies, addr-refused}
use Rattle.hd_store.proofs.StoreWords.{KeepsPinned, entry_by, subst, sym}
use Rattle.hd_commands.specs.Done.{replied}
use Rattle.hd_model.specs.declared.command.Cmd.TheVariants as cmd
use Rattle.hd_model.specs.declared.data.Reply.TheVariants as reply
use Rattle.hd_store.proofs.pinned_addresses.reply_address.Goals as goal

pub returns-in-Err : goal.returns-in-Err
returns-in-Err c =
    addr-refused c.args.store.now c.args.caller c.args.h c.requires.caller c.requires.register
    c.in-Err.refusal c.in-Err.ensures.value

pub returns-in-Ok : goal.returns-in-Ok
returns-in-Ok c =
    let m = c.args.store.now in
    subst (λ a. KeepsPinned m (entry_by c.args.caller (cmd.AddrOf c.args.h) (replied (reply.Place a))) m)
    (sym c.address.ensures.value)
    (addr-replies m c.args.caller c.args.h c.requires.caller c.requires.register c.in-Ok.at
    c.address.ensures.address c.in-Ok.ensures.value)
