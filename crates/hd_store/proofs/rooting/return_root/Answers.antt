use Rattle.hd_store.proofs.StoreWords.{refl}
use Rattle.hd_store.proofs.AddressSteps.{root-returned, root-refused}
use Rattle.hd_store.proofs.rooting.return_root.Goals as goal

pub returns-in_ok-root_of-in-Ok : goal.returns-in_ok-root_of-in-Ok
returns-in_ok-root_of-in-Ok c =
    root-returned c.args.store.now c.args.caller c.args.r _ c.in-Ok.ensures.value _
    c.in_ok-root_of-in-Ok.ensures _ refl

pub returns-in-Err : goal.returns-in-Err
returns-in-Err c =
    root-refused c.args.store.now c.args.caller c.args.r c.in-Err.ensures.value.0 c.in-Err.refusal
    c.in-Err.ensures.value.1
