use Rattle.hd_store.proofs.MadeHandleAge.{made_may}
use Rattle.hd_store.proofs.making.make_in_slot.Goals as goal

pub put_handle-requires-clause-may : goal.put_handle-requires-clause-may
put_handle-requires-clause-may c =
    made_may c.args.store.now c.slot_given.new.store c.lower_for.new.store c.made-handle.result.kind
    c.in-Ok.slot_given.1 c.in-Ok.slot_given.0 c.args.caller c.args.t c.args.make c.made-handle.result
    c.in-Ok.ensures.slot_given.store c.lower_for.ensures c.made-handle.ensures
