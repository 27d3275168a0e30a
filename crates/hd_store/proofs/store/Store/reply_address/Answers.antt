use Rattle.hd_store.proofs.{SoundCalls.has-handles, SlotCalls.address-called}
use Rattle.hd_store.proofs.store.Store.reply_address.Goals as goal

pub live_handle-handle-requires-clause-handles : goal.live_handle-handle-requires-clause-handles
live_handle-handle-requires-clause-handles c = has-handles c.self.inside.contents c.self.invariant

pub returns : goal.returns
returns c =
    address-called c.args.slot c.self.invariant c.self.view_is c.requires.caller c.objects-before.ensures.heap
    c.live_handle-handle.ensures.is c.address_by.result c.address_by.ensures
