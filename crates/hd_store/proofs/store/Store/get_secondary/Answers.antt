use Rattle.hd_model.specs.Command.{load_reply}
use Rattle.hd_commands.specs.Done.{done_with}
use Rattle.hd_store.proofs.{SoundCalls.has-handles, SlotCalls.gets-secondary}
use Rattle.hd_store.proofs.store.Store.get_secondary.Goals as goal

pub live_handle-handle-requires-clause-handles : goal.live_handle-handle-requires-clause-handles
live_handle-handle-requires-clause-handles c = has-handles c.self.inside.contents c.self.invariant

pub invariant_of-self : goal.invariant_of-self
invariant_of-self c =
    (gets-secondary c.args.slot (done_with load_reply c.get_secondary_of-came.result) c.self.invariant
    c.self.view_is c.requires.caller
    c.objects-before.ensures.heap c.objects-after.ensures.heap
    c.live_handle-handle.ensures.is c.args.d c.requires.register
    (c.get_secondary_of-came.ensures c.args.slot)).0

pub returns : goal.returns
returns c =
    (gets-secondary c.args.slot (done_with load_reply c.get_secondary_of-came.result) c.self.invariant
    c.self.view_is c.requires.caller
    c.objects-before.ensures.heap c.objects-after.ensures.heap
    c.live_handle-handle.ensures.is c.args.d c.requires.register
    (c.get_secondary_of-came.ensures c.args.slot)).1
