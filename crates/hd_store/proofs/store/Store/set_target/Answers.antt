use Rattle.hd_model.specs.declared.data.Reply.TheVariants as reply
use Rattle.hd_commands.specs.Done.{done_with}
use Rattle.hd_store.proofs.{SoundCalls.has-handles, SlotCalls.sets-target}
use Rattle.hd_store.proofs.store.Store.set_target.Goals as goal

pub live_handle-handle-requires-clause-handles : goal.live_handle-handle-requires-clause-handles
live_handle-handle-requires-clause-handles c = has-handles c.self.inside.contents c.self.invariant

pub invariant_of-self : goal.invariant_of-self
invariant_of-self c =
    (sets-target c.args.slot (done_with (λ _. reply.Done) c.set_target_of-came.result) c.self.invariant
    c.self.view_is c.requires.caller
    c.objects-before.ensures.heap c.objects-after.ensures.heap
    c.live_handle-handle.ensures.is c.args.t c.requires.register c.set_target_of-came.ensures).0

pub returns : goal.returns
returns c =
    (sets-target c.args.slot (done_with (λ _. reply.Done) c.set_target_of-came.result) c.self.invariant
    c.self.view_is c.requires.caller
    c.objects-before.ensures.heap c.objects-after.ensures.heap
    c.live_handle-handle.ensures.is c.args.t c.requires.register c.set_target_of-came.ensures).1
