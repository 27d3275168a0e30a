use Rattle.hd_store.proofs.StoreWords.{Handle, Id, Machine, Some, count_of, handle_at, subst, sym, ◌+◌, ◌<◌, ◌^◌, ◌≡◌}
use Rattle.hd_model.specs.declared.data.Reply.TheVariants as reply
use Rattle.hd_commands.specs.Done.{done_with}
use Rattle.hd_store.proofs.{SoundCalls.has-handles, SlotCalls.raises-count}
use Rattle.hd_store.proofs.store.Store.raise_count.Goals as goal

pub live_handle-handle-requires-clause-handles : goal.live_handle-handle-requires-clause-handles
live_handle-handle-requires-clause-handles c = has-handles c.self.inside.contents c.self.invariant

pub raise_count_of-came-requires-clause-small : goal.raise_count_of-came-requires-clause-small
raise_count_of-came-requires-clause-small c =
    subst (λ (m : Machine). (h : Handle Id) → handle_at m.state c.args.slot ≡ Some h
    → count_of h.extra + 1 < 2 ^ 32) (sym c.self.view_is) c.requires.small _ c.live_handle-handle.ensures.is

pub invariant_of-self : goal.invariant_of-self
invariant_of-self c =
    (raises-count c.args.slot (done_with reply.Value c.raise_count_of-came.result) c.self.invariant
    c.self.view_is c.requires.caller
    c.objects-before.ensures.heap c.objects-after.ensures.heap
    c.live_handle-handle.ensures.is c.requires.small c.raise_count_of-came.ensures).0

pub returns : goal.returns
returns c =
    (raises-count c.args.slot (done_with reply.Value c.raise_count_of-came.result) c.self.invariant
    c.self.view_is c.requires.caller
    c.objects-before.ensures.heap c.objects-after.ensures.heap
    c.live_handle-handle.ensures.is c.requires.small c.raise_count_of-came.ensures).1
