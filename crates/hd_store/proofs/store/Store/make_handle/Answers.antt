use Rattle.hd_store.proofs.StoreWords.{arith}
use Rattle.hd_store.proofs.{SoundCalls.has-handles, SoundCalls.has-weak, SlotCalls.makes}
use Rattle.hd_store.proofs.store.Store.make_handle.Goals as goal

pub make_handle-came-requires-clause-handles : goal.make_handle-came-requires-clause-handles
make_handle-came-requires-clause-handles c = has-handles c.self.inside.contents c.self.invariant

pub make_handle-came-requires-clause-weak : goal.make_handle-came-requires-clause-weak
make_handle-came-requires-clause-weak c = has-weak c.self.invariant

pub invariant_of-self : goal.invariant_of-self
invariant_of-self c =
    (makes c.args.make c.args.t c.make_handle-came.result c.self.invariant c.self.view_is c.requires.caller
    c.objects-before.ensures.heap c.objects-after.ensures.heap
    (omega arith, c.requires.make, c.requires.register) c.requires.offer c.make_handle-came.ensures).0

pub returns : goal.returns
returns c =
    (makes c.args.make c.args.t c.make_handle-came.result c.self.invariant c.self.view_is c.requires.caller
    c.objects-before.ensures.heap c.objects-after.ensures.heap
    (omega arith, c.requires.make, c.requires.register) c.requires.offer c.make_handle-came.ensures).1
