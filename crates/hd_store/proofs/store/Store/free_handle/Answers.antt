use Rattle.hd_store.proofs.StoreWords.{IsSome, Machine, handle_at, subst, sym}
use Rattle.hd_store.proofs.SlotCalls.{frees, live-one}
use Rattle.hd_store.proofs.store.Store.free_handle.Goals as goal

pub invariant_of-self : goal.invariant_of-self
invariant_of-self c =
    let one = live-one (handle_at c.self.inside.contents.state c.args.slot)
    (subst (λ (m : Machine). IsSome (handle_at m.state c.args.slot)) (sym c.self.view_is) c.requires.live) in
    (frees c.args.slot c.self.invariant c.self.view_is c.requires.caller
    c.objects-before.ensures.heap c.objects-after.ensures.heap
    one.1 c.take_handle.ensures).0

pub returns : goal.returns
returns c =
    let one = live-one (handle_at c.self.inside.contents.state c.args.slot)
    (subst (λ (m : Machine). IsSome (handle_at m.state c.args.slot)) (sym c.self.view_is) c.requires.live) in
    (frees c.args.slot c.self.invariant c.self.view_is c.requires.caller
    c.objects-before.ensures.heap c.objects-after.ensures.heap
    one.1 c.take_handle.ensures).1
