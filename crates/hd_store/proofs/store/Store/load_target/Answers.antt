use Rattle.hd_store.proofs.StoreWords.{Some, ap, handle_at, sym, ◌∙◌}
use Rattle.hd_model.specs.State.{with_register}
use Rattle.hd_store.proofs.SlotCalls.{loads-target, with-target}
use Rattle.hd_store.proofs.store.Store.load_target.Goals as goal

pub invariant_of-self : goal.invariant_of-self
invariant_of-self c =
    let m = c.self.inside.contents in
    let one = with-target (handle_at m.state c.args.slot) c.named-id.result
    (c.live_target-target.ensures.value ∙ ap Some (sym c.named-id.ensures)) in
    (loads-target c.args.slot c.self.invariant c.self.view_is c.requires.caller c.objects-before.ensures.heap
    c.objects-after.ensures.heap one.1.0 c.args.d c.named-id.result c.requires.register one.1.1
    (c.set_register.ensures ∙ ap (λ t. record m { state = with_register m.state c.args.caller c.args.d t })
    (sym c.named-id.ensures))).0

pub returns-clause-called : goal.returns-clause-called
returns-clause-called c =
    let m = c.self.inside.contents in
    let one = with-target (handle_at m.state c.args.slot) c.named-id.result
    (c.live_target-target.ensures.value ∙ ap Some (sym c.named-id.ensures)) in
    (loads-target c.args.slot c.self.invariant c.self.view_is c.requires.caller c.objects-before.ensures.heap
    c.objects-after.ensures.heap one.1.0 c.args.d c.named-id.result c.requires.register one.1.1
    (c.set_register.ensures ∙ ap (λ t. record m { state = with_register m.state c.args.caller c.args.d t })
    (sym c.named-id.ensures))).1.0
