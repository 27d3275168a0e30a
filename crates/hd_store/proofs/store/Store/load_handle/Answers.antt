use Rattle.hd_store.proofs.StoreWords.{Machine, Some, ap, handle_at, option_map, sym, ◌∙◌}
use Rattle.hd_model.specs.State.{Handle, with_register}
use Rattle.hd_model.specs.declared.data.Id.{Id}
use Rattle.hd_store.proofs.HostedCalls.{reads-loaded, value-found}
use Rattle.hd_store.proofs.{SlotCalls.loads-target, SlotCalls.with-target, ValueCalls.known-in}
use Rattle.hd_store.proofs.store.Store.load_handle.Goals as goal

pub found-loaded-requires : goal.found-loaded-requires
found-loaded-requires c = c.live_target-target.ensures.named

pub invariant_of-self : goal.invariant_of-self
invariant_of-self c =
    let m = c.self.inside.contents in
    let id = c.found-loaded.result.id in
    let one = with-target (handle_at m.state c.args.slot) id
    (c.live_target-target.ensures.value ∙ ap Some (sym c.found-loaded.ensures.0)) in
    (loads-target c.args.slot c.self.invariant c.self.view_is c.requires.caller c.objects-before.ensures.heap
    c.objects-after.ensures.heap one.1.0 c.args.d id c.requires.register one.1.1
    (c.set_register.ensures ∙ ap (λ t. record m { state = with_register m.state c.args.caller c.args.d t })
    (sym c.found-loaded.ensures.0))).0

pub returns-clause-found : goal.returns-clause-found
returns-clause-found c =
    sym (ap (λ (m : Machine). option_map (λ (h : Handle Id). h.target) (handle_at m.state c.args.slot))
    c.self.view_is) ∙ c.live_target-target.ensures.value ∙ ap Some (sym c.found-loaded.ensures.0)

pub returns-clause-got : goal.returns-clause-got
returns-clause-got c =
    let m = c.self.inside.contents in
    let id = c.found-loaded.result.id in
    let one = with-target (handle_at m.state c.args.slot) id
    (c.live_target-target.ensures.value ∙ ap Some (sym c.found-loaded.ensures.0)) in
    (loads-target c.args.slot c.self.invariant c.self.view_is c.requires.caller c.objects-before.ensures.heap
    c.objects-after.ensures.heap one.1.0 c.args.d id c.requires.register one.1.1
    (c.set_register.ensures ∙ ap (λ t. record m { state = with_register m.state c.args.caller c.args.d t })
    (sym c.found-loaded.ensures.0))).1

pub returns-clause-reads : goal.returns-clause-reads
returns-clause-reads c =
    let m = c.self.inside.contents in
    let id = c.found-loaded.result.id in
    let one = with-target (handle_at m.state c.args.slot) id
    (c.live_target-target.ensures.value ∙ ap Some (sym c.found-loaded.ensures.0)) in
    let left = c.set_register.ensures
    ∙ ap (λ t. record m { state = with_register m.state c.args.caller c.args.d t }) (sym c.found-loaded.ensures.0) in
    reads-loaded c.self.invariant (known-in c.self.view_is c.requires.caller)
    (loads-target c.args.slot c.self.invariant c.self.view_is c.requires.caller c.objects-before.ensures.heap
    c.objects-after.ensures.heap one.1.0 c.args.d id c.requires.register one.1.1 left).0
    (ap (λ (x : Machine). x.numbers) left) c.objects-after.ensures.heap c.args.d c.requires.register
    c.found-loaded.result (ap (λ (x : Machine). x.state) left)
    (value-found m.state (sym c.found-loaded.ensures.0) c.found-loaded.ensures.1)
