use Rattle.std.proofs.Common.{[], ap, arith, sym, ◌++◌, ◌<◌, ◌∙◌, ◌∷◌, length}
use Rattle.std.proofs.lemmas.List.{take_more}
use Rattle.hd_store.specs.Store.{Machine}
use Rattle.hd_snapshot.proofs.roots.queue.Goals as goal

pub loop-i-preserved : goal.loop-i-preserved
loop-i-preserved c =
    let long = ap (λ (m : Machine). length m.state.queue) c.contents-contents.ensures.value in
    let within : c.loop-i.i < length c.args.store.now.state.queue = omega (arith, long) in
    c.in_ok-push.ensures.items
    ∙ (λ j. c.loop-i.invariant j ++ c.queued_at.ensures c.queued_at.result j ∷ [])
    ∙ sym (take_more c.args.store.now.state.queue c.loop-i.i c.queued_at.result within)
