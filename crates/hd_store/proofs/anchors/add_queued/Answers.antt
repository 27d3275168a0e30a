use Rattle.hd_store.proofs.StoreWords.{◌<◌, ◌∙◌, ◌++◌, ◌∷◌, [], sym, ap, length, take, arith, append_assoc}
use Rattle.std.proofs.lemmas.List.{take_more}
use Rattle.hd_store.proofs.anchors.add_queued.Goals as goal

pub loop-i-preserved : goal.loop-i-preserved
loop-i-preserved c =
    let queued = c.args.queue.now.queued in
    let low : c.loop-i.i < length queued = omega (arith, c.loop-i-test.true, c.len-i-end.ensures.value) in
    c.in_ok-add.ensures ∙ (λ k. c.loop-i.invariant k ++ c.at.ensures c.at.result k ∷ [])
    ∙ append_assoc c.args.anchors.now.items (take c.loop-i.i queued) _
    ∙ ap (λ xs. c.args.anchors.now.items ++ xs) (sym (take_more queued c.loop-i.i c.at.result low))
