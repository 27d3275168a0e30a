use Rattle.hd_final.proofs.Basics.{Contains, Contains-get_or, Queue, ap, arith, get_or, length, subst, sym, ◌<◌, ◌∙◌, ◌≡◌}
use Rattle.hd_final.proofs.SettleSteps.{settled_more, settled_has}
use Rattle.hd_final.proofs.queue.Final.settle.Goals as goal

pub loop-i-preserved : goal.loop-i-preserved
loop-i-preserved c =
    let queued = c.args.self.now.queued in
    let seen : c.self.inside.queued.items ≡ queued = ap (λ (q : Queue). q.queued) c.self.view_is in
    let within : c.loop-i.i < length queued =
    omega (arith, c.len-i-end.ensures, c.self.inside.queued.ok.0, ap length seen) in
    let read : c.index.result.now ≡ get_or queued c.loop-i.i c.index.result.now =
    c.index.ensures ∙ ap (λ xs. get_or xs c.loop-i.i c.index.result.now) seen in
    let is_queued : Contains queued c.index.result.now =
    subst (λ a. Contains queued a) (sym read)
    (Contains-get_or queued c.loop-i.i c.index.result.now within) in
    settled_more queued c.args.from c.loop-i.i c.args.heap.now c.loop-i.heap c.set_registered.new.self
    c.index.result.now (omega arith) within read c.loop-i.invariant
    (settled_has _ c.args.heap.now c.loop-i.heap c.loop-i.invariant c.index.result.now
    ∙ c.requires c.index.result.now is_queued)
    c.set_registered.ensures
