use Rattle.hd_store.proofs.StoreWords.{None, ap, arith, set, sym, ◌+◌, ◌∙◌, ◌≡◌}
use Rattle.hd_store.specs.Hosted.{nulled}
use Rattle.hd_store.proofs.ClearedRoots.{nulled-next, nulled-none}
use Rattle.hd_store.proofs.filling.clear_roots.Goals as goal

pub loop-i-init : goal.loop-i-init
loop-i-init c = sym (nulled-none c.args.at c.args.roots.now)

pub loop-i-preserved : goal.loop-i-preserved
loop-i-preserved c =
    ap (λ xs. set xs (c.args.at + c.loop-i.i) None) c.loop-i.invariant
    ∙ nulled-next c.args.at c.loop-i.i c.args.roots.now

pub returns : goal.returns
returns c =
    let all : c.loop-i.i ≡ c.args.n = omega (arith, c.loop-i-test.false, c.loop-i.auto.i-end) in
    c.loop-i.invariant ∙ ap (λ k. nulled c.args.at k c.args.roots.now) all
