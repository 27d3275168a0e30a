use Rattle.hd_final.proofs.Basics.{Addr, AllPairs, Contains, Queue, ap, arith, length, length-map, map, set, slice_index_or, subst, sym, true, ◌<◌, ◌∙◌, ◌≡◌, ◌≢◌, ◌≤◌}
use Rattle.hd_final.proofs.QueueRelocate.{part_read, part_more, part_all, apart_moved}
use Rattle.hd_final.proofs.queue.Final.relocate.Goals as goal

pub invariant_of-self : goal.invariant_of-self
invariant_of-self g c =
    let forwarding = g.F.Forward.forwarding c.args.forward.now in
    let old = c.self.inside.queued.items in
    let high : length old ≤ c.loop-i.i = omega (arith, c.len-i-end.ensures, c.self.inside.queued.ok.0) in
    let now : c.loop-i.self-inside.queued.items ≡ map forwarding old =
    part_all forwarding old c.loop-i.i c.loop-i.self-inside.queued.items high c.loop-i.invariant.0 in
    let keeps = g.met.F.Forward.keeps c.args.forward.now c.requires.laid in
    let kept : (a : Addr) → Contains old a → g.F.Forward.kept c.args.forward.now a ≡ true =
    λ a h. c.requires.kept a (subst (λ (q : Queue). Contains q.queued a) c.self.view_is h) in
    let apart = apart_moved forwarding old (λ x y h k same. keeps.apart x y (kept x h) (kept y k) same)
    c.self.invariant.once in
    record {
      once = subst (λ xs. AllPairs (λ x y. x ≢ y) xs) (sym now) apart;
      fits = omega (
        arith,
        c.self.invariant.fits,
        ap length now,
        length-map old forwarding,
        c.loop-i.invariant.2,
      );
      low = omega (arith, c.self.invariant.low, c.loop-i.invariant.2);
      held = omega (arith, c.self.invariant.held, c.loop-i.invariant.1, c.loop-i.invariant.2);
      joiners = omega (arith, c.self.invariant.joiners, c.loop-i.invariant.2, c.loop-i.invariant.3);
    }

pub loop-i-preserved : goal.loop-i-preserved
loop-i-preserved g c =
    let forwarding = g.F.Forward.forwarding c.args.forward.now in
    let old = c.self.inside.queued.items in
    let low : c.loop-i.i < length old = omega (arith, c.len-i-end.ensures, c.self.inside.queued.ok.0) in
    let moved : c.moved.result ≡ forwarding (slice_index_or old c.loop-i.i c.index.result.now) =
    c.moved.ensures ∙ ap forwarding (c.index.ensures ∙ part_read forwarding old c.loop-i.i
    c.loop-i.self-inside.queued.items c.index.result.now low c.loop-i.invariant.0) in (
      ap (set c.loop-i.self-inside.queued.items c.loop-i.i) moved
          ∙ part_more forwarding old c.loop-i.i c.loop-i.self-inside.queued.items c.index.result.now low
          c.loop-i.invariant.0,
      c.loop-i.invariant.1,
      c.loop-i.invariant.2,
      c.loop-i.invariant.3,
    )
