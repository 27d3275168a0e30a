use Rattle.hd_cwt.proofs.Basics.{None, WeakTable, arith, get, len, refl, room_of, slots_of, subst, sym, ◌<◌, ◌≡◌}
use Rattle.hd_cwt.proofs.KeyChanges.{hold_listed, relisted}
use Rattle.hd_cwt.proofs.cwt.Cwt.hold.Goals as goal

pub overflow_add-self : goal.overflow_add-self
overflow_add-self c = record {
  fits = omega (arith, c.self.invariant.counted, c.self.invariant.table.fits, c.self.invariant.table.limit);
}

pub invariant_of-self : goal.invariant_of-self
invariant_of-self c =
    let slot = c.args.slot in
    let back = sym c.self.view_is in
    relisted (hold_listed c.self.invariant slot
    (subst (λ (t : WeakTable). slot < slots_of t) back c.requires.within)
    (subst (λ (t : WeakTable). get t.held slot ≡ None) back c.requires.free)
    (subst (λ (t : WeakTable). len t.held < room_of t) back c.requires.room)) c.clear.ensures refl refl refl
