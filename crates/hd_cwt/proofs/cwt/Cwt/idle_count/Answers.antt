use Rattle.hd_cwt.proofs.Basics.{IsIdle, WeakTable, arith, len, length, subst, ◌-◌, ◌≡◌}
use Rattle.hd_cwt.proofs.IdleCount.{fewer_keyed, idle_counted}
use Rattle.hd_cwt.proofs.cwt.Cwt.idle_count.Goals as goal
use Rattle.hd_model.specs.Counting.{Counts}

pub overflow_cast-result : goal.overflow_cast-result
overflow_cast-result c =
    omega (arith, fewer_keyed c.self.invariant, c.self.invariant.counted, c.len.ensures)

pub overflow_sub-result : goal.overflow_sub-result
overflow_sub-result c =
    omega (arith, fewer_keyed c.self.invariant, c.self.invariant.counted, c.len.ensures)

pub returns : goal.returns
returns c =
    let many : len c.self.inside.entries.held - length c.self.inside.keyed.slots.items
    ≡ c.self.inside.count - c.len.result = omega (arith, c.self.invariant.counted, c.len.ensures) in
    subst (λ (t : WeakTable). Counts (IsIdle t) (c.self.inside.count - c.len.result)) c.self.view_is
    (subst (Counts (IsIdle c.self.inside.entries)) many (idle_counted c.self.invariant))
