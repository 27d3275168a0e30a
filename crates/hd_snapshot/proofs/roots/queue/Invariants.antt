use Rattle.std.proofs.Common.{take, ◌≡◌}
use Rattle.hd_snapshot.proofs.roots.queue.Given as goal

-- as many of them as were read
abbrev pub invariant-loop-i : goal.invariant-loop-i
invariant-loop-i l = l.seen.items ≡ take l.i l.store.state.queue
