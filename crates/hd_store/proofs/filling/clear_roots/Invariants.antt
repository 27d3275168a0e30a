use Rattle.std.proofs.Common.{◌≡◌}
use Rattle.hd_store.specs.Hosted.{nulled}
use Rattle.hd_store.proofs.filling.clear_roots.Given as goal

-- the first of them are null
abbrev pub invariant-loop-i : goal.invariant-loop-i
invariant-loop-i l = l.roots ≡ nulled l.at l.i l.initial.roots
