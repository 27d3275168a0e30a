use Rattle.std.proofs.Common.{nat_eq, take, ℕ, ◌≡◌}
use Rattle.std.specs.HashSet.{contains}
use Rattle.hd_links.specs.Pins.{is_pinned_by}
use Rattle.hd_links.proofs.pins.pinned_objects.Given as goal

abbrev pub invariant-loop-handle : goal.invariant-loop-handle
invariant-loop-handle l =
    (x : ℕ) → contains nat_eq l.set x ≡ is_pinned_by (take l.handle-index l.handles) x
