use Rattle.hd_heap.proofs.Basics.{false, get_or, ℕ, ◌<◌, ◌≡◌}
use Rattle.hd_heap.proofs.area.Area.has_set_card.Given as goal

abbrev pub invariant-loop-set : goal.invariant-loop-set
invariant-loop-set l = (k : ℕ) → k < l.set-index → get_or l.self.cards k false ≡ false
