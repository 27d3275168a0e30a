-- What the list of callers is once it was lent.
use Rattle.std.specs.{Prelude.List, Prelude.length, List.refill}
use Rattle.std.specs.Borrow.{Lends, MutBor, Fml, Array}
use Rattle.hd_gate.specs.{Shared.CallerView, contracts.callers.Callers.the_row}
use Rattle.hd_gate.specs.contracts.callers.Caller as caller

-- the callers are those that the last write to the slice left; a slice keeps its length
abbrev pub lends_all : MutBor (List CallerView) → MutBor (List CallerView) → Fml
lends_all c r = Lends the_row (Array caller.the_row 0) c r (λ w. refill (length c.now) c.now w)
