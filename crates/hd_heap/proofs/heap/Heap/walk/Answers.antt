use Rattle.hd_heap.proofs.Basics.{Addr, IsWalk, Option, is_wanted, subst, sym}
use Rattle.hd_heap.proofs.RegionWalk.{walk_from, wanted_high}
use Rattle.hd_heap.proofs.heap.Heap.walk.Goals as goal

pub returns-in_default-clause-walk : goal.returns-in_default-clause-walk
returns-in_default-clause-walk c =
    subst (λ (o : Option Addr). IsWalk (is_wanted c.args.self.now c.args.wanted) o c.first_from.result)
    (sym c.in_default.is)
    (walk_from (is_wanted c.args.self.now c.args.wanted) c.first_from.result c.first_from.ensures.first
    (λ b want. wanted_high c.args.self.now c.args.wanted b c.first_from.ensures.sound want))
