use Rattle.hd_gate.proofs.Basics.{ap, ◌∙◌}
use Rattle.hd_slots.proofs.TiedPool.{tied_at_start}
use Rattle.std.specs.FinMap as map
use Rattle.std.specs.FinSet as set
use Rattle.hd_gate.proofs.alone.Alone.open.Goals as goal

pub invariant_of-result : goal.invariant_of-result
invariant_of-result c =
    tied_at_start c.args.world.numbers c.args.world.state c.in_ok-pool.pool c.requires.start
    (c.in_ok-pool.ensures ∙ ap (λ blocks. record { blocks = blocks; kinds = map.empty; free = set.empty })
    c.requires.same)
