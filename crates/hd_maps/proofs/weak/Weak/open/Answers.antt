use Rattle.hd_maps.proofs.WeakCalls.{opened, seen_open}
use Rattle.hd_maps.proofs.weak.Weak.open.Goals as goal

pub invariant_of-result : goal.invariant_of-result
invariant_of-result c =
    opened c.new-slots.result c.new-by_key.result c.new-idle.result c.new-slots.ensures c.new-by_key.ensures
    c.new-idle.ensures

pub returns : goal.returns
returns c = seen_open c.new-slots.result c.new-slots.ensures
