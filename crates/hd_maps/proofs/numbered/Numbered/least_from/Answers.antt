use Rattle.hd_maps.proofs.NumberedMaps.{least_of, none_from_on}
use Rattle.hd_maps.proofs.numbered.Numbered.least_from.Goals as goal

pub returns-in-Some : goal.returns-in-Some
returns-in-Some g c =
    least_of c.self.inside.tree c.self.invariant c.self.view_is (c.range.ensures.in_range tt)
    c.in-Some.key.now c.in-Some.field-0-1.now c.next.new.self c.in-Some.ensures.steps

pub returns-in-None : goal.returns-in-None
returns-in-None g c =
    none_from_on c.self.inside.tree c.self.invariant c.self.view_is (c.range.ensures.in_range tt)
    c.in-None.ensures.steps.0
