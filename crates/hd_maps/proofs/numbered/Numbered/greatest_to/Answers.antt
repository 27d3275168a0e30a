use Rattle.hd_maps.proofs.NumberedMaps.{greatest_of, none_up_to}
use Rattle.hd_maps.proofs.numbered.Numbered.greatest_to.Goals as goal

pub returns-in-None : goal.returns-in-None
returns-in-None g c =
    none_up_to c.self.inside.tree c.self.invariant c.self.view_is (c.range.ensures.in_range tt)
    c.in-None.ensures.steps.0

pub returns-in-Some : goal.returns-in-Some
returns-in-Some g c =
    greatest_of c.self.inside.tree c.self.invariant c.self.view_is (c.range.ensures.in_range tt)
    c.in-Some.key.now c.in-Some.field-0-1.now c.next_back.new.self c.in-Some.ensures.steps
