use Rattle.std.proofs.Common.{ap, ◌∙◌}
use Rattle.std.specs.FinMap as map
use Rattle.hd_maps.proofs.NumberedMaps.{inserted}
use Rattle.hd_maps.proofs.numbered.Numbered.insert.Goals as goal

pub returns-in-Ok : goal.returns-in-Ok
returns-in-Ok g c =
    inserted c.self.inside.tree c.insert.new.self c.self.invariant c.insert.ensures.ordered c.args.key
    c.args.value c.in-Ok.ensures.updates
    ∙ ap (λ m. map.insert m c.args.key c.args.value) c.self.view_is
