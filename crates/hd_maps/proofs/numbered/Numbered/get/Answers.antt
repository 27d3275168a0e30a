use Rattle.std.proofs.Common.{ap, sym, ◌∙◌}
use Rattle.std.specs.FinMap as map
use Rattle.hd_maps.proofs.NumberedMaps.{get_seen}
use Rattle.hd_maps.proofs.numbered.Numbered.get.Goals as goal

pub returns : goal.returns
returns g c =
    c.get.ensures.value ∙ sym (get_seen c.self.inside.tree.entries c.self.invariant c.args.key)
    ∙ ap (λ m. map.get m c.args.key) c.self.view_is
