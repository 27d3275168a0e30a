use Rattle.std.proofs.Common.{ap, sym, ◌∙◌}
use Rattle.std.specs.FinMap as map
use Rattle.hd_maps.proofs.NumberedMaps.{get_seen, removed}
use Rattle.hd_maps.proofs.numbered.Numbered.remove.Goals as goal

pub returns : goal.returns
returns g c = (
  removed c.self.inside.tree c.remove.new.self c.self.invariant c.remove.ensures.ordered c.args.key
      c.remove.ensures.updates
      ∙ ap (λ m. map.remove m c.args.key) c.self.view_is,
  c.remove.ensures.value ∙ sym (get_seen c.self.inside.tree.entries c.self.invariant c.args.key)
      ∙ ap (λ m. map.get m c.args.key) c.self.view_is,
)
