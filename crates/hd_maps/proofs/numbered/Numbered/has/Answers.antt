use Rattle.std.proofs.Common.{ap, is_some, sym, ◌∙◌}
use Rattle.std.specs.FinMap as map
use Rattle.hd_maps.proofs.NumberedMaps.{get_seen}
use Rattle.hd_maps.proofs.numbered.Numbered.has.Goals as goal

pub returns : goal.returns
returns g c =
    c.contains_key.ensures ∙ ap is_some (sym (get_seen c.self.inside.tree.entries c.self.invariant c.args.key)
    ∙ ap (λ m. map.get m c.args.key) c.self.view_is)
