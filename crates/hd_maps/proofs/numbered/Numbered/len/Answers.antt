use Rattle.std.proofs.Common.{ap, sym, ◌∙◌}
use Rattle.std.specs.FinMap as map
use Rattle.hd_maps.proofs.NumberedMaps.{len_seen}
use Rattle.hd_maps.proofs.numbered.Numbered.len.Goals as goal

pub returns-clause-value : goal.returns-clause-value
returns-clause-value g c =
    c.len.ensures.len ∙ sym (len_seen c.self.inside.tree.entries c.self.invariant)
    ∙ ap (λ m. map.len m) c.self.view_is
