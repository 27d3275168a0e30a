use Rattle.std.proofs.Common.{ap, option_map, sym, ◌∙◌}
use Rattle.std.proofs.lemmas.Result.{IfOk-weaker}
use Rattle.std.specs.FinMap.{keys}
use Rattle.hd_maps.specs.View.{entry_of}
use Rattle.hd_maps.proofs.SeenMaps.{keys_as}
use Rattle.hd_maps.proofs.weak.Weak.slots.Goals as goal

pub returns : goal.returns
returns c =
    IfOk-weaker c.keys.result _ _
    (λ slots is. is ∙ sym (keys_as (option_map entry_of) c.self.inside.slots)
    ∙ ap (λ m. keys m) c.self.view_is) c.keys.ensures
