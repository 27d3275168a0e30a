use Rattle.std.proofs.Common.{ap, ◌++◌, ◌∙◌}
use Rattle.std.specs.Prelude.{flat_map}
use Rattle.hd_maps.specs.LentValues.{lent_entry}
use Rattle.hd_plain.specs.Inside.{young_in, young_one}
use Rattle.hd_plain.proofs.YoungObjects.{flat_map-map}
use Rattle.hd_plain.proofs.collecting.young_ids.Goals as goal

pub returns : goal.returns
returns c =
    let n = c.args.n in
    c.in_ok-push_all_young.ensures
    ∙ (λ i. c.new-ids.ensures.items i ++ flat_map (young_in n) (c.deref.ensures.value i))
    ∙ flat_map-map (young_one n) lent_entry c.in_ok-entries.entries.items
    ∙ ap (flat_map (young_one n)) c.in_ok-entries.ensures
