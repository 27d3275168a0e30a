use Rattle.std.proofs.Common.{List, [], ap, map, sym, ◌++◌, ◌∙◌, ◌∷◌}
use Rattle.std.proofs.lemmas.List.{map-append}
use Rattle.std.proofs.lemmas.Map.Iter.{iter_end}
use Rattle.std.specs.FinMap as finmap
use Rattle.std.specs.Map.Iter.{deref_pair}
use Rattle.hd_maps.specs.LentValues.{lent_entry}
use Rattle.hd_maps.proofs.NumberedMaps.{entries_seen}
use Rattle.hd_maps.proofs.numbered.Numbered.entries.Goals as goal

pub loop-key-preserved : goal.loop-key-preserved
loop-key-preserved g c =
    ap (map lent_entry) c.in-Ok.ensures.items
    ∙ map-append lent_entry c.loop-key.entries.items ((c.in-Some.key.now, c.in-Some.value) ∷ [])
    ∙ ap (λ (xs : List _). xs ++ (c.in-Some.key.now, c.in-Some.value.now) ∷ []) c.loop-key.invariant
    ∙ sym (map-append deref_pair c.loop-key.yielded ((c.in-Some.key, c.in-Some.value) ∷ []))

pub returns : goal.returns
returns g c =
    c.loop-key.invariant
    ∙ (iter_end deref_pair c.self.inside.tree.entries c.loop-key.yielded c.into_iter-key-iterator.result
    c.loop-key.key-iterator c.next.new.self c.next.result
    (c.into_iter-key-iterator.ensures.into_iter_gives ∙ c.iter-key-items.ensures.rest) c.loop-key.yielded_by
    c.in-None.is c.next.ensures.steps).0
    ∙ sym (entries_seen c.self.inside.tree.entries c.self.invariant)
    ∙ ap (λ m. finmap.entries m) c.self.view_is
