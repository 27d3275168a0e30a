use Rattle.std.proofs.Common.{List, [], ap, map, sym, ◌++◌, ◌∙◌, ◌∷◌}
use Rattle.std.proofs.lemmas.List.{map-append}
use Rattle.std.proofs.lemmas.Map.Iter.{iter_end}
use Rattle.std.specs.BTreeMap as tree
use Rattle.std.specs.FinMap as finmap
use Rattle.std.specs.Map.Iter.{deref}
use Rattle.hd_maps.proofs.NumberedMaps.{entries_seen}
use Rattle.hd_maps.proofs.numbered.Numbered.values.Goals as goal

pub loop-value-preserved : goal.loop-value-preserved
loop-value-preserved g c =
    c.in-Ok.ensures.items ∙ ap (λ (xs : List _). xs ++ c.in-Some.value.now ∷ []) c.loop-value.invariant
    ∙ sym (map-append deref c.loop-value.yielded (c.in-Some.value ∷ []))

pub returns : goal.returns
returns g c =
    c.loop-value.invariant
    ∙ (iter_end deref (tree.values c.self.inside.tree) c.loop-value.yielded c.into_iter-value-iterator.result
    c.loop-value.value-iterator c.next.new.self c.next.result
    (c.into_iter-value-iterator.ensures.into_iter_gives ∙ c.values-value-items.ensures.rest)
    c.loop-value.yielded_by c.in-None.is c.next.ensures.steps).0
    ∙ ap (map (λ e. e.1)) (sym (entries_seen c.self.inside.tree.entries c.self.invariant))
    ∙ ap (λ m. finmap.values m) c.self.view_is
