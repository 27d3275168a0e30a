use Rattle.std.proofs.Common.{List, [], ap, sym, ℕ, ◌++◌, ◌∙◌, ◌∷◌}
use Rattle.std.proofs.lemmas.List.{map-append}
use Rattle.std.proofs.lemmas.Map.Iter.{iter_end}
use Rattle.std.specs.BTreeMap as tree
use Rattle.std.specs.FinMap as map
use Rattle.std.specs.Map.{keys_of}
use Rattle.std.specs.Map.Iter.{deref}
use Rattle.hd_maps.proofs.NumberedMaps.{entries_seen}
use Rattle.hd_maps.proofs.numbered.Numbered.keys.Goals as goal

pub loop-key-preserved : goal.loop-key-preserved
loop-key-preserved g c =
    c.in-Ok.ensures.items ∙ ap (λ (xs : List ℕ). xs ++ c.in-Some.key.now ∷ []) c.loop-key.invariant
    ∙ sym (map-append deref c.loop-key.yielded (c.in-Some.key ∷ []))

pub returns : goal.returns
returns g c =
    c.loop-key.invariant
    ∙ (iter_end deref (tree.keys c.self.inside.tree) c.loop-key.yielded c.into_iter-key-iterator.result
    c.loop-key.key-iterator c.next.new.self c.next.result
    (c.into_iter-key-iterator.ensures.into_iter_gives ∙ c.keys-key-items.ensures.rest) c.loop-key.yielded_by
    c.in-None.is c.next.ensures.steps).0
    ∙ ap keys_of (sym (entries_seen c.self.inside.tree.entries c.self.invariant))
    ∙ ap (λ m. map.keys m) c.self.view_is
