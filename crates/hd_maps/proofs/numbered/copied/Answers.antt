use Rattle.std.proofs.Common.{ap, nat_cmp, refl, subst, sym, ◌∙◌}
use Rattle.std.proofs.lemmas.Map.Entries.{entries_from_clone}
use Rattle.std.specs.List.Sorted.{IsStrictlySortedBy}
use Rattle.std.specs.Map.{keys_of}
use Rattle.std.specs.FinMap as map
use Rattle.hd_maps.proofs.numbered.copied.Goals as goal

pub invariant_of-result : goal.invariant_of-result
invariant_of-result c =
    let same = entries_from_clone _ _ (λ x y e. e) (λ v w e. refl) c.keys.inside.tree.entries c.in-Ok.tree.entries
    c.in-Ok.ensures.cases in
    subst (λ es. IsStrictlySortedBy nat_cmp (keys_of es)) (sym same) c.keys.invariant

pub returns-in-Ok : goal.returns-in-Ok
returns-in-Ok c =
    let same = entries_from_clone _ _ (λ x y e. e) (λ v w e. refl) c.keys.inside.tree.entries c.in-Ok.tree.entries
    c.in-Ok.ensures.cases in
    ap (λ es. map.from_sorted es) same ∙ c.keys.view_is
