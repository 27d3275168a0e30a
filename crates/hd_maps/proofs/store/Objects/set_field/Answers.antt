use Rattle.std.proofs.Common.{IsSome, ap, arith, is_some, length, length-set, subst, sym, ◌∙◌}
use Rattle.std.proofs.lemmas.Bool.{false≢true}
use Rattle.std.specs.FinMap.{get}
use Rattle.hd_model.specs.State.{Object}
use Rattle.hd_model.specs.declared.data.Id.{Id}
use Rattle.hd_maps.specs.StoredObjects.{IsYoungest, cells_of}
use Rattle.hd_maps.proofs.ObjectCells.{cells-edited, still-counted, youngest-edited}
use Rattle.hd_maps.proofs.store.Objects.set_field.Goals as goal

pub invariant_of-self : goal.invariant_of-self
invariant_of-self c =
    let known : IsSome (get c.self.inside.stored c.args.id) =
    subst (λ m. IsSome (get m c.args.id)) (sym c.self.view_is) c.requires.known in
    absurd (false≢true (ap is_some c.in_default.ensures.value ∙ known))

pub invariant_of-self-2 : goal.invariant_of-self-2
invariant_of-self-2 c =
    let known : IsSome (get c.self.inside.stored c.args.id) =
    subst (λ m. IsSome (get m c.args.id)) (sym c.self.view_is) c.requires.known in
    let same =
    ap cells_of (c.get_mut.follows.holds _ known)
    ∙ cells-edited c.self.inside.stored c.args.id _ _ c.in-Some.ensures.value
    (length-set c.object.inside.fields.items c.args.i c.args.v
    ∙ ap (λ (o : Object Id). length o.fields) c.object.view_is) in (
      still-counted c.self.invariant.0 same,
      subst (λ m. IsYoungest c.self.inside.youngest m) (sym (c.get_mut.follows.holds _ known))
          (youngest-edited c.self.invariant.1 c.args.id _ _ c.in-Some.ensures.value
          (λ high. let same = ap (λ (o : Object Id). o.generation) c.object.view_is in
          omega (arith, high, same))),
    )
