use Rattle.std.proofs.Common.{IsSome, ap, is_some, length, subst, sym, ◌∙◌, ◌≤◌}
use Rattle.std.proofs.lemmas.Bool.{false≢true}
use Rattle.std.specs.FinMap.{get}
use Rattle.hd_model.specs.State.{Object}
use Rattle.hd_model.specs.declared.data.Id.{Id}
use Rattle.hd_maps.specs.StoredObjects.{IsYoungest, cells_of}
use Rattle.hd_maps.proofs.ObjectCells.{cells-edited, edited-from, edited-length, still-counted, youngest-edited}
use Rattle.hd_maps.proofs.store.Objects.edit.Goals as goal

pub invariant_of-self : goal.invariant_of-self
invariant_of-self c =
    let known : IsSome (get c.self.inside.stored c.args.id) =
    subst (λ m. IsSome (get m c.args.id)) (sym c.self.view_is) c.requires in
    absurd (false≢true (ap is_some c.in_default.ensures.value ∙ known))

pub invariant_of-self-2 : goal.invariant_of-self-2
invariant_of-self-2 c =
    let known : IsSome (get c.self.inside.stored c.args.id) =
    subst (λ m. IsSome (get m c.args.id)) (sym c.self.view_is) c.requires in
    let same =
    ap cells_of (c.get_mut.follows.holds _ known)
    ∙ cells-edited c.self.inside.stored c.args.id _ _ c.in-Some.ensures.value
    (ap (λ (o : Object Id). length o.fields) c.edit.ensures
    ∙ edited-length c.args.edit c.in-Some.object.now) in (
      still-counted c.self.invariant.0 same,
      subst (λ m. IsYoungest c.self.inside.youngest m) (sym (c.get_mut.follows.holds _ known))
          (youngest-edited c.self.invariant.1 c.args.id c.in-Some.object.now _ c.in-Some.ensures.value
          (λ high. subst (λ (o : Object Id). c.self.inside.youngest ≤ o.generation) (sym c.edit.ensures)
          (edited-from c.self.invariant.1.low c.args.edit c.in-Some.object.now high))),
    )
