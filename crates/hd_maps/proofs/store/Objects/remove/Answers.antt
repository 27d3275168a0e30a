use Rattle.std.proofs.Common.{ap, arith, length, nat_cmp, subst, sym, ℕ, ◌+◌, ◌∙◌, ◌≡◌}
use Rattle.std.specs.FinMap.{FinMap, remove}
use Rattle.hd_model.specs.State.{Object}
use Rattle.hd_model.specs.declared.data.Id.{Id}
use Rattle.hd_maps.specs.StoredObjects.{IsYoungest, cells_of}
use Rattle.hd_maps.proofs.ObjectCells.{cells-none, cells-taken, still-counted, youngest-removed}
use Rattle.hd_maps.proofs.store.Objects.remove.Goals as goal
use Rattle.hd_maps.proofs.store.Objects.remove.Goals.{After-len}

removed : {g : ℕ} {m n : FinMap nat_cmp (Object Id)} → IsYoungest g m → (k : ℕ) → n ≡ remove m k
    → IsYoungest g n
removed {g} is k e = subst (λ q. IsYoungest g q) (sym e) (youngest-removed is k)

-- the cells of an object that is taken out are among those of all
taken : (c : After-len) → cells_of (remove c.self.inside.stored c.args.id) + (c.len.result + 3)
    ≡ cells_of c.self.inside.stored
taken c =
    let count : length c.object.inside.fields.items ≡ length c.in-Some.object.fields =
    ap (λ (o : Object Id). length o.fields) c.object.view_is in
    omega (
      arith,
      cells-taken c.self.inside.stored c.args.id c.in-Some.object (sym c.remove.ensures.1 ∙ c.in-Some.is),
      count,
      c.len.ensures,
    )

pub overflow_cast-size : goal.overflow_cast-size
overflow_cast-size c = record { fits = omega (arith, taken c, c.self.invariant.0.low) }

pub overflow_add-size : goal.overflow_add-size
overflow_add-size c = record { fits = omega (arith, taken c, c.self.invariant.0.low) }

pub overflow_sub-self : goal.overflow_sub-self
overflow_sub-self c = omega (arith, taken c, c.self.invariant.0.count)

pub invariant_of-self : goal.invariant_of-self
invariant_of-self c =
    let same = ap cells_of c.remove.ensures.0
    ∙ cells-none c.self.inside.stored c.args.id (sym c.remove.ensures.1 ∙ c.in_default.is) in
    (still-counted c.self.invariant.0 same, removed c.self.invariant.1 c.args.id c.remove.ensures.0)

pub invariant_of-self-2 : goal.invariant_of-self-2
invariant_of-self-2 c =
    let left = taken ((goal.at.invariant_of-self-2 c).After-len) in
    let same = ap cells_of c.remove.ensures.0 in (
      record {
        count = omega (arith, left, same, c.self.invariant.0.count);
        low = omega (arith, left, same, c.self.invariant.0.low);
      },
      removed c.self.invariant.1 c.args.id c.remove.ensures.0,
    )
