use Rattle.std.proofs.Common.{None, ap, arith, length, subst, sym, ◌+◌, ◌∙◌, ◌≡◌}
use Rattle.std.specs.FinMap.{get}
use Rattle.hd_model.specs.State.{Object}
use Rattle.hd_model.specs.declared.data.Id.{Id}
use Rattle.hd_maps.specs.StoredObjects.{IsYoungest, cells_of}
use Rattle.hd_maps.proofs.ObjectCells.{cells-added, youngest-added}
use Rattle.hd_maps.proofs.store.Objects.add.Goals as goal

pub invariant_of-self-2 : goal.invariant_of-self-2
invariant_of-self-2 c =
    let fresh : get c.self.inside.stored c.args.id ≡ None =
    ap (λ m. get m c.args.id) c.self.view_is ∙ c.requires.fresh in
    let size = length c.args.object.fields + 3 in
    let grown : cells_of c.insert.new.self ≡ cells_of c.self.inside.stored + size =
    ap cells_of c.in_ok-insert.ensures ∙ cells-added c.self.inside.stored c.args.id c.args.object fresh in
    let count : length c.object.inside.fields.items ≡ length c.args.object.fields =
    ap (λ (o : Object Id). length o.fields) c.object.view_is in
    let generation : c.object.inside.generation ≡ c.args.object.generation =
    ap (λ (o : Object Id). o.generation) c.object.view_is in (
      record {
        count = omega (arith, grown, count, c.len.ensures, c.self.invariant.0.count, c.object.inside.fields.ok.0);
        low = omega (arith, grown, ap cells_of c.self.view_is, c.requires.room);
      },
      subst (λ m. IsYoungest c.least-self-inside.result m) (sym c.in_ok-insert.ensures)
          (youngest-added c.self.invariant.1 c.least-self-inside.result c.args.id c.args.object
          c.least-self-inside.ensures.0
          (omega (arith, c.least-self-inside.ensures.1, generation))),
    )
