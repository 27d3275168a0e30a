use Rattle.hd_heap.proofs.Basics.{ap, object_at, region_with_object, sym, with_field, ◌∙◌}
use Rattle.hd_heap.specs.Inside.{stored_target}
use Rattle.hd_heap.proofs.FieldFill.{null_written}
use Rattle.hd_heap.proofs.filling.fill_field.Goals as goal

pub returns-in-None-clause-written : goal.returns-in-None-clause-written
returns-in-None-clause-written c =
    let r = c.args.region.now in
    null_written r c.args.at c.args.i c.requires.object c.requires.null
    ∙ ap (λ v. region_with_object r c.args.at (with_field (object_at r c.args.at) c.args.i (stored_target v)))
    (sym c.in-None.is)
