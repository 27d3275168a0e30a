use Rattle.std.proofs.Common.{ap, map, sym, ◌∙◌}
use Rattle.std.specs.Option.{option_map}
use Rattle.hd_model.specs.Heap.{id_at}
use Rattle.hd_snapshot.proofs.HeapObjects.{fields-there, generation-there, id-there}
use Rattle.hd_snapshot.proofs.objects.seen_object.Goals as goal

pub returns : goal.returns
returns c =
    let h = c.args.heap.now in
    let a = c.args.at in
    let object = c.requires.object in
    λ i. record {
      id = (c.id.ensures.identity ∙ sym (id-there h a object)) i;
      object = record {
        fields = (c.in_ok-fields_of.ensures
            ∙ ap (map (option_map (id_at h))) (fields-there h a object)) i;
        value = c.value.ensures i;
        generation = (c.generation.ensures.value ∙ generation-there h a object) i;
        registered = c.registered.ensures i;
      };
      address = a.0;
    }
