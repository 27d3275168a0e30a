use Rattle.hd_heap.proofs.Basics.{HEADER, MayForward, Object, ap, length, length-map, object_at, offset_of, region_forwarded, region_with_object, stored_forwarding, subst, sym, ◌+◌, ◌∙◌}
use Rattle.hd_heap.proofs.FieldForward.{put_again, put_placed}
use Rattle.hd_heap.proofs.forwarding.copy_forwarded.Goals as goal

pub forward_fields-requires : goal.forward_fields-requires
forward_fields-requires g c =
    let o = object_at c.args.source.now (offset_of c.args.from) in
    let (there, same) = put_placed c.args.region.now c.put_copy-at.new.self c.put_copy-at.result o
    c.put_copy-at.ensures.offset c.put_copy-at.ensures.put in
    record {
      laid_out = c.put_copy-at.ensures.laid_out;
      object = there;
      number = c.fields-fields.ensures.count ∙ ap (λ (x : Object). length x.fields) (sym same);
      laid = c.requires.laid;
      kept = subst (λ (x : Object). MayForward (g.F.Forward.kept c.args.forward.now) x.fields) (sym same)
          c.requires.kept;
    }

pub returns-clause-put : goal.returns-clause-put
returns-clause-put g c =
    let o = object_at c.args.source.now (offset_of c.args.from) in
    let (_, same) = put_placed c.args.region.now c.put_copy-at.new.self c.put_copy-at.result o
    c.put_copy-at.ensures.offset c.put_copy-at.ensures.put in
    let forwarding = g.F.Forward.forwarding c.args.forward.now in
    c.forward_fields.ensures.written ∙ (λ i. region_with_object (c.put_copy-at.ensures.put i) c.put_copy-at.result
    (region_forwarded forwarding (same i))) ∙ put_again c.args.region.now c.put_copy-at.result
    c.put_copy-at.ensures.offset o (region_forwarded forwarding o)
    (ap (λ n. n + HEADER) (length-map o.fields (stored_forwarding forwarding)))
