use Rattle.hd_heap.proofs.Basics.{Contents, HEADER, ap, contents, length-map, object_at, region_forwarded, region_with_object, stored_forwarding, ◌+◌, ◌∙◌}
use Rattle.hd_heap.proofs.Areas.{area_after_write}
use Rattle.hd_heap.proofs.area.Area.forward_fields.Goals as goal

pub returns : goal.returns
returns g c =
    let forwarding = g.F.Forward.forwarding c.args.forward.now in
    let write = λ (r : Contents). region_with_object r c.args.at (region_forwarded forwarding (object_at r c.args.at)) in
    let fields = (object_at (contents c.args.self.now) c.args.at).fields in
    let both = area_after_write c.args.at _ c.requires.area c.requires.object
    (c.forward_fields.ensures.written ∙ ap write c.deref_mut.ensures.value) c.forward_fields.ensures.laid_out
    (ap (λ n. n + HEADER) (length-map fields (stored_forwarding forwarding))) in
    record { area = both.0; written = both.1 }
