use Rattle.hd_heap.proofs.Basics.{Contents, ap, contents, object_at, region_with_object, region_with_part, ◌∙◌}
use Rattle.hd_heap.proofs.{Areas.area_after_write, RegionWrites.part_size}
use Rattle.hd_heap.proofs.area.Area.write.Goals as goal

pub returns : goal.returns
returns c =
    let write =
    λ (r : Contents). region_with_object r c.args.at (region_with_part (object_at r c.args.at) c.args.part) in
    let both = area_after_write c.args.at _ c.requires.area c.requires.object
    (c.write_part.ensures.written ∙ ap write c.deref_mut.ensures.value) c.write_part.ensures.laid_out
    (part_size (object_at (contents c.args.self.now) c.args.at) c.args.part) in
    record { area = both.0; written = both.1 }
