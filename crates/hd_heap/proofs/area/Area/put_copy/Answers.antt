use Rattle.hd_heap.proofs.Basics.{Contents, HEADER, ap, arith, object_at, region_with_put, ◌+◌, ◌∙◌}
use Rattle.hd_heap.proofs.Areas.{area_after_put, count_small}
use Rattle.hd_heap.proofs.area.Area.put_copy.Goals as goal

pub overflow_add-self-3 : goal.overflow_add-self-3
overflow_add-self-3 c = omega (arith, count_small c.args.self.now c.requires.area)

pub returns : goal.returns
returns c =
    let was = c.deref_mut.ensures.value in
    let o = object_at c.args.source.now c.args.from in
    let both = area_after_put o c.requires.area c.requires.held
    (c.put_copy.ensures.put ∙ ap (λ (r : Contents). region_with_put r o) was) c.put_copy.ensures.laid_out
    (ap (λ n. n + HEADER) c.fields.ensures.count) in
    record {
      area = both.0;
      offset = c.put_copy.ensures.offset ∙ ap (λ (r : Contents). r.fill) was;
      put = both.1;
    }
