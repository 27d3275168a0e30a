use Rattle.hd_heap.proofs.Basics.{Contents, HEADER, ap, arith, length-replicate, new_region_object, region_with_put, sym, ℕ, ◌+◌, ◌∙◌}
use Rattle.hd_heap.proofs.Areas.{area_after_put, count_small}
use Rattle.hd_heap.proofs.area.Area.put.Goals as goal

pub overflow_add-self-3 : goal.overflow_add-self-3
overflow_add-self-3 c = omega (arith, count_small c.args.self.now c.requires.area)

pub returns : goal.returns
returns c =
    let was = c.deref_mut.ensures.value in
    let o = new_region_object c.args.id c.args.fields c.args.registered in
    let nulls = length-replicate c.args.fields (let z : ℕ = 0 in z) in
    let both = area_after_put o c.requires.area c.requires.held
    (c.put_object.ensures.put ∙ ap (λ (r : Contents). region_with_put r o) was) c.put_object.ensures.laid_out
    (ap (λ n. n + HEADER) (sym nulls)) in
    record {
      area = both.0;
      offset = c.put_object.ensures.offset ∙ ap (λ (r : Contents). r.fill) was;
      put = both.1;
    }
