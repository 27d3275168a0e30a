use Rattle.hd_heap.proofs.Basics.{Contents, HEADER, None, ap, arith, get_or, length-map, region_with_put, sym, ℕ, ◌+◌, ◌∙◌}
use Rattle.hd_heap.specs.Inside.{region_filled, stored_target}
use Rattle.hd_heap.proofs.Areas.{area_after_put, count_small}
use Rattle.hd_heap.proofs.area.Area.put_filled.Goals as goal

pub overflow_add-self-3 : goal.overflow_add-self-3
overflow_add-self-3 c = omega (arith, count_small c.args.self.now c.requires.area)

pub returns : goal.returns
returns c =
    let was = c.deref_mut.ensures.value in
    let g = λ (i : ℕ). stored_target (get_or c.args.targets.now (c.args.first + i) None) in
    let o = region_filled c.args.id c.args.value c.args.registered c.args.targets.now c.args.first c.args.src.now
    in
    let both = area_after_put o c.requires.area c.requires.held
    (c.put_filled-at.ensures.put ∙ ap (λ (r : Contents). region_with_put r o) was) c.put_filled-at.ensures.laid_out
    (ap (λ n. n + HEADER) (sym (length-map c.args.src.now g))) in
    record {
      area = both.0;
      offset = c.put_filled-at.ensures.offset ∙ ap (λ (r : Contents). r.fill) was;
      put = both.1;
    }
