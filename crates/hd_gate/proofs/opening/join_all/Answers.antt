use Rattle.hd_gate.proofs.Basics.{CallerView, HasEnded, Known, [], ap, arith, length, length-append, slice_index_or, subst, sym, ◌+◌, ◌∙◌, ◌∷◌, ◌≡◌}
use Rattle.hd_gate.proofs.CallerClose.{one_more_ended, ends_in, shorter, rest_less, is_last}
use Rattle.hd_gate.proofs.opening.join_all.Goals as goal

pub loop-caller-preserved : goal.loop-caller-preserved
loop-caller-preserved c =
    let inv = c.loop-caller.invariant in
    let all = c.remove.new.self.items in
    let xs = c.loop-caller.list.items in
    let ys = c.pop.new.self.items in
    let x = c.in-Some.caller in
    let popped = c.in-Some.ensures.items in
    let v = c.loop-caller.seat.view in
    let w = c.caller.inside.seat.view in
    let is = ap (λ (k : Known _). k.view) c.join.ensures.first in
    let ended = ap (λ (k : Known _). k.view.ended) c.join.ensures.first in
    let last = is_last all xs ys x popped inv.rest in
    let count = shorter all xs ys x popped inv.rest in
    let fewer : length all + 1 ≡ length c.args.list.items =
    omega (arith, c.remove.ensures.len, c.remove.new.self.ok.0, c.args.list.ok.0) in
    let moved : (d : CallerView) → slice_index_or all (length ys) d
    ≡ slice_index_or c.args.list.items (length ys + 1) d =
    λ d. c.remove.ensures.by_index.1 (length ys) d (omega arith) in
    record {
      table = ap (λ (k : Known _). k.table) c.join.ensures.first ∙ inv.table;
      seat = ends_in c.seat.inside.seat.view v w c.join.new.first.view inv.seat is;
      count = omega (
        arith,
        inv.count,
        count,
        ap length ended,
        length-append v.ended ((w.number, w.part, w.seen) ∷ []),
      );
      rest = rest_less all xs ys x popped inv.rest;
      ended = subst (HasEnded all) (sym ended)
          (one_more_ended all v.ended (w.number, w.part, w.seen) (length ys) inv.ended
          (omega (arith, inv.count, count, fewer, c.requires.all.count))
          (c.caller.invariant.0.number
          ∙ ap (λ (p : CallerView). p.number) (c.caller.view_is ∙ last x ∙ moved x)
          ∙ c.requires.all.in_order (length ys + 1) x (omega (arith, inv.count, count, c.requires.all.count)))
          (λ d. (
            ap (λ (p : CallerView). p.part) (c.caller.view_is ∙ last d),
            ap (λ (p : CallerView). p.seen) (c.caller.view_is ∙ last d),
          )));
    }
