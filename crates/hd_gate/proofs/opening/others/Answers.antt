use Rattle.hd_gate.proofs.Basics.{AreNew, CallerView, IsFirst, IsNew, Known, List, [], ap, arith, caller_view_of, drop, length, length-append, padded_value, refl, slice_index, subst, sum, sym, ◌++◌, ◌+◌, ◌∙◌, ◌∷◌, ◌≡◌}
use Rattle.hd_gate.proofs.CallerOpen.{sum_drop, first_next, one_more, limits_are}
use Rattle.hd_gate.proofs.opening.others.Goals as goal

pub overflow_cast-number : goal.overflow_cast-number
overflow_cast-number c = omega (arith, c.requires.callers.1, c.loop-number-test.true)

pub loop-number-preserved : goal.loop-number-preserved
loop-number-preserved c =
    let inv = c.loop-number.invariant in
    let n = c.loop-number.number in
    let rooms = c.args.rooms.now in
    let begun = c.args.first.now.view in
    let seat = c.split-seat.new.first in
    let ensured = c.split-seat.ensures in
    let shared = ap (λ (k : Known _). k.view) ensured.first in
    let last = sum (drop (n + 1) rooms) + slice_index rooms 0 in
    let caller = caller_view_of c.split-seat.result n (padded_value c.new.result) in
    let pushed : c.push_reserved.new.self.items ≡ c.loop-number.list.items ++ caller ∷ [] =
    c.push_reserved.ensures.items in
    let was = subst (λ (k : Known _). IsNew c.args.custody.now n (slice_index rooms n)
    (caller_view_of k n (padded_value c.new.result))) (sym ensured.new) (record {
      is_of = record {
        table = refl;
        numbers = limits_are begun c.loop-number.first.view c.args.custody.now.numbers c.requires.starts n _
            inv.first;
      };
      number = refl;
      part = refl;
      seen = refl;
      room = c.new.ensures;
    }) in
    let left : sum (drop n rooms) + slice_index rooms 0 ≡ slice_index rooms n + last =
    omega (arith, sum_drop rooms n c.loop-number-test.true) in
    record {
      table = ap (λ (k : Known _). k.table) ensured.first ∙ inv.table;
      first = first_next begun c.loop-number.first.view seat.view n (slice_index rooms n) last
          (subst (λ r. IsFirst begun c.loop-number.first.view n r) left inv.first) shared;
      count = omega (
        arith,
        inv.count,
        ap length pushed,
        length-append c.loop-number.list.items (caller ∷ []),
      );
      spare = omega (arith, inv.spare, c.push_reserved.ensures.capacity);
      others = subst (λ (ps : List CallerView). AreNew c.args.custody.now rooms ps) (sym pushed)
          (one_more c.args.custody.now rooms c.loop-number.list.items caller n inv.count inv.others was);
    }
