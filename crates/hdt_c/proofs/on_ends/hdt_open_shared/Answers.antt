use Rattle.std.proofs.Common.{None, ap, length, replicate, sym, ◌∙◌}
use Rattle.hd_ends.specs.Ends.{ends_up}
use Rattle.hd_ends.proofs.EndLists.{as_held, count_of}
use Rattle.hdt_c.proofs.SharedOpenings.{all_opened, all_refused, one_open, same_count}
use Rattle.hdt_c.proofs.on_ends.hdt_open_shared.Goals as goal

pub returns-then-any_open : goal.returns-then-any_open
returns-then-any_open c = one_open c.any_open.ensures.same c.if-any_open.ensures.some

pub put_all-requires : goal.put_all-requires
put_all-requires c =
    let e = c.in-Ok.ensures in
    let same = same_count c.any_open.new.ends c.args.ends.now c.any_open.ensures.same in
    let count = count_of (λ end. end.value) c.in-Ok.opened.items e.1 e.0 e.2 (length c.any_open.new.ends) e.5 in
    record {
      closed = c.any_open.ensures.same ∙ c.if-any_open.ensures.none
          ∙ ap (λ n. replicate n None) (sym same ∙ sym count);
    }

pub returns-in-Ok : goal.returns-in-Ok
returns-in-Ok c =
    let e = c.in-Ok.ensures in
    let count = length c.any_open.new.ends in
    let same = same_count c.any_open.new.ends c.args.ends.now c.any_open.ensures.same in
    all_opened count e.0 e.1 e.2 e.3 e.4
    (c.if-any_open.ensures.none ∙ ap (λ n. replicate n None) (sym same))
    (c.put_all.ensures
    ∙ as_held (λ end. end.value) c.in-Ok.opened.items (ends_up e.1 e.0 e.2 count) e.5)

pub returns-in-Err : goal.returns-in-Err
returns-in-Err c =
    let same = same_count c.any_open.new.ends c.args.ends.now c.any_open.ensures.same in
    all_refused (length c.any_open.new.ends)
    (c.if-any_open.ensures.none ∙ ap (λ n. replicate n None) (sym same)) c.any_open.ensures.same c.in-Err.ensures
