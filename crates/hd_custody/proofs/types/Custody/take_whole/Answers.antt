use Rattle.hd_custody.proofs.Basics.{BLOCKS, HasRows, ap, bit_or, refl, subst, sym, ◌++◌, ◌+◌, ◌∙◌, ◌≢◌}
use Rattle.hd_custody.proofs.{HeldOnBlock.row_has, HeldOnBlock.rows_none, AllocateSteps.mask_apart, AllocateSteps.rows_back}
use Rattle.hd_custody.proofs.CallPhases.{due, zero_is, zero_not, seen_as, held_is, table_is, and_then}
use Rattle.hd_custody.proofs.types.Custody.take_whole.Goals as goal

pub returns-then-mask-eq0-clause-part : goal.returns-then-mask-eq0-clause-part
returns-then-mask-eq0-clause-part g c _ =
    seen_as c.take_rows-mask.ensures.gathered
    (ap (λ ps. ps ++ c.args.caller.now.view.held)
    (rows_none c.args.block c.take_rows-mask.result 0 c.if-mask-eq0.true))
    (zero_is c.take_rows-mask.result _ _ c.if-mask-eq0.true)

pub stays_whole-requires : goal.stays_whole-requires
stays_whole-requires g c = record {
  seat = table_is c.take_rows-mask.ensures.gathered ∙ c.requires.seat;
  block = c.requires.block;
}

pub returns-then-stays_whole-clause-whole : goal.returns-then-stays_whole-clause-whole
returns-then-stays_whole-clause-whole g c _ =
    let so = seen_as c.take_rows-mask.ensures.gathered refl
    (zero_not c.take_rows-mask.result _ _ c.if-mask-eq0.false) in
    and_then so (c.stays_whole.ensures.whole c.args.caller.now.view.held (held_is so) c.requires.kinded
    c.if-stays_whole.true)

pub put_back-requires : goal.put_back-requires
put_back-requires g c =
    let so = seen_as c.take_rows-mask.ensures.gathered refl
    (zero_not c.take_rows-mask.result _ _ c.if-mask-eq0.false) in
    let part = c.stays_whole.ensures.part c.args.caller.now.view.held (held_is so) c.requires.kinded
    c.if-stays_whole.false in record {
      seat = table_is part.1 ∙ table_is so ∙ c.requires.seat;
      block = c.requires.block;
      slots = subst (HasRows c.args.block c.take_rows-mask.result) (sym (held_is part.1))
          (λ r lt set.
          row_has c.args.block c.take_rows-mask.result part.0 r c.args.caller.now.view.held lt set);
    }

pub returns-clause-part : goal.returns-clause-part
returns-clause-part g c _ =
    let so = seen_as c.take_rows-mask.ensures.gathered refl
    (zero_not c.take_rows-mask.result _ _ c.if-mask-eq0.false) in
    let part = c.stays_whole.ensures.part c.args.caller.now.view.held (held_is so) c.requires.kinded
    c.if-stays_whole.false in
    rows_back c.stays_whole.new.caller c.put_back.new.caller c.args.block c.take_rows-mask.result part.0
    c.put_back.result c.args.caller.now.view.held
    (mask_apart g.W.Held c.args.caller.now.view c.args.block c.take_rows-mask.result
    c.take_rows-mask.ensures.fresh) (and_then so part.1)
    (due (BLOCKS + c.args.block) c.put_back.result (bit_or c.put_back.result c.take_rows-mask.result) _)
    c.put_back.ensures.view
