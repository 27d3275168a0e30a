use Rattle.hd_custody.proofs.Basics.{BLOCKS, Has, IsSlot, ROWS, ap, arith, bit_or, refl, subst, sym, without, ◌%◌, ◌+◌, ◌/◌, ◌^◌, ◌∙◌, ◌≡◌}
use Rattle.hd_custody.proofs.HeldSlots.{has_member}
use Rattle.hd_custody.proofs.HeldOnBlock.{put_goes, put_some, with_slot_has, with_slot_none}
use Rattle.hd_custody.proofs.CallPhases.{due, zero_is, zero_not, one_step, seen_as, held_is, table_is, then_as}
use Rattle.hd_custody.proofs.types.Custody.release_of_kind.Goals as goal

pub put_slot_back-requires : goal.put_slot_back-requires
put_slot_back-requires g c =
    let so = c.push-left.ensures.made in
    let left = c.push-left.ensures.left c.if-left-ne0.true in
    let h = with_slot_has c.push-left.result (c.args.kind + 1)
    (without c.args.slot c.args.caller.now.view.held)
    c.if-left-ne0.true in record {
      seat = table_is so ∙ c.requires.seat;
      slot = subst (λ s. IsSlot s × Has s c.push-left.new.caller.view.held) (omega arith)
          (left.0, subst (Has c.push-left.result) (sym (held_is so)) (has_member _ h.0 _ h.1));
    }

pub returns-then-left-ne0 : goal.returns-then-left-ne0
returns-then-left-ne0 g c = record {
  made = (
      let left = c.push-left.result in
      let back = c.put_slot_back.ensures.view in
      let rest = without c.args.slot c.args.caller.now.view.held in
      seen_as (then_as (without left)
      (seen_as c.push-left.ensures.made refl (zero_not left _ _ c.if-left-ne0.true))
      (one_step _ back.1 (due (BLOCKS + left / ROWS) back.0 (bit_or back.0 (2 ^ (left % ROWS))) _)))
      (sym (put_some left _ c.if-left-ne0.true)
      ∙ put_goes left (c.args.kind + 1) rest (λ ne. (c.push-left.ensures.left ne).1)) refl);
}

pub returns-else-left-ne0 : goal.returns-else-left-ne0
returns-else-left-ne0 g c = record {
  made =
      seen_as c.push-left.ensures.made
      (with_slot_none c.push-left.result (c.args.kind + 1) _ c.if-left-ne0.false)
      (zero_is c.push-left.result _ _ c.if-left-ne0.false);
}
