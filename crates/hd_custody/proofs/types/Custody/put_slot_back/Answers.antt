use Rattle.hd_custody.proofs.Basics.{HasRows, ROWS, ap, arith, subst, sym, ◌%◌, ◌/◌, ◌^◌, ◌∙◌, ◌≡◌}
use Rattle.hd_custody.proofs.{HeldOnBlock.slot_held, ReleaseSteps.slot_back}
use Rattle.hd_custody.proofs.types.Custody.put_slot_back.Goals as goal

pub put_back-requires : goal.put_back-requires
put_back-requires g c =
    let held = c.args.caller.now.view.held in
    let row = c.bit.ensures.value ∙ ap (λ r. 2 ^ r) c.slot_row.ensures.value in record {
      seat = c.requires.seat;
      block = (
        omega (arith, c.requires.slot.0, c.slot_block.ensures),
        omega (arith, c.requires.slot.0, c.slot_block.ensures),
      );
      slots = subst (λ b. HasRows b c.bit.result held) (sym c.slot_block.ensures)
          (subst (λ m. HasRows (c.args.slot / ROWS) m held) (sym row)
          (slot_held c.args.slot held c.requires.slot.1));
    }

pub returns : goal.returns
returns g c = record {
  view = (
    c.put_back.result,
    slot_back c.args.caller.now c.put_back.new.caller c.args.slot c.slot_block.result c.bit.result
        c.put_back.result c.slot_block.ensures
        (c.bit.ensures.value ∙ ap (λ r. 2 ^ r) c.slot_row.ensures.value) c.put_back.ensures.view,
  );
}
