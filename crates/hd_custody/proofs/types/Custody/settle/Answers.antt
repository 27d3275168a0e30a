use Rattle.hd_custody.proofs.Basics.{BLOCKS, ROWS, bit_or, refl, sym, ◌%◌, ◌+◌, ◌/◌, ◌^◌}
use Rattle.hd_custody.proofs.HeldOnBlock.{put_some}
use Rattle.hd_custody.proofs.CallPhases.{due, zero_is, zero_not, made_none, one_step, seen_as, from_phase}
use Rattle.hd_custody.proofs.types.Custody.settle.Goals as goal

pub returns-then-slot-ne0 : goal.returns-then-slot-ne0
returns-then-slot-ne0 g c = record {
  made = λ k n. (
      let back = c.put_slot_back.ensures.view in
      from_phase (seen_as
      (one_step _ back.1
      (due (BLOCKS + c.args.slot / ROWS) back.0 (bit_or back.0 (2 ^ (c.args.slot % ROWS))) _))
      (sym (put_some c.args.slot c.args.caller.now.view.held c.if-slot-ne0.true)) refl)
      (zero_not c.args.slot _ _ c.if-slot-ne0.true));
}
