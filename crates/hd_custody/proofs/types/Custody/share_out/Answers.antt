use Rattle.hd_custody.proofs.Basics.{BLOCKS, bit_or, refl, sym, without_rows, ◌+◌, ◌∙◌}
use Rattle.hd_custody.proofs.{HeldOnBlock.rows_held, HeldOnBlock.none_leaves, AllocateSteps.back_step}
use Rattle.hd_custody.proofs.CallPhases.{due, zero_is, zero_not, seen_as, table_is, and_then}
use Rattle.hd_custody.proofs.types.Custody.share_out.Goals as goal

pub put_back-requires : goal.put_back-requires
put_back-requires g c =
    let so = c.fill_cells-left.ensures.banked in record {
      seat = table_is (so.made 0) ∙ c.requires.seat;
      block = c.requires.block;
      slots = rows_held c.args.block c.fill_cells-left.result (c.args.kind + 1)
          c.fill_cells-left.new.caller.view.held so.has;
    }

pub returns-then-left-ne0 : goal.returns-then-left-ne0
returns-then-left-ne0 g c = record {
  made = λ slot.
      let so = c.fill_cells-left.ensures.banked in
      let left = c.fill_cells-left.result in
      seen_as (and_then (seen_as (so.made slot) refl (zero_not left _ _ c.if-left-ne0.true))
      (back_step c.fill_cells-left.new.caller c.put_back.new.caller c.args.block left c.put_back.result
      (due (BLOCKS + c.args.block) c.put_back.result (bit_or c.put_back.result left) _)
      c.put_back.ensures.view))
      so.left refl;
}

pub returns-else-left-ne0 : goal.returns-else-left-ne0
returns-else-left-ne0 g c = record {
  made = λ slot.
      let so = c.fill_cells-left.ensures.banked in
      let left = c.fill_cells-left.result in
      seen_as (so.made slot)
      (sym (none_leaves c.args.block left c.fill_cells-left.new.caller.view.held c.if-left-ne0.false)
      ∙ so.left) (zero_is left _ _ c.if-left-ne0.false);
}
