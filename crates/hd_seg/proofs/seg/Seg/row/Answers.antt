use Rattle.hd_seg.proofs.Basics.{Some, ap, sym, ◌∙◌}
use Rattle.hd_seg.proofs.RowRewrite.{none_read, some_read}
use Rattle.hd_seg.proofs.seg.Seg.row.Goals as goal

pub returns-then-not-is_live-clause-value : goal.returns-then-not-is_live-clause-value
returns-then-not-is_live-clause-value c =
    none_read c.args.self.now c.args.slot.0 (sym c.is_live.ensures.value ∙ c.if-not-is_live.true)

pub live_row-requires : goal.live_row-requires
live_row-requires c = sym c.is_live.ensures.value ∙ c.if-not-is_live.false

pub returns-clause-value : goal.returns-clause-value
returns-clause-value c =
    ap Some c.live_row.ensures.value
    ∙ some_read c.args.self.now c.args.slot.0 (sym c.is_live.ensures.value ∙ c.if-not-is_live.false)
