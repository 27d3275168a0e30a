use Rattle.hd_seg.proofs.Basics.{Addr, Handle, false, is_paired, live_at, sym, ◌∙◌, ◌≡◌}
use Rattle.hd_seg.proofs.RowRewrite.{live_row, plain_extra}
use Rattle.hd_seg.proofs.seg.Seg.row_by.Goals as goal

pub returns-clause-value : goal.returns-clause-value
returns-clause-value c =
    let h : Handle Addr = live_at c.args.self.now c.args.slot.0 in
    let unpaired : is_paired h.kind ≡ false = c.requires.paired ∙ c.if-paired.false in
    let fitting = (c.target-target.ensures.table.rows c.args.slot.0 h
    (live_row c.args.self.now c.args.slot.0 c.requires.live)).fits in
    λ i. record {
      target = c.target-target.ensures.value i;
      extra = sym (plain_extra h.kind h.extra unpaired fitting) i;
    }
