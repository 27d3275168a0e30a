use Rattle.hd_seg.proofs.Basics.{ap, live_bit, ◌==◌, ◌∙◌}
use Rattle.hd_seg.proofs.{ReadCalls.live_seen, RowVectors.sound_table}
use Rattle.hd_seg.proofs.seg.Seg.is_live.Goals as goal

pub returns-clause-value : goal.returns-clause-value
returns-clause-value c =
    c.is_marked.ensures ∙ ap (λ xs. live_bit xs c.args.slot.0 == 1) c.deref.ensures.value
    ∙ live_seen c.self.invariant c.self.view_is c.args.slot.0

pub returns-clause-table : goal.returns-clause-table
returns-clause-table c = sound_table c.self.invariant c.self.view_is
