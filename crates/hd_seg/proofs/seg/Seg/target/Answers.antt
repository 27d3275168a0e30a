use Rattle.hd_seg.proofs.Basics.{None, arith, get_or_read, ◌∙◌}
use Rattle.hd_seg.proofs.{RowCalls.live_slot, RowCalls.target_now, RowVectors.sound_table}
use Rattle.hd_seg.proofs.seg.Seg.target.Goals as goal

pub index-requires : goal.index-requires
index-requires c =
    let known = live_slot c.self.invariant c.args.slot.0 c.self.view_is c.requires in
    omega (arith, known, c.self.inside.targets.ok.0)

pub returns-clause-value : goal.returns-clause-value
returns-clause-value c =
    get_or_read c.self.inside.targets.items c.args.slot.0 c.index.result.now
    (live_slot c.self.invariant c.args.slot.0 c.self.view_is c.requires) c.index.ensures None
    ∙ target_now c.self.invariant c.args.slot.0 c.self.view_is c.requires

pub returns-clause-table : goal.returns-clause-table
returns-clause-table c = sound_table c.self.invariant c.self.view_is
