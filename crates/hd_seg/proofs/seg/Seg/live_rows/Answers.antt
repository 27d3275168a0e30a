use Rattle.hd_seg.proofs.Basics.{Table, ap, arith, get_or_read, ◌≤◌}
use Rattle.hd_seg.proofs.{RowVectors.sound_table, ReadCalls.row_bits}
use Rattle.hd_seg.proofs.seg.Seg.live_rows.Goals as goal

pub returns-clause-table : goal.returns-clause-table
returns-clause-table c = sound_table c.self.invariant c.self.view_is

pub returns-clause-bits : goal.returns-clause-bits
returns-clause-bits c i lt =
    let high : c.args.block ≤ c.self.inside.blocks.table.blocks =
    omega (arith, c.requires.high, ap (λ (t : Table). t.blocks) c.self.view_is) in
    row_bits c.self.invariant c.self.view_is c.index.result.now c.args.block i
    (get_or_read c.self.inside.masks.items c.args.block c.index.result.now
    (omega (arith, high, c.self.invariant.masks)) c.index.ensures 0) lt
