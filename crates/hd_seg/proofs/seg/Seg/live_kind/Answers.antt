use Rattle.hd_seg.proofs.Basics.{arith, inl, inr, sym, ◌∙◌}
use Rattle.hd_seg.proofs.RowCalls.{kind_now, live_high, live_low}
use Rattle.hd_seg.proofs.RowVectors.{sound_table}
use Rattle.hd_seg.proofs.seg.Seg.live_kind.Goals as goal

pub kind-requires-clause-low : goal.kind-requires-clause-low
kind-requires-clause-low c =
    let known = live_low c.self.invariant c.args.slot.0 c.self.view_is c.requires in
    omega (arith, known)

pub kind-requires-clause-high : goal.kind-requires-clause-high
kind-requires-clause-high c =
    let known = live_high c.self.invariant c.args.slot.0 c.self.view_is c.requires in
    omega (arith, known)

pub unreachable-requires : goal.unreachable-requires
unreachable-requires c =
    let is = kind_now c.self.invariant c.args.slot.0 c.self.view_is c.requires c.kind.result c.kind.ensures in
    elim c.in-Unused.is [
      | inl unused ↦ let no = sym unused ∙ is in cc
      | inr extras ↦ let no = sym extras ∙ is in cc
    ]

pub returns-clause-value : goal.returns-clause-value
returns-clause-value c =
    let is = kind_now c.self.invariant c.args.slot.0 c.self.view_is c.requires c.kind.result c.kind.ensures in
    let same = sym c.in-Rows.is ∙ is in cc

pub returns-clause-table : goal.returns-clause-table
returns-clause-table c = sound_table c.self.invariant c.self.view_is
