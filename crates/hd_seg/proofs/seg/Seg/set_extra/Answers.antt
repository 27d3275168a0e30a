use Rattle.hd_seg.proofs.Basics.{◌∙◌}
use Rattle.hd_seg.proofs.RowVectors.{extras_back, seg_back, view_back}
use Rattle.hd_seg.proofs.RowCalls.{eke-seg, eke-view, live_high, live_low}
use Rattle.hd_seg.proofs.seg.Seg.set_extra.Goals as goal

pub extra_index-index-requires-clause-low : goal.extra_index-index-requires-clause-low
extra_index-index-requires-clause-low c =
    live_low c.self.invariant c.args.slot.0 c.self.view_is c.requires.live

pub extra_index-index-requires-clause-high : goal.extra_index-index-requires-clause-high
extra_index-index-requires-clause-high c =
    live_high c.self.invariant c.args.slot.0 c.self.view_is c.requires.live

pub invariant_of-self : goal.invariant_of-self
invariant_of-self c =
    seg_back (extras_back _ _ c.write_extra.ensures c.deref_mut.ensures.value c.extra_index-index.ensures
    c.self.inside.extras.ok.0)
    (eke-seg c.self.invariant c.args.slot.0 c.self.view_is c.requires.live c.args.extra c.requires.fitting)

pub returns : goal.returns
returns c =
    view_back c.self.inside.blocks c.self.inside.targets.items c.self.inside.masks.items
    (extras_back _ _ c.write_extra.ensures c.deref_mut.ensures.value c.extra_index-index.ensures
    c.self.inside.extras.ok.0)
    ∙ eke-view c.self.invariant c.args.slot.0 c.self.view_is c.requires.live c.args.extra c.requires.fitting
