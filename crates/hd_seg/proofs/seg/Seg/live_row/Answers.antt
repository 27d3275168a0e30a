use Rattle.hd_seg.proofs.Basics.{ap, extra_at, ◌∙◌}
use Rattle.hd_seg.proofs.RowCalls.{extra_now, live_high, live_low}
use Rattle.hd_seg.proofs.seg.Seg.live_row.Goals as goal

pub extra_index-index-requires-clause-low : goal.extra_index-index-requires-clause-low
extra_index-index-requires-clause-low c =
    live_low c.self.invariant c.args.slot.0 c.self.view_is c.requires

pub extra_index-index-requires-clause-high : goal.extra_index-index-requires-clause-high
extra_index-index-requires-clause-high c =
    live_high c.self.invariant c.args.slot.0 c.self.view_is c.requires

pub returns-clause-value : goal.returns-clause-value
returns-clause-value c = λ i. record {
  target = c.target-target.ensures.value i;
  extra = (c.extra_in-extra.ensures ∙ ap (λ xs. extra_at xs c.extra_index-index.result) c.deref.ensures.value
      ∙ ap (extra_at c.self.inside.extras.items) c.extra_index-index.ensures
      ∙ extra_now c.self.invariant c.args.slot.0 c.self.view_is c.requires) i;
}
