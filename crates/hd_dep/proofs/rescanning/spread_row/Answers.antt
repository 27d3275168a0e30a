use Rattle.hd_dep.proofs.Basics.{IsEdge, and_parts, objects_of, row_at, sym, ◌∙◌}
use Rattle.hd_dep.proofs.SecondarySpread.{spreads_none, promoted_next}
use Rattle.hd_dep.proofs.rescanning.spread_row.Goals as goal

pub returns-in_default-clause-spreads : goal.returns-in_default-clause-spreads
returns-in_default-clause-spreads g c =
    spreads_none (IsEdge (objects_of (g.M.Marker.basis c.args.marker.now)) (row_at c.args.seg.now))
    (g.M.Marker.promoted c.args.marker.now)

pub returns-then-not-is_left_out-clause-spreads : goal.returns-then-not-is_left_out-clause-spreads
returns-then-not-is_left_out-clause-spreads g c =
    spreads_none (IsEdge (objects_of (g.M.Marker.basis c.args.marker.now)) (row_at c.args.seg.now))
    (g.M.Marker.promoted c.args.marker.now)

pub returns-clause-spreads : goal.returns-clause-spreads
returns-clause-spreads g c =
    promoted_next (objects_of (g.M.Marker.basis c.args.marker.now))
    (g.M.Marker.basis c.args.marker.now).condemned c.args.seg.now c.args.slot.0 c.in-Some.target
    c.in-Some.secondary (g.M.Marker.promoted c.args.marker.now) (g.M.Marker.promoted c.promote.new.self)
    c.requires.live c.requires.of_kind c.in-Some.ensures.both
    (and_parts _ _ (sym c.is_left_out.ensures ∙ c.if-not-is_left_out.false)).0 c.promote.ensures.grows
