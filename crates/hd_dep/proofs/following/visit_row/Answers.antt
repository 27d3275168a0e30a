use Rattle.hd_dep.proofs.Basics.{Contains-push, IsEdge, Waits, arith, inl, inr, length, live_at, objects_of, refl, row_at, subst, sym, take_all, waiting_row, ◌∙◌}
use Rattle.hd_dep.proofs.{SecondarySpread.spreads_none, SecondarySpread.promoted_next, SecondaryFollow.visited_promoted, SecondaryFollow.visited_waits}
use Rattle.hd_dep.proofs.following.visit_row.Goals as goal

pub returns-in_default-clause-log : goal.returns-in_default-clause-log
returns-in_default-clause-log g c =
    take_all (length (g.M.PromotionLog.log c.args.marker.now)) (g.M.PromotionLog.log c.args.marker.now)
    (omega arith)

pub returns-in_default-clause-spreads : goal.returns-in_default-clause-spreads
returns-in_default-clause-spreads g c =
    spreads_none (IsEdge (objects_of (g.M.Marker.basis c.args.marker.now)) (row_at c.args.seg.now))
    (g.M.Marker.promoted c.args.marker.now)

pub returns-in_default-clause-rows : goal.returns-in_default-clause-rows
returns-in_default-clause-rows g c = inl refl

pub returns-in_default-clause-visited : goal.returns-in_default-clause-visited
returns-in_default-clause-visited g c = λ x y parts. absurd (c.in_default.ensures.none x y parts)

pub returns-then-promoted-clause-spreads : goal.returns-then-promoted-clause-spreads
returns-then-promoted-clause-spreads g c =
    promoted_next (objects_of (g.M.Marker.basis c.args.marker.now))
    (g.M.Marker.basis c.args.marker.now).condemned c.args.seg.now c.args.slot.0 c.in-Some.target
    c.in-Some.secondary (g.M.Marker.promoted c.args.marker.now)
    (g.M.Marker.promoted c.promote_logged.new.self) c.requires.live c.requires.of_kind
    c.in-Some.ensures.both (sym c.promoted.ensures ∙ c.if-promoted.true) c.promote_logged.ensures.grows

pub returns-then-promoted-clause-rows : goal.returns-then-promoted-clause-rows
returns-then-promoted-clause-rows g c = inl refl

pub returns-then-promoted-clause-visited : goal.returns-then-promoted-clause-visited
returns-then-promoted-clause-visited g c =
    visited_promoted (live_at c.args.seg.now c.args.slot.0) c.args.waiting.now.items
    (g.M.Marker.promoted c.promote_logged.new.self) c.in-Some.target c.in-Some.secondary
    c.in-Some.ensures.both (c.promote_logged.ensures.grows.joins c.in-Some.secondary refl)

pub returns-clause-log : goal.returns-clause-log
returns-clause-log g c =
    take_all (length (g.M.PromotionLog.log c.args.marker.now)) (g.M.PromotionLog.log c.args.marker.now)
    (omega arith)

pub returns-clause-spreads : goal.returns-clause-spreads
returns-clause-spreads g c =
    spreads_none (IsEdge (objects_of (g.M.Marker.basis c.args.marker.now)) (row_at c.args.seg.now))
    (g.M.Marker.promoted c.args.marker.now)

pub returns-clause-rows : goal.returns-clause-rows
returns-clause-rows g c =
    inr (record {
      target = c.in-Some.target;
      secondary = c.in-Some.secondary;
      parts = c.in-Some.ensures.both;
      lost = sym c.promoted.ensures ∙ c.if-promoted.false;
      rows = c.push_reserved.ensures.items;
    })

pub returns-clause-visited : goal.returns-clause-visited
returns-clause-visited g c =
    visited_waits (live_at c.args.seg.now c.args.slot.0) c.push_reserved.new.self.items
    (g.M.Marker.promoted c.args.marker.now) c.in-Some.target c.in-Some.secondary c.in-Some.ensures.both
    (subst (λ rows. Waits rows c.in-Some.target c.in-Some.secondary) (sym c.push_reserved.ensures.items)
    (Contains-push c.args.waiting.now.items (waiting_row c.in-Some.target c.in-Some.secondary)))
