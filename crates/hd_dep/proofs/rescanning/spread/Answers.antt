use Rattle.hd_dep.proofs.Basics.{Addr, Basis, Bool, IsEdge, Spreads, objects_of, refl, row_at, row_live, row_of_kind, subst, ◌∙◌}
use Rattle.hd_dep.proofs.SecondarySpread.{spread_start, spread_row, spread_end}
use Rattle.hd_dep.proofs.rescanning.spread.Goals as goal

pub start-rows-requires : goal.start-rows-requires
start-rows-requires g c = record { blocks = c.requires.visit.covers }

pub loop-slot-init : goal.loop-slot-init
loop-slot-init g c =
    record {
      settled = c.requires.settled;
      basis = refl;
      pinned = refl;
      spreading = spread_start c.start-rows.ensures.table c.start-rows.ensures.on
          c.start-rows.ensures.slots c.start-rows.ensures.clumps;
    }

pub spread_row-more-requires-clause-live : goal.spread_row-more-requires-clause-live
spread_row-more-requires-clause-live g c =
    row_live c.loop-slot.invariant.spreading.under c.in-Some.ensures.row

pub spread_row-more-requires-clause-of_kind : goal.spread_row-more-requires-clause-of_kind
spread_row-more-requires-clause-of_kind g c =
    row_of_kind c.loop-slot.invariant.spreading.under c.in-Some.ensures.row

pub loop-slot-preserved : goal.loop-slot-preserved
loop-slot-preserved g c =
    let b : Basis = g.M.Marker.basis c.args.marker.now in
    let p : Addr → Bool = g.M.Marker.promoted c.loop-slot.marker in
    let q : Addr → Bool = g.M.Marker.promoted c.spread_row-more.new.marker in
    let spreads : Spreads (IsEdge (objects_of b) (row_at c.args.seg.now)) p q =
    subst (λ (a : Basis). Spreads (IsEdge (objects_of a) (row_at c.args.seg.now)) p q)
    c.loop-slot.invariant.basis c.spread_row-more.ensures.spreads in
    record {
      settled = c.spread_row-more.ensures.settled;
      basis = c.spread_row-more.ensures.basis ∙ c.loop-slot.invariant.basis;
      pinned = c.spread_row-more.ensures.pinned ∙ c.loop-slot.invariant.pinned;
      spreading = spread_row c.loop-slot.invariant.spreading c.in-Some.ensures.row spreads
          c.spread_row-more.result c.next.ensures.on c.next.ensures.steps c.spread_row-more.ensures.more;
    }

pub returns-clause-more : goal.returns-clause-more
returns-clause-more g c = spread_end c.loop-slot.invariant.spreading c.in_default.ensures.row
