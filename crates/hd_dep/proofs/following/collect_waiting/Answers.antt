use Rattle.hd_dep.proofs.Basics.{Addr, Basis, Bool, IsEdge, Spreads, Table, arith, length, objects_of, refl, row_at, row_live, row_of_kind, subst, take_all, ◌∙◌}
use Rattle.hd_dep.proofs.SecondaryFollow.{gather_start, gather_room, gather_row, gather_end, kept_on}
use Rattle.hd_dep.proofs.following.collect_waiting.Goals as goal

pub start-rows-requires : goal.start-rows-requires
start-rows-requires g c = record { blocks = c.requires.visit.covers }

pub loop-slot-init : goal.loop-slot-init
loop-slot-init g c = record {
  settled = c.requires.settled;
  basis = refl;
  pinned = refl;
  log = take_all (length (g.M.PromotionLog.log c.args.marker.now)) (g.M.PromotionLog.log c.args.marker.now)
      (omega arith);
  room = refl;
  gathering = gather_start c.start-rows.ensures.table c.start-rows.ensures.on c.start-rows.ensures.slots
      c.start-rows.ensures.clumps c.requires.room c.args.waiting.now.items c.requires.none;
}

pub visit_row-requires-clause-live : goal.visit_row-requires-clause-live
visit_row-requires-clause-live g c =
    row_live c.loop-slot.invariant.gathering.under c.in-Some.ensures.row

pub visit_row-requires-clause-of_kind : goal.visit_row-requires-clause-of_kind
visit_row-requires-clause-of_kind g c =
    row_of_kind c.loop-slot.invariant.gathering.under c.in-Some.ensures.row

pub visit_row-requires-clause-room : goal.visit_row-requires-clause-room
visit_row-requires-clause-room g c =
    let room = gather_room c.loop-slot.invariant.gathering c.in-Some.ensures.row in
    omega (arith, room, c.loop-slot.invariant.room)

pub loop-slot-preserved : goal.loop-slot-preserved
loop-slot-preserved g c =
    let b : Basis = g.M.Marker.basis c.args.marker.now in
    let t : Table = c.args.seg.now in
    let p : Addr → Bool = g.M.Marker.promoted c.loop-slot.marker in
    let q : Addr → Bool = g.M.Marker.promoted c.visit_row.new.marker in
    let spreads : Spreads (IsEdge (objects_of b) (row_at t)) p q =
    subst (λ (a : Basis). Spreads (IsEdge (objects_of a) (row_at t)) p q)
    c.loop-slot.invariant.basis c.visit_row.ensures.spreads in
    record {
      settled = c.visit_row.ensures.settled;
      basis = c.visit_row.ensures.basis ∙ c.loop-slot.invariant.basis;
      pinned = c.visit_row.ensures.pinned ∙ c.loop-slot.invariant.pinned;
      log = kept_on _ c.loop-slot.invariant.log c.visit_row.ensures.log;
      room = c.visit_row.ensures.room ∙ c.loop-slot.invariant.room;
      gathering = gather_row c.loop-slot.invariant.gathering c.in-Some.ensures.row spreads
          c.visit_row.ensures.rows c.next.ensures.on c.next.ensures.steps c.visit_row.ensures.visited;
    }

pub returns-clause-gathered : goal.returns-clause-gathered
returns-clause-gathered g c = gather_end c.loop-slot.invariant.gathering c.in_default.ensures.row
