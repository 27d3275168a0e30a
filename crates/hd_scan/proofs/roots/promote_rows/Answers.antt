use Rattle.hd_scan.proofs.Basics.{Basis, Grows, IsSettled, IsTargetBy, IsYoungField, Kind, ap, chain_of, due_clumps, due_slots, live_at, objects_of, refl, row_live, row_of_kind, subst, ◌∙◌}
use Rattle.hd_scan.proofs.RootPromote.{root_start, root_row, root_end, root_whole}
use Rattle.hd_scan.proofs.roots.promote_rows.Goals as goal

pub start-rows-requires : goal.start-rows-requires
start-rows-requires g c = record { blocks = c.requires.visit.covers }

pub loop-slot-init : goal.loop-slot-init
loop-slot-init g c = record {
  settled = c.requires.settled;
  basis = refl;
  rooting = root_start c.start-rows.ensures.table c.start-rows.ensures.on
      (c.start-rows.ensures.slots
      ∙ ap (λ (k : Kind). due_slots c.args.seg.now c.args.ages.now c.args.n k) c.kind.ensures)
      (c.start-rows.ensures.clumps
      ∙ ap (λ (k : Kind). due_clumps c.args.ages.now c.args.n (chain_of c.args.seg.now k)) c.kind.ensures);
}

pub promote_row-requires-clause-live : goal.promote_row-requires-clause-live
promote_row-requires-clause-live g c = row_live c.loop-slot.invariant.rooting.under c.in-Some.ensures.row

pub promote_row-requires-clause-of_kind : goal.promote_row-requires-clause-of_kind
promote_row-requires-clause-of_kind g c =
    row_of_kind c.loop-slot.invariant.rooting.under c.in-Some.ensures.row

pub loop-slot-preserved : goal.loop-slot-preserved
loop-slot-preserved g c =
    let b : Basis = g.M.Marker.basis c.args.marker.now in
    let grows : Grows (IsYoungField (objects_of b) c.args.n)
    (IsTargetBy c.args.task (live_at c.args.seg.now c.in-Some.slot.0))
    (g.M.Marker.promoted c.loop-slot.marker) (g.M.Marker.promoted c.promote_row.new.marker) =
    subst (λ m. Grows (IsYoungField (objects_of b) m)
    (IsTargetBy c.args.task (live_at c.args.seg.now c.in-Some.slot.0))
    (g.M.Marker.promoted c.loop-slot.marker) (g.M.Marker.promoted c.promote_row.new.marker))
    c.requires.visit.generation
    (subst (λ (a : Basis). Grows (IsYoungField (objects_of a) a.condemned)
    (IsTargetBy c.args.task (live_at c.args.seg.now c.in-Some.slot.0))
    (g.M.Marker.promoted c.loop-slot.marker) (g.M.Marker.promoted c.promote_row.new.marker))
    c.loop-slot.invariant.basis c.promote_row.ensures.promotes) in
    record {
      settled = c.promote_row.ensures.settled;
      basis = c.promote_row.ensures.basis ∙ c.loop-slot.invariant.basis;
      rooting = root_row c.loop-slot.invariant.rooting c.in-Some.ensures.row c.next.ensures.on
          c.next.ensures.steps grows c.promote_row.ensures.pins c.promote_row.result c.from-held.result
          c.promote_row.ensures.answer c.from-held.ensures;
    }

pub returns-clause-passed : goal.returns-clause-passed
returns-clause-passed g c = root_end c.loop-slot.invariant.rooting c.in_default.ensures.row

pub returns-clause-whole : goal.returns-clause-whole
returns-clause-whole g c = λ sound.
    let o = objects_of (g.M.Marker.basis c.args.marker.now) in
    root_whole
    (subst (λ n. IsSettled o n (g.M.Marker.promoted c.args.marker.now)) c.requires.visit.generation
    (g.met.M.Marker.settles c.args.marker.now c.requires.settled)) sound (returns-clause-passed g c)
