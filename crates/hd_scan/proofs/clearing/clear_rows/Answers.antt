use Rattle.hd_scan.proofs.Basics.{Addr, Bool, IsSettled, Kind, ap, chain_of, change_row, change_smaller, change_start, changed, changed_count, changed_steps, due_clumps, due_slots, objects_of, refl, row_due, row_live, row_of_kind, row_same, row_target, subst, sym, task_kind, ◌∙◌}
use Rattle.hd_scan.proofs.HandleClear.{undue_kept, swept_due, swept_row, swept_has, swept_hasnt, sweep_whole}
use Rattle.hd_scan.proofs.clearing.clear_rows.Goals as goal

pub start-rows-requires : goal.start-rows-requires
start-rows-requires g c = record { blocks = c.requires.visit.covers }

pub loop-slot-init : goal.loop-slot-init
loop-slot-init g c =
    change_start c.args.seg.now c.args.ages.now c.args.n (task_kind c.args.task) _ _
    c.start-rows.ensures.table c.start-rows.result c.args.steps.now c.start-rows.ensures.on
    (c.start-rows.ensures.slots ∙ ap (λ (k : Kind). due_slots c.args.seg.now c.args.ages.now c.args.n k)
    c.kind.ensures)
    (c.start-rows.ensures.clumps
    ∙ ap (λ (k : Kind). due_clumps c.args.ages.now c.args.n (chain_of c.args.seg.now k)) c.kind.ensures)
    (undue_kept c.args.seg.now c.args.ages.now c.args.n c.args.task (g.M.Marker.promoted c.args.marker.now))
    (swept_due c.args.seg.now c.args.ages.now c.args.n c.args.task (g.M.Marker.promoted c.args.marker.now))

pub clear_row-requires-clause-live : goal.clear_row-requires-clause-live
clear_row-requires-clause-live g c = row_live c.loop-slot.invariant.under c.in-Some.ensures.row

pub clear_row-requires-clause-of_kind : goal.clear_row-requires-clause-of_kind
clear_row-requires-clause-of_kind g c = row_of_kind c.loop-slot.invariant.under c.in-Some.ensures.row

pub clear_row-requires-clause-object : goal.clear_row-requires-clause-object
clear_row-requires-clause-object g c =
    row_target c.loop-slot.invariant.under c.in-Some.ensures.row
    (objects_of (g.M.Marker.basis c.args.marker.now)) c.requires.visit.names

pub loop-slot-smaller : goal.loop-slot-smaller
loop-slot-smaller g c =
    let under = c.loop-slot.invariant.under in
    change_smaller c.loop-slot.invariant c.in-Some.ensures.row
    (swept_row c.args.task (g.M.Marker.promoted c.args.marker.now) (row_due under c.in-Some.ensures.row)
    (row_same under c.in-Some.ensures.row) c.clear_row.ensures.row)

pub loop-slot-preserved : goal.loop-slot-preserved
loop-slot-preserved g c =
    let p : Addr → Bool = g.M.Marker.promoted c.args.marker.now in
    let under = c.loop-slot.invariant.under in
    let due = row_due under c.in-Some.ensures.row in
    let same = row_same under c.in-Some.ensures.row in
    change_row c.loop-slot.invariant c.in-Some.ensures.row
    (swept_row c.args.task p due same c.clear_row.ensures.row) c.next.ensures.on c.next.ensures.steps
    c.clear_row.result c.from-cleared.result
    (λ yes. swept_has c.args.task p due same (sym c.clear_row.ensures.lost ∙ yes))
    (λ no. swept_hasnt c.args.task p due same (sym c.clear_row.ensures.lost ∙ no)) c.from-cleared.ensures

pub returns-clause-passed : goal.returns-clause-passed
returns-clause-passed g c = record {
  table = c.loop-slot.invariant.under.table;
  promotes = refl;
  pins = refl;
  swept = changed c.loop-slot.invariant c.in_default.ensures.row;
  count = changed_count c.loop-slot.invariant c.in_default.ensures.row;
}

pub returns-clause-steps : goal.returns-clause-steps
returns-clause-steps g c =
    changed_steps c.loop-slot.invariant c.in_default.ensures.row c.next.ensures.steps

pub returns-clause-whole : goal.returns-clause-whole
returns-clause-whole g c = λ sound.
    let o = objects_of (g.M.Marker.basis c.args.marker.now) in
    let p : Addr → Bool = g.M.Marker.promoted c.args.marker.now in
    sweep_whole o c.args.seg.now c.args.ages.now c.args.n c.args.task p
    (subst (λ n. IsSettled o n p) c.requires.visit.generation
    (g.met.M.Marker.settles c.args.marker.now c.requires.settled)) sound _ _ c.loop-slot.cleared
    (returns-clause-passed g c)
