use Rattle.hd_dep.proofs.Basics.{Addr, Bool, IsSettled, change_row, change_smaller, change_start, changed, changed_count, changed_steps, objects_of, row_due, row_live, row_of_kind, row_same, row_target, subst, sym, ◌∙◌}
use Rattle.hd_dep.proofs.DependentClear.{undue_kept, detached_due, detached_row, detached_has, detached_hasnt, detached_whole, detached_whole_count}
use Rattle.hd_model.specs.declared.data.Kind.TheVariants as kind
use Rattle.hd_dep.proofs.clearing.clear.Goals as goal

pub start-rows-requires : goal.start-rows-requires
start-rows-requires g c = record { blocks = c.requires.due.visit.covers }

pub loop-slot-init : goal.loop-slot-init
loop-slot-init g c =
    change_start c.args.seg.now c.args.ages.now c.args.n kind.Dependent _ _ c.start-rows.ensures.table
    c.start-rows.result c.args.steps.now c.start-rows.ensures.on
    c.start-rows.ensures.slots c.start-rows.ensures.clumps
    (undue_kept c.args.seg.now c.args.ages.now c.args.n (g.M.Marker.promoted c.args.marker.now))
    (detached_due c.args.seg.now c.args.ages.now c.args.n (g.M.Marker.promoted c.args.marker.now))

pub clear_row-requires-clause-live : goal.clear_row-requires-clause-live
clear_row-requires-clause-live g c = row_live c.loop-slot.invariant.under c.in-Some.ensures.row

pub clear_row-requires-clause-of_kind : goal.clear_row-requires-clause-of_kind
clear_row-requires-clause-of_kind g c = row_of_kind c.loop-slot.invariant.under c.in-Some.ensures.row

pub clear_row-requires-clause-object : goal.clear_row-requires-clause-object
clear_row-requires-clause-object g c =
    row_target c.loop-slot.invariant.under c.in-Some.ensures.row
    (objects_of (g.M.Marker.basis c.args.marker.now)) c.requires.due.visit.names

pub loop-slot-smaller : goal.loop-slot-smaller
loop-slot-smaller g c =
    let under = c.loop-slot.invariant.under in
    change_smaller c.loop-slot.invariant c.in-Some.ensures.row
    (detached_row (g.M.Marker.promoted c.args.marker.now) (row_due under c.in-Some.ensures.row)
    (row_same under c.in-Some.ensures.row) c.clear_row.ensures.row)

pub loop-slot-preserved : goal.loop-slot-preserved
loop-slot-preserved g c =
    let p : Addr → Bool = g.M.Marker.promoted c.args.marker.now in
    let under = c.loop-slot.invariant.under in
    let due = row_due under c.in-Some.ensures.row in
    let same = row_same under c.in-Some.ensures.row in
    change_row c.loop-slot.invariant c.in-Some.ensures.row
    (detached_row p due same c.clear_row.ensures.row) c.next.ensures.on c.next.ensures.steps
    c.clear_row.result c.from-cleared.result
    (λ yes. detached_has p due same (sym c.clear_row.ensures.lost ∙ yes))
    (λ no. detached_hasnt p due same (sym c.clear_row.ensures.lost ∙ no)) c.from-cleared.ensures

pub returns-clause-detached : goal.returns-clause-detached
returns-clause-detached g c = changed c.loop-slot.invariant c.in_default.ensures.row

pub returns-clause-count : goal.returns-clause-count
returns-clause-count g c = changed_count c.loop-slot.invariant c.in_default.ensures.row

pub returns-clause-steps : goal.returns-clause-steps
returns-clause-steps g c =
    changed_steps c.loop-slot.invariant c.in_default.ensures.row c.next.ensures.steps

pub returns-clause-whole : goal.returns-clause-whole
returns-clause-whole g c =
    let o = objects_of (g.M.Marker.basis c.args.marker.now) in
    let p : Addr → Bool = g.M.Marker.promoted c.args.marker.now in
    detached_whole o c.args.seg.now c.loop-slot.seg c.args.ages.now c.args.n p
    (subst (λ n. IsSettled o n p) c.requires.due.visit.generation
    (g.met.M.Marker.settles c.args.marker.now c.requires.settled))
    c.requires.due.sound (returns-clause-detached g c)

pub returns-clause-whole_count : goal.returns-clause-whole_count
returns-clause-whole_count g c =
    let o = objects_of (g.M.Marker.basis c.args.marker.now) in
    let p : Addr → Bool = g.M.Marker.promoted c.args.marker.now in
    detached_whole_count o c.args.seg.now c.loop-slot.seg c.args.ages.now c.args.n p
    (subst (λ n. IsSettled o n p) c.requires.due.visit.generation
    (g.met.M.Marker.settles c.args.marker.now c.requires.settled))
    c.requires.due.sound c.loop-slot.cleared (returns-clause-count g c)
