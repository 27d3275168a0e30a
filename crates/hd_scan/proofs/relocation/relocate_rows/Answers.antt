use Rattle.hd_scan.proofs.Basics.{IsKeeping, ap, change_row, change_smaller, change_start, changed, changed_steps, false, false≢true, is_paired, objects_of, refl, row_due, row_live, row_of_kind, row_same, subst, ◌∙◌}
use Rattle.hd_scan.proofs.HandleRelocate.{undue_left, moved_row, kept_names, relocates_all}
use Rattle.hd_scan.proofs.relocation.relocate_rows.Goals as goal

pub loop-slot-init : goal.loop-slot-init
loop-slot-init g c =
    change_start c.args.seg.now c.args.ages.now c.args.n c.args.kind _ _ c.start-rows.ensures.table
    c.start-rows.result c.args.steps.now c.start-rows.ensures.on c.start-rows.ensures.slots
    c.start-rows.ensures.clumps
    (undue_left c.args.seg.now c.args.ages.now c.args.n c.args.kind
    (g.F.Forward.forwarding c.args.forward.now)) (λ slot never. absurd never)

pub relocate_row-requires-clause-live : goal.relocate_row-requires-clause-live
relocate_row-requires-clause-live g c = row_live c.loop-slot.invariant.under c.in-Some.ensures.row

pub relocate_row-requires-clause-paired : goal.relocate_row-requires-clause-paired
relocate_row-requires-clause-paired g c =
    ap is_paired (row_of_kind c.loop-slot.invariant.under c.in-Some.ensures.row) ∙ c.requires.paired

pub relocate_row-requires-clause-kept : goal.relocate_row-requires-clause-kept
relocate_row-requires-clause-kept g c =
    let under = c.loop-slot.invariant.under in
    kept_names (row_due under c.in-Some.ensures.row) (row_same under c.in-Some.ensures.row)
    (g.F.Forward.kept c.args.forward.now) c.requires.kept

pub loop-slot-smaller : goal.loop-slot-smaller
loop-slot-smaller g c =
    let under = c.loop-slot.invariant.under in
    change_smaller c.loop-slot.invariant c.in-Some.ensures.row
    (moved_row (row_due under c.in-Some.ensures.row) (row_same under c.in-Some.ensures.row)
    (g.F.Forward.forwarding c.args.forward.now) c.relocate_row.ensures)

pub loop-slot-preserved : goal.loop-slot-preserved
loop-slot-preserved g c =
    let under = c.loop-slot.invariant.under in
    change_row c.loop-slot.invariant c.in-Some.ensures.row
    (moved_row (row_due under c.in-Some.ensures.row) (row_same under c.in-Some.ensures.row)
    (g.F.Forward.forwarding c.args.forward.now) c.relocate_row.ensures)
    c.next.ensures.on c.next.ensures.steps false 0 (λ yes. absurd (false≢true yes)) (λ no never. never) refl

pub returns-clause-relocates : goal.returns-clause-relocates
returns-clause-relocates g c = changed c.loop-slot.invariant c.in_default.ensures.row

pub returns-clause-steps : goal.returns-clause-steps
returns-clause-steps g c =
    changed_steps c.loop-slot.invariant c.in_default.ensures.row c.next.ensures.steps

pub returns-clause-whole : goal.returns-clause-whole
returns-clause-whole g c = λ generation sound.
    let o = objects_of (g.F.Forward.basis c.args.forward.now) in
    relocates_all c.args.seg.now c.args.ages.now c.args.n c.args.kind
    (g.F.Forward.forwarding c.args.forward.now) o (g.F.Forward.kept c.args.forward.now) c.loop-slot.seg
    (subst (λ n. IsKeeping o n (g.F.Forward.kept c.args.forward.now) (g.F.Forward.forwarding
    c.args.forward.now)) generation (g.met.F.Forward.keeps c.args.forward.now c.requires.laid)) sound
    (returns-clause-relocates g c)
