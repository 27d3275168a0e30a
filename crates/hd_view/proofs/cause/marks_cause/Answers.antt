use Rattle.std.proofs.Common.{ap, is_some, sym, ◌∙◌, true≢false}
use Rattle.hd_view.specs.Inside.{parts_in}
use Rattle.hd_view.proofs.RowCauses.{is_there, marks_grown, marks_missing, marks_needless, marks_read, marks_replied, marks_slot, marks_with, other_number, same_slot}
use Rattle.hd_view.proofs.cause.marks_cause.Goals as goal

pub blocks_cause-requires : goal.blocks_cause-requires
blocks_cause-requires c = λ same. true≢false (sym (c.same_blocks.ensures.1 same) ∙ c.if-not-same_blocks.true)

pub returns-then-not-same_blocks : goal.returns-then-not-same_blocks
returns-then-not-same_blocks c =
    let k = c.args.before.now in
    let p = parts_in c.args.stated in
    c.blocks_cause.ensures k (marks_replied k p c.args.entry c.requires) (marks_grown k p c.args.entry c.requires)

pub returns-in-None-None : goal.returns-in-None-None
returns-in-None-None c =
    marks_read c.args.before.now (parts_in c.args.stated) c.args.entry c.requires
    (c.in-None-None.is-1 ∙ sym c.in-None-None.is-0) (c.same_blocks.ensures.0 c.if-not-same_blocks.false)

pub returns-in-None-Some : goal.returns-in-None-Some
returns-in-None-Some c =
    marks_needless c.args.before.now (parts_in c.args.stated) c.args.entry c.requires
    (c.same_blocks.ensures.0 c.if-not-same_blocks.false) c.in-None-Some.is-0
    (is_there (parts_in c.args.stated).slot (ap is_some c.in-None-Some.is-1))

pub returns-in-Some-None : goal.returns-in-Some-None
returns-in-Some-None c =
    marks_missing c.args.before.now (parts_in c.args.stated) c.args.entry c.requires
    (c.same_blocks.ensures.0 c.if-not-same_blocks.false) _ c.in-Some-None.is-0 c.in-Some-None.is-1

pub returns-then-slot-own : goal.returns-then-slot-own
returns-then-slot-own c =
    marks_read c.args.before.now (parts_in c.args.stated) c.args.entry c.requires
    (c.in-Some-Some.is-1 ∙ same_slot c.in-Some-Some.slot c.in-Some-Some.own c.if-slot-own.true
    ∙ sym c.in-Some-Some.is-0) (c.same_blocks.ensures.0 c.if-not-same_blocks.false)

pub other_slot-requires : goal.other_slot-requires
other_slot-requires c =
    other_number c.in-Some-Some.slot c.in-Some-Some.own (parts_in c.args.stated).slot c.in-Some-Some.is-1
    c.if-slot-own.false

pub returns-else-slot-own : goal.returns-else-slot-own
returns-else-slot-own c =
    let k = c.args.before.now in
    let p = parts_in c.args.stated in
    c.other_slot.ensures
    (marks_with k p c.args.entry c.requires (c.same_blocks.ensures.0 c.if-not-same_blocks.false))
    (marks_slot k p c.args.entry c.requires c.in-Some-Some.own c.in-Some-Some.is-0)
