use Rattle.hd_mark.proofs.Basics.{arith, false, promoted_in, sym, ◌∙◌, ◌≡◌}
use Rattle.hd_mark.proofs.MarksInvariant.{spanned, promoted_read, push_room, push_kept, push_seen, push_none}
use Rattle.hd_mark.proofs.marks.Marks.push_new.Goals.{After-insert}
use Rattle.hd_mark.proofs.marks.Marks.push_new.Goals as goal

pub bit-requires-clause-span : goal.bit-requires-clause-span
bit-requires-clause-span c = spanned c.self.invariant c.self.view_is c.args.at c.requires

unmarked : (c : After-insert) → promoted_in c.args.self.now c.args.at ≡ false
unmarked c =
    sym (promoted_read c.self.invariant c.self.view_is c.args.at c.requires
    (sym c.bit.ensures ∙ c.in-Some.is)) ∙ sym c.has.ensures ∙ c.if-has.false

pub push_reserved-requires : goal.push_reserved-requires
push_reserved-requires c =
    let room = push_room c.self.invariant c.self.view_is c.args.at c.requires
    (sym c.bit.ensures ∙ c.in-Some.is) c.insert.new.self.words.items c.insert.ensures.joins
    c.insert.ensures.others (unmarked (goal.at.push_reserved-requires c).After-insert) in
    let long = c.self.inside.log.ok.0 in
    omega arith

pub invariant_of-self : goal.invariant_of-self
invariant_of-self c =
    rw c.push_reserved.ensures.capacity
    (push_kept c.self.invariant c.self.view_is c.args.at c.requires (sym c.bit.ensures ∙ c.in-Some.is)
    c.insert.new.self.words.items c.insert.ensures.joins c.insert.ensures.others
    (unmarked (goal.at.invariant_of-self c).After-insert) c.push_reserved.ensures.items c.insert.ensures.long)

pub returns-clause-after : goal.returns-clause-after
returns-clause-after c =
    push_seen c.self.invariant c.self.view_is c.args.at c.requires (sym c.bit.ensures ∙ c.in-Some.is)
    c.insert.new.self.words.items c.insert.ensures.joins c.insert.ensures.others
    (unmarked (goal.at.returns-clause-after c).After-insert) c.push_reserved.ensures.items

pub returns-clause-is_new : goal.returns-clause-is_new
returns-clause-is_new c = λ _. unmarked (goal.at.returns-clause-is_new c).After-insert

pub returns-then-has-clause-after : goal.returns-then-has-clause-after
returns-then-has-clause-after c =
    push_none c.self.invariant c.self.view_is c.args.at c.requires (sym c.bit.ensures ∙ c.in-Some.is)
    (sym c.has.ensures ∙ c.if-has.true)

pub returns-then-has-clause-is_old : goal.returns-then-has-clause-is_old
returns-then-has-clause-is_old c = λ _.
    sym (promoted_read c.self.invariant c.self.view_is c.args.at c.requires
    (sym c.bit.ensures ∙ c.in-Some.is)) ∙ sym c.has.ensures ∙ c.if-has.true
