use Rattle.hd_script.proofs.Basics.{Err, Some, arith, line_after, nat_tests, reading_of, refl, script_of, subst, words_at, ◌+◌, ◌≡◌}
use Rattle.hd_script.specs.Said.{seen}
use Rattle.hd_script.proofs.LineLists.{Follows, begun, finished, unreadable, one_too_many, after_blank, after_caller, after_command, fewer}
use Rattle.hd_script.proofs.parsing.parse.Goals as goal

pub lines-init : goal.lines-init
lines-init c = begun c.args.bytes.now c.in_ok-scripts.scripts c.in_ok-scripts.ensures.empty
    c.in_ok-scripts.ensures.lists

pub returns-in_default-clause-line : goal.returns-in_default-clause-line
returns-in_default-clause-line c =
    subst (λ n. script_of c.args.bytes.now ≡ Err n) (omega arith)
    (unreadable (line_after c.lines.rest.now) c.lines.invariant (grind (arith, nat_tests)) refl
    c.in_default.ensures.exact)

pub lines-preserved-in-Blank : goal.lines-preserved-in-Blank
lines-preserved-in-Blank c =
    let exact : Some (seen c.in-Some.reading) ≡ reading_of (words_at c.lines.rest.now) =
    c.in-Some.ensures.exact in
    after_blank c.in-Some.after.now c.lines.invariant (grind (arith, nat_tests)) c.in-Some.ensures.line
    (rw c.in-Blank.is at exact)

pub lines-preserved-in-Caller : goal.lines-preserved-in-Caller
lines-preserved-in-Caller c =
    let exact : Some (seen c.in-Some.reading) ≡ reading_of (words_at c.lines.rest.now) =
    c.in-Some.ensures.exact in
    subst (λ n. Follows c.args.bytes.now c.open.new.self n (c.lines.number + 1) c.in-Some.after.now)
    (omega arith)
    (after_caller c.in-Some.after.now c.lines.invariant (grind (arith, nat_tests)) c.in-Some.ensures.line
    c.in-Caller.named c.open.new.self (rw c.in-Caller.is at exact) c.open.ensures.lists c.open.ensures.total
    c.in_ok-open-in-Caller.ensures.opened)

pub returns-then-total-eq-MOST_COMMANDS-clause-line : goal.returns-then-total-eq-MOST_COMMANDS-clause-line
returns-then-total-eq-MOST_COMMANDS-clause-line c =
    let exact : Some (seen c.in-Some.reading) ≡ reading_of (words_at c.lines.rest.now) =
    c.in-Some.ensures.exact in
    one_too_many c.in-Some.after.now c.lines.invariant (grind (arith, nat_tests)) c.in-Some.ensures.line
    c.in-Command.cmd (rw c.in-Command.is at exact) (omega arith)

pub lines-preserved : goal.lines-preserved
lines-preserved c =
    let exact : Some (seen c.in-Some.reading) ≡ reading_of (words_at c.lines.rest.now) =
    c.in-Some.ensures.exact in
    after_command c.in-Some.after.now c.lines.invariant (grind (arith, nat_tests)) c.in-Some.ensures.line
    c.in-Command.cmd c.add.new.self (rw c.in-Command.is at exact) c.add.ensures.lists
    c.in_ok-add-in-Command.ensures.added (omega (arith, c.total.ensures.most))

pub returns-clause-ok : goal.returns-clause-ok
returns-clause-ok c = finished c.args.bytes.now c.lines.scripts c.lines.caller c.lines.number
    c.lines.rest.now (grind (arith, nat_tests)) c.lines.invariant

pub lines-smaller-in-Blank : goal.lines-smaller-in-Blank
lines-smaller-in-Blank c =
    fewer c.in-Some.after.now c.lines.invariant (grind (arith, nat_tests)) c.in-Some.ensures.line

pub lines-smaller-in-Caller : goal.lines-smaller-in-Caller
lines-smaller-in-Caller c =
    fewer c.in-Some.after.now c.lines.invariant (grind (arith, nat_tests)) c.in-Some.ensures.line

pub lines-smaller : goal.lines-smaller
lines-smaller c =
    fewer c.in-Some.after.now c.lines.invariant (grind (arith, nat_tests)) c.in-Some.ensures.line
