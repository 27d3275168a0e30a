use Rattle.hd_script.proofs.Basics.{List, None, Some, ap, reading_of, subst, sym, true, words_of, ℕ, ◌∙◌, ◌≡◌}
use Rattle.hd_script.specs.Said.{seen}
use Rattle.hd_faults.specs.ScriptFaults.{FaultOf, is_at_fault}
use Rattle.hd_faults.proofs.ScriptLines.{has_word, is_fault_of, is_found, of_read, of_unread, reading_is}
use Rattle.hd_faults.proofs.script.first_line_fault.Goals as goal

pub returns-in_default : goal.returns-in_default
returns-in_default c =
    let line = c.first_line-line.result.now in
    let before = c.args.commands in
    let is = c.first_line-line.ensures.line in
    let unread : reading_of (words_of line) ≡ None =
    reading_is c.args.bytes.now line None is c.in_default.ensures.exact in
    subst (λ (l : List ℕ). FaultOf before l c.fault_of_line.result) is
    (is_fault_of line c.fault_of_line.result before (ap (is_at_fault before) unread)
    (is_found line c.fault_of_line.result c.fault_of_line.ensures.reading unread)
    (of_unread line c.fault_of_line.result c.fault_of_line.ensures.cause c.fault_of_line.ensures.position))

pub returns-then-is_at_fault : goal.returns-then-is_at_fault
returns-then-is_at_fault c =
    let line = c.first_line-line.result.now in
    let before = c.args.commands in
    let is = c.first_line-line.ensures.line in
    let read : reading_of (words_of line) ≡ Some (seen c.in-Some.reading) =
    reading_is c.args.bytes.now line (Some (seen c.in-Some.reading)) is c.in-Some.ensures.exact in
    let at_fault : is_at_fault before (reading_of (words_of line)) ≡ true =
    ap (is_at_fault before) read ∙ sym c.is_at_fault.ensures ∙ c.if-is_at_fault.true in
    subst (λ (l : List ℕ). FaultOf before l c.one_too_many.result) is
    (is_fault_of line c.one_too_many.result before at_fault
    (has_word line c.one_too_many.result before c.one_too_many.ensures.none at_fault)
    (of_read line c.one_too_many.result (seen c.in-Some.reading) read c.one_too_many.ensures.some))

pub returns : goal.returns
returns c =
    let line = c.first_line-line.result.now in
    let before = c.args.commands in
    let is = c.first_line-line.ensures.line in
    let read : reading_of (words_of line) ≡ Some (seen c.in-Some.reading) =
    reading_is c.args.bytes.now line (Some (seen c.in-Some.reading)) is c.in-Some.ensures.exact in
    subst (λ (l : List ℕ). FaultOf before l None) is
    (ap (is_at_fault before) read ∙ sym c.is_at_fault.ensures ∙ c.if-is_at_fault.false)
