use Rattle.hd_script.proofs.Basics.{None, Some, ap, arith, length, nat_tests, reading_of, sym, true, words_of, ◌<◌, ◌∙◌, ◌≡◌}
use Rattle.hd_script.specs.Said.{seen}
use Rattle.hd_script.proofs.LineSplit.{shorter}
use Rattle.hd_faults.specs.ScriptFaults.{is_at_fault}
use Rattle.hd_faults.proofs.ScriptLines.{found_here, goes_past, has_word, is_found, lines_left, none_left, of_read, of_unread, reading_is}
use Rattle.hd_faults.proofs.script.find_fault.Goals as goal

pub returns-in_default : goal.returns-in_default
returns-in_default c =
    let line = c.first_line-line.result.now in
    let unread : reading_of (words_of line) ≡ None =
    reading_is c.lines.rest.now line None c.first_line-line.ensures.line c.in_default.ensures.exact in
    found_here c.args.bytes.now c.lines.rest.now line c.lines.number c.lines.commands c.lines.invariant.here
    (grind (arith, nat_tests)) c.first_line-line.ensures.line c.lines.invariant.lines
    (ap (is_at_fault c.lines.commands) unread) c.fault_of_line.result
    (is_found line c.fault_of_line.result c.fault_of_line.ensures.reading unread)
    (of_unread line c.fault_of_line.result c.fault_of_line.ensures.cause c.fault_of_line.ensures.position)
    c.numbered.result _ (omega arith) c.numbered.ensures

pub returns-then-is_at_fault : goal.returns-then-is_at_fault
returns-then-is_at_fault c =
    let line = c.first_line-line.result.now in
    let read : reading_of (words_of line) ≡ Some (seen c.in-Some.reading) =
    reading_is c.lines.rest.now line (Some (seen c.in-Some.reading)) c.first_line-line.ensures.line
    c.in-Some.ensures.exact in
    let at_fault : is_at_fault c.lines.commands (reading_of (words_of line)) ≡ true =
    ap (is_at_fault c.lines.commands) read ∙ sym c.is_at_fault.ensures ∙ c.if-is_at_fault.true in
    found_here c.args.bytes.now c.lines.rest.now line c.lines.number c.lines.commands c.lines.invariant.here
    (grind (arith, nat_tests)) c.first_line-line.ensures.line c.lines.invariant.lines at_fault
    c.one_too_many.result
    (has_word line c.one_too_many.result c.lines.commands c.one_too_many.ensures.none at_fault)
    (of_read line c.one_too_many.result (seen c.in-Some.reading) read c.one_too_many.ensures.some)
    c.numbered-then-is_at_fault.result _ (omega arith) c.numbered-then-is_at_fault.ensures

pub returns : goal.returns
returns c =
    none_left c.lines.rest.now c.lines.number c.lines.commands _ (grind (arith, nat_tests))
    c.lines.invariant.here

pub lines-smaller : goal.lines-smaller
lines-smaller c = rw c.in-Some.ensures.line (shorter c.lines.rest.now (grind (arith, nat_tests)))

pub lines-preserved : goal.lines-preserved
lines-preserved c =
    let some : 0 < length c.lines.rest.now = grind (arith, nat_tests) in
    let line = c.first_line-line.result.now in
    let less = shorter c.lines.rest.now some in
    let read : reading_of (words_of line) ≡ Some (seen c.in-Some.reading) =
    reading_is c.lines.rest.now line (Some (seen c.in-Some.reading)) c.first_line-line.ensures.line
    c.in-Some.ensures.exact in
    record {
      here = rw c.in-Some.ensures.line
          (goes_past c.args.bytes.now c.lines.rest.now line c.lines.number c.lines.commands
          c.lines.invariant.here some c.first_line-line.ensures.line (Some (seen c.in-Some.reading))
          c.count_after-commands.result read (sym c.is_at_fault.ensures ∙ c.if-is_at_fault.false)
          c.count_after-commands.ensures.count);
      lines = rw c.in-Some.ensures.line
          (lines_left c.args.bytes.now c.lines.rest.now line c.lines.number c.lines.commands
          c.lines.invariant.here some c.first_line-line.ensures.line c.lines.invariant.lines);
      few = omega (arith, c.lines.invariant.few, c.count_after-commands.ensures.most);
      room = rw c.in-Some.ensures.line (omega (arith, c.lines.invariant.room, less));
    }
