use Rattle.hd_script.proofs.Basics.{codes, ◌++◌}
use Rattle.hd_faults.specs.FaultText.{cause_words, hint_words, position_words}
use Rattle.hd_faults.specs.Hints.{names_for, nearest}
use Rattle.hd_faults.proofs.TextParts.{after}
use Rattle.hd_faults.proofs.explaining.push_line.Goals as goal

pub returns : goal.returns
returns c =
    let fault = c.args.fault.now in
    let cause = cause_words fault.cause fault.command.now fault.word.now in
    let hint = hint_words (nearest fault.word.now (names_for fault.cause)) in
    let position = position_words c.args.number fault.column in
    let t = c.args.text.now.items in
    let x = c.push_position.new.text.items in
    let y = c.push_cause.new.text.items in
    let z = c.push_hint.new.text.items in
    let u = c.push.new.text.items in
    after t z (position ++ cause ++ hint) (codes "\n") u
    (after t y (position ++ cause) hint z (after t x position cause y c.in_ok-push_position.ensures
    c.in_ok-push_cause.ensures) c.in_ok-push_hint.ensures) c.in_ok-push.ensures
