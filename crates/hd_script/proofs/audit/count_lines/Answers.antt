use Rattle.hd_script.proofs.Basics.{arith, length, line_after, nat_tests, subst, sym, ◌+◌, ◌<◌, ◌≡◌, ◌≤◌}
use Rattle.hd_model.specs.RunTexts.{cut_lines}
use Rattle.hd_script.proofs.LineSplit.{shorter}
use Rattle.hd_script.proofs.DividingLines.{counted}
use Rattle.hd_script.proofs.audit.count_lines.Goals as goal

pub lines-smaller : goal.lines-smaller
lines-smaller c =
    let less : length (line_after c.lines.rest.now) < length c.lines.rest.now =
    shorter c.lines.rest.now (grind (arith, nat_tests)) in
    subst (λ r. length r < length c.lines.rest.now) (sym c.after_line-rest.ensures) less

pub lines-preserved : goal.lines-preserved
lines-preserved c =
    subst (λ r. (c.lines.count + 1 + length (cut_lines r) ≡ length (cut_lines c.args.bytes.now))
    × (c.lines.count + 1 + length r ≤ length c.args.bytes.now)) (sym c.after_line-rest.ensures)
    (counted c.lines.count c.args.bytes.now c.lines.rest.now (grind (arith, nat_tests)) c.lines.invariant)
