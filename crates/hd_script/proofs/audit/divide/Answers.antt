use Rattle.hd_script.proofs.Basics.{arith, length, line_after, nat_tests, subst, sym, take, ◌-◌, ◌<◌, ◌∙◌}
use Rattle.hd_script.specs.AuditInput.{IsDivided}
use Rattle.hd_script.proofs.LineSplit.{shorter}
use Rattle.hd_script.proofs.DividingLines.{Passed, passed_line, divided_here}
use Rattle.hd_script.proofs.audit.divide.Goals as goal

pub returns-then-divides-clause-parts : goal.returns-then-divides-clause-parts
returns-then-divides-clause-parts c =
    subst (λ text. IsDivided c.args.bytes.now (take (length c.args.bytes.now - length c.lines.rest.now)
    c.args.bytes.now) text)
    (sym c.after_line.ensures)
    (divided_here c.lines.invariant (grind (arith, nat_tests)) (sym c.divides.ensures ∙ c.if-divides.true))

pub lines-smaller : goal.lines-smaller
lines-smaller c =
    let rest = c.after_line-rest.ensures in
    let less : length (line_after c.lines.rest.now) < length c.lines.rest.now =
    shorter c.lines.rest.now (grind (arith, nat_tests)) in
    subst (λ r. length r < length c.lines.rest.now) (sym rest) less

pub lines-preserved : goal.lines-preserved
lines-preserved c =
    subst (λ r. Passed c.args.bytes.now r) (sym c.after_line-rest.ensures)
    (passed_line c.lines.invariant (grind (arith, nat_tests)) (sym c.divides.ensures ∙ c.if-divides.false))
