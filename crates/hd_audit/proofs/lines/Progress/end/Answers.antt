use Rattle.std.proofs.Common.{eqb-true, subst, sym, ◌+◌, ◌∙◌}
use Rattle.std.proofs.lemmas.List.{nil_from_length}
use Rattle.hd_model.specs.RunTexts.{IsNoRun}
use Rattle.hd_audit.proofs.LineVerdicts.{missing_line}
use Rattle.hd_audit.proofs.lines.Progress.end.Goals as goal

pub returns-then-is_empty : goal.returns-then-is_empty
returns-then-is_empty c = λ lists lines bytes along counted cut.
    subst (λ k. IsNoRun c.args.self.now.machine.numbers lists bytes (k + 1)) counted
    (missing_line along bytes c.args.rest.now cut
    (nil_from_length c.args.rest.now (eqb-true _ 0 (sym c.is_empty.ensures ∙ c.if-is_empty.true))))
