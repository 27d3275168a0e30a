use Rattle.std.proofs.Common.{ap, sym, take, ◌+◌, ◌∙◌, ◌∷◌, ℕ, List}
use Rattle.std.proofs.lemmas.List.{take_rest}
use Rattle.hd_model.specs.RunTexts.{cut_lines}
use Rattle.hd_audit.proofs.LineCuts.{cut_at, cut_nowhere}
use Rattle.hd_audit.proofs.lines.cut_line.Goals as goal

pub returns-in-Some-clause-lines : goal.returns-in-Some-clause-lines
returns-in-Some-clause-lines c =
    cut_at c.args.bytes.now c.in-Some.end (sym c.in-Some.ensures.end)
    ∙ ap (λ (l : List ℕ). take (c.in-Some.end + 1) c.args.bytes.now ∷ cut_lines l)
    (sym (take_rest c.args.bytes.now (c.in-Some.end + 1)))

pub returns-in-None-clause-lines : goal.returns-in-None-clause-lines
returns-in-None-clause-lines c =
    cut_nowhere c.args.bytes.now c.requires (sym c.in-None.ensures.end)
