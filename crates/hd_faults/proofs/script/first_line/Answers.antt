use Rattle.hd_script.proofs.Basics.{ap, arith, sym, take, take_all}
use Rattle.hd_model.specs.Grammar.{is_line_end}
use Rattle.hd_faults.proofs.PlacedWords.{found, missing}
use Rattle.hd_faults.proofs.script.first_line.Goals as goal

pub returns-in-Some-clause-line : goal.returns-in-Some-clause-line
returns-in-Some-clause-line c =
    ap (λ n. take n c.args.bytes.now)
    (found is_line_end c.args.bytes.now c.in-Some.end (sym c.in-Some.ensures.end))

pub returns-in-None-clause-line : goal.returns-in-None-clause-line
returns-in-None-clause-line c =
    let bytes = c.args.bytes.now in
    let end = missing is_line_end bytes (sym c.in-None.ensures.end) in
    sym (take_all _ bytes (omega (arith, end)))
