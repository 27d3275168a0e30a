use Rattle.std.proofs.Common.{arith}
use Rattle.std.proofs.lemmas.Fmt.{parse-decimal}
use Rattle.hd_path.proofs.words.number_in.Goals as goal

pub returns-in-Ok : goal.returns-in-Ok
returns-in-Ok c = λ n small is.
    let r = parse-decimal 32 n c.args.word.now c.parse.result small (omega (arith, small)) is
    c.parse.ensures.value.0 in
    cc

pub returns-in-Err : goal.returns-in-Err
returns-in-Err c = λ n small is.
    let r = parse-decimal 32 n c.args.word.now c.parse.result small (omega (arith, small)) is
    c.parse.ensures.value.0 in
    cc
