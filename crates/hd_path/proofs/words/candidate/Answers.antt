use Rattle.std.proofs.Common.{Some, arith, lit<, ◌%◌, ◌*◌, ◌+◌, ◌/◌, ◌^◌, ◌∙◌, ◌≡◌}
use Rattle.hd_path.proofs.IdWords.{first_part, has_dot, last_part}
use Rattle.hd_path.proofs.words.candidate.Goals as goal

pub returns-in-Some : goal.returns-in-Some
returns-in-Some c = λ x small is.
    let parts = c.in-Some.ensures.byte (lit< tt) (λ w o h. h) in
    let a = x.0 / 2 ^ 32 in
    let b = x.0 % 2 ^ 32 in
    let caller = c.number_in.ensures a (omega (arith, small))
    (parts.0 ∙ first_part a b (omega (arith, small)) c.args.word.now is) in
    let serial = c.number_in-in-Some.ensures b (omega (arith, small))
    (parts.1 ∙ last_part a b (omega (arith, small)) c.args.word.now is) in
    let same : c.from-caller.result * 2 ^ 32 % 2 ^ 64 + c.from-serial.result ≡ x.0 =
    omega (arith, caller, serial, c.from-caller.ensures, c.from-serial.ensures, small) in
    λ i. Some (record { 0 = same i })

pub returns-in-None : goal.returns-in-None
returns-in-None c = λ x small is.
    let none = c.in-None.ensures.byte (lit< tt) (λ w o h. h) in
    let dot = has_dot (x.0 / 2 ^ 32) (x.0 % 2 ^ 32) (omega (arith, small)) c.args.word.now is in
    absurd (omega (arith, none, dot))
