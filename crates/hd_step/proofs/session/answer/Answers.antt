use mathlib.Core.Logic.{inl, inr}
use Rattle.std.proofs.Common.{refl, subst}
use Rattle.hd_script.specs.Words.{words_at}
use Rattle.hd_step.specs.Dialogue.{IsAnswerOf}
use Rattle.hd_step.proofs.session.answer.Goals as goal

pub returns-in-Text : goal.returns-in-Text
returns-in-Text g c =
    let words = words_at c.args.line.now in
    let said = subst
    (IsAnswerOf (g.W.Words.answers c.args.words.now (g.M.Machine.seen c.args.machine.now) words)
    (g.W.Words.faults c.args.words.now words)) c.in-Text.is c.in_ok-text.ensures.said in
    record { machine = refl; progress = refl; says = inr (said.0, refl, said.1) }

pub returns-in-Fault : goal.returns-in-Fault
returns-in-Fault g c =
    let words = words_at c.args.line.now in
    let said = subst
    (IsAnswerOf (g.W.Words.answers c.args.words.now (g.M.Machine.seen c.args.machine.now) words)
    (g.W.Words.faults c.args.words.now words)) c.in-Fault.is c.in_ok-text.ensures.said in
    record { machine = refl; progress = refl; says = inl (said, refl, c.new.ensures.items) }
