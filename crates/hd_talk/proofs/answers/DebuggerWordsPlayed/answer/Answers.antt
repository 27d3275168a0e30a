use Rattle.std.proofs.Common.{subst}
use Rattle.hd_script.specs.Words.{words_at}
use Rattle.hd_world.specs.StateHeap.{IsOfJournal}
use Rattle.hd_talk.proofs.OwnAnswers.{answered}
use Rattle.hd_talk.proofs.answers.DebuggerWordsPlayed.answer.Goals as goal

pub returns-clause-said : goal.returns-clause-said
returns-clause-said c =
    answered c.args.machine.now (words_at c.args.line.now) c.args.own c.args.number c.requires
    (subst IsOfJournal c.world.ensures c.journal-journal.ensures.sound) c.in_ok-answer.answer
    c.in_ok-answer.ensures
