use Rattle.hd_run.proofs.RunEndings.{ending_keeps}
use Rattle.hd_run.proofs.SharedRun.{ready, still, together_cause}
use Rattle.hd_run.specs.declared.ending.Ran.TheVariants as ran
use Rattle.hd_run.proofs.threads.Team.run.Goals as goal

pub play_all-done-requires-clause-ready : goal.play_all-done-requires-clause-ready
play_all-done-requires-clause-ready g c l outlives k d lt =
    ready c.args.self.shared c.args.scripts.now c.args.self.callers c.requires.as_many c.requires.all
    c.requires.begin k d lt

pub close-requires : goal.close-requires
close-requires g c =
    still c.args.self.shared c.args.scripts.now c.args.self.callers c.requires.as_many c.requires.all
    c.requires.begin c.play_all-done.new.callers c.play_all-done.ensures.played

pub returns-clause-kept : goal.returns-clause-kept
returns-clause-kept g c = rw c.of.ensures (ending_keeps c.play_all-done.result (ran.Shared c.close.result))

pub returns-clause-cause : goal.returns-clause-cause
returns-clause-cause g c =
    rw c.of.ensures
    (together_cause c.args.self.shared c.args.scripts.now c.args.self.callers c.requires.as_many
    c.requires.all c.requires.begin c.play_all-done.new.callers c.play_all-done.ensures.played
    c.close.result c.close.ensures.parts c.args.self.shared.numbers c.close.ensures.numbers
    c.close.ensures.run c.play_all-done.result c.play_all-done.ensures.done)
