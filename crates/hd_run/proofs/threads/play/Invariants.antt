use Rattle.hd_run.proofs.Basics.{list_of, ◌≡◌}
use Rattle.hd_run.proofs.PlaySteps.{IsAt}
use Rattle.hd_run.proofs.threads.play.Given as goal

-- the commands below this one are done
abbrev pub invariant-commands : goal.invariant-commands
invariant-commands g l = record {
  at : IsAt (list_of l.scripts l.fn.caller.number) l.fn.caller l.caller l.i;
  shared : l.shared ≡ l.fn.shared;
}
