use Rattle.hd_run.proofs.Basics.{All, take, ◌≡◌}
use Rattle.hd_run.proofs.threads.all_are_done.Given as goal

-- the callers before this one are done
abbrev pub invariant-loop-caller : goal.invariant-loop-caller
invariant-loop-caller l = All (λ p. p.room ≡ 0) (take l.caller-index l.callers)
