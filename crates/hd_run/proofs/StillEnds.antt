-- A count that is the constant 0 does not rise.
use Rattle.hd_run.proofs.Basics.{Rose, arith}
use Rattle.hd_run.specs.Still.{StillEndsNeverFail}

none_rose : Rose 0 0 → ⊥
none_rose rose = grind arith

pub never_fail : StillEndsNeverFail
never_fail = record {
  runs = λ asked source sink o promise.
      ((λ status. none_rose (promise.read status).1), (λ status. none_rose (promise.write status)));
  audits = λ asked source sink o promise.
      ((λ status. none_rose (promise.read status).1), (λ status. none_rose (promise.write status)));
}
