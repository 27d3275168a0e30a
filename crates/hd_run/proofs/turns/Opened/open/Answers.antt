use Rattle.hd_run.proofs.Basics.{IsReadyToRun, Numbers, ap, arith, subst, sym}
use Rattle.hd_run.proofs.TurnSteps.{starts}
use Rattle.hd_run.proofs.turns.Opened.open.Goals as goal

pub returns-clause-ready : goal.returns-clause-ready
returns-clause-ready c =
    let says = c.in_ok-world.ensures in
    let lists = c.args.scripts.now in
    subst (IsReadyToRun lists) (sym c.in_ok-alone.ensures) (record {
      few = says.few;
      callers = ap (λ (n : Numbers). n.callers) says.numbers;
      ready = starts lists c.in_ok-world.world says.empty says.state (omega (arith, says.room));
    })
