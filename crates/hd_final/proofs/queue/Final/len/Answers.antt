use Rattle.hd_final.proofs.Basics.{Queue, arith, subst}
use Rattle.hd_final.specs.Queue.{IsQueue}
use Rattle.hd_final.proofs.queue.Final.len.Goals as goal

pub overflow_cast-result : goal.overflow_cast-result
overflow_cast-result c =
    omega (arith, c.self.invariant.low, c.len.ensures, c.self.inside.queued.ok.0, c.self.invariant.fits)

pub returns-clause-queue : goal.returns-clause-queue
returns-clause-queue c =
    subst (λ (q : Queue). IsQueue q) c.self.view_is (record {
      once = c.self.invariant.once;
      fits = c.self.invariant.fits;
      low = c.self.invariant.low;
    })
