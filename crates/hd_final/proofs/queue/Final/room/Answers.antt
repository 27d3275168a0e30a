use Rattle.hd_final.proofs.Basics.{Queue, ap, subst}
use Rattle.hd_final.specs.Queue.{IsQueue}
use Rattle.hd_final.proofs.queue.Final.room.Goals as goal

pub returns : goal.returns
returns c = record {
  value = ap (λ (q : Queue). q.room) c.self.view_is;
  queue = subst (λ (q : Queue). IsQueue q) c.self.view_is (record {
    once = c.self.invariant.once;
    fits = c.self.invariant.fits;
    low = c.self.invariant.low;
  });
}
