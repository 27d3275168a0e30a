use Rattle.hd_store.proofs.StoreWords.{Run, subst}
use Rattle.hd_world.specs.{StateHeap.IsOfJournal, World.HasRunLimits, World.WorldView}
use Rattle.hd_store.proofs.StateHeap.{of-heap, of-table}
use Rattle.hd_world.proofs.JournalApply.{run_of}
use Rattle.hd_world.proofs.world.World.journal.Goals as goal

pub returns-clause-run : goal.returns-clause-run
returns-clause-run c =
    subst (λ (w : WorldView). Run w.numbers w.journal w.state) c.self.view_is
    (run_of c.self.inside.store c.self.inside.journal.entries c.self.inside.placed.0 c.self.invariant)

pub returns-clause-sound : goal.returns-clause-sound
returns-clause-sound c = subst IsOfJournal c.self.view_is (record {
  aged = c.self.invariant.run;
  heap = of-heap c.self.inside.store c.self.inside.placed.0 c.contents-contents.ensures.heap
      c.self.invariant.addresses;
  table = of-table c.self.inside.store c.self.inside.placed.0 c.contents-contents.ensures.heap;
})

pub returns-clause-limits : goal.returns-clause-limits
returns-clause-limits c =
    subst (λ (w : WorldView). HasRunLimits w.numbers) c.self.view_is c.self.invariant.limits
