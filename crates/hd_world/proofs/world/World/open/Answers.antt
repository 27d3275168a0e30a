use Rattle.hd_store.proofs.StoreWords.{Numbers, ap, replicate, subst, sym, ◌*◌, ◌∙◌, ◌≡◌}
use Rattle.hd_world.specs.World.{HasRunLimits}
use Rattle.hd_world.proofs.JournalApply.{placed_first, run_first, state_first}
use Rattle.hd_world.proofs.world.World.open.Goals.{In_ok-journal}
use Rattle.hd_world.proofs.world.World.open.Goals as goal

-- each clump is as old as it may be
oldest : (c : In_ok-journal) → c.in_ok-store.store.ages ≡ replicate (4 * c.in_ok-store.store.numbers.blocks) 2
oldest c =
    c.in_ok-store.ensures.ages
    ∙ sym (ap (λ (m : Numbers). replicate (4 * m.blocks) 2) c.in_ok-store.ensures.numbers)

-- its numbers are those that were asked for
within : (c : In_ok-journal) → HasRunLimits c.in_ok-store.store.numbers
within c = subst HasRunLimits (sym c.in_ok-store.ensures.numbers) (record {
  heap = c.requires.heap;
  blocks = c.requires.blocks;
  callers = c.requires.callers;
})

pub invariant_of-result : goal.invariant_of-result
invariant_of-result c = (
  placed_first c.in_ok-store.store c.in_ok-journal.journal.entries c.in_ok-store.ensures.state (oldest c)
      c.in_ok-journal.ensures.empty (within c),
  tt,
)

pub invariant_of-result-2 : goal.invariant_of-result-2
invariant_of-result-2 c =
    let at = run_first c.in_ok-store.store c.in_ok-journal.journal.entries c.in_ok-store.ensures.state
    (oldest ((goal.at.invariant_of-result-2 c).In_ok-journal)) c.in_ok-journal.ensures.empty
    (within ((goal.at.invariant_of-result-2 c).In_ok-journal)) in
    search at

pub returns-clause-state : goal.returns-clause-state
returns-clause-state c =
    let at = state_first c.in_ok-store.store c.in_ok-journal.journal.entries c.in_ok-store.ensures.state
    (oldest ((goal.at.returns-clause-state c).In_ok-journal)) c.in_ok-journal.ensures.empty
    (within ((goal.at.returns-clause-state c).In_ok-journal)) in
    search at
