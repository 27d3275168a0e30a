use Rattle.hd_store.proofs.StoreWords.{Slot, arith, block_of, false≢true, subst, sym, ◌∙◌, ◌≡◌}
use Rattle.hd_store.proofs.FreeSlots.{free_rows, no_rows}
use Rattle.hd_store.proofs.sizes.free_in.Goals as goal
use Rattle.hd_store.specs.Sizes.{IsFreeRow}
use Rattle.hd_model.specs.Counting.{Counts}

pub returns-then-is_of-clause-free : goal.returns-then-is_of-clause-free
returns-then-is_of-clause-free c =
    subst (Counts (λ (slot : Slot). IsFreeRow c.args.table.now c.args.kind slot × (block_of slot ≡ c.args.block)))
    (sym c.count.ensures.number) (free_rows c.args.table.now c.args.kind c.args.block c.live_rows.result
    (omega arith) c.live_rows.ensures.bits (c.is_of.ensures.0 c.if-is_of.true))

pub returns-else-is_of-clause-free : goal.returns-else-is_of-clause-free
returns-else-is_of-clause-free c = no_rows c.args.table.now c.args.kind c.args.block
    (λ is. false≢true (sym c.if-is_of.false ∙ c.is_of.ensures.1 is))
