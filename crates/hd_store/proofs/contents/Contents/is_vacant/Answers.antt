use Rattle.hd_store.proofs.StoreWords.{arith, ◌*◌, ◌+◌}
use Rattle.hd_model.specs.declared.limits.TheConstants.{ROWS}
use Rattle.hd_store.proofs.SpareBlocks.{nothing_more}
use Rattle.hd_store.proofs.contents.Contents.is_vacant.Goals as goal

pub loop-row-init : goal.loop-row-init
loop-row-init c = λ slot low high. absurd (omega arith)

pub returns-then-is_taken-clause-taken : goal.returns-then-is_taken-clause-taken
returns-then-is_taken-clause-taken c = λ _ vacant. c.is_taken.ensures.taken c.if-is_taken.true
    (vacant (record { 0 = c.args.block * ROWS + c.loop-row.row }) (omega arith))

pub loop-row-preserved : goal.loop-row-preserved
loop-row-preserved c = nothing_more c.args.self.now.state c.args.block c.loop-row.row c.loop-row.invariant
    (c.is_taken.ensures.nothing c.if-is_taken.false)

pub returns-clause-vacant : goal.returns-clause-vacant
returns-clause-vacant c = λ _ slot here. c.loop-row.invariant slot (omega (arith, here))
    (omega (arith, here, c.loop-row-test.false, c.loop-row.auto.row-end))
