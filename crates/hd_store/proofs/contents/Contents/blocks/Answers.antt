use Rattle.hd_store.proofs.StoreWords.{Machine, ap, arith, ◌≡◌}
use Rattle.hd_store.proofs.contents.Contents.blocks.Goals as goal

pub returns-clause-value : goal.returns-clause-value
returns-clause-value c =
    let blocks : c.self.inside.table.blocks ≡ c.args.self.now.numbers.blocks =
    ap (λ (m : Machine). m.numbers.blocks) c.self.view_is in
    omega (arith, blocks, c.self.invariant.clumps, c.blocks-2.ensures.value)

pub returns-clause-table : goal.returns-clause-table
returns-clause-table c =
    let blocks : c.self.inside.table.blocks ≡ c.args.self.now.table.blocks =
    ap (λ (m : Machine). m.table.blocks) c.self.view_is in
    omega (arith, blocks, c.self.invariant.clumps, c.blocks-2.ensures.value)
