use Rattle.hd_store.proofs.StoreWords.{arith, parts, ◌/◌}
use Rattle.hd_store.proofs.StoreRows.{kind-outside}
use Rattle.hd_store.proofs.contents.Contents.kind_of.Goals.{then-block-eq0-via-then-block-eq0, then-block-eq0-via-else-block-eq0+then-block-blocks}
use Rattle.hd_store.proofs.contents.Contents.kind_of.Goals as goal
use Rattle.hd_model.specs.declared.limits.TheConstants.{ROWS}

pub returns-then-block-eq0 : goal.returns-then-block-eq0
returns-then-block-eq0 c =
    elim c.then-block-eq0.branch [
      | then-block-eq0-via-then-block-eq0 w ↦
          kind-outside (parts c.self.inside) c.args.self.now c.self.view_is c.self.invariant
          (c.args.slot.0 / ROWS) (λ p. let low = p.0 in let none = w.if-block-eq0.true in omega arith)
      | then-block-eq0-via-else-block-eq0+then-block-blocks w ↦
          kind-outside (parts c.self.inside) c.args.self.now c.self.view_is c.self.invariant
          (c.args.slot.0 / ROWS)
          (λ p. let high = p.1 in let clumps = c.self.invariant.clumps in
          let value = w.blocks-else-block-eq0.ensures.value in let above =
          w.if-block-blocks.true in omega arith)
    ]
