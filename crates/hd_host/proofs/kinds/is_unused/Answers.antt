use Rattle.std.proofs.Common.{subst, sym, ◌≤◌}
use Rattle.hd_model.specs.Table.{Table}
use Rattle.hd_host.proofs.HandleKinds.{kind-is}
use Rattle.hd_host.proofs.kinds.is_unused.Goals as goal

pub block_kind-requires-clause-high : goal.block_kind-requires-clause-high
block_kind-requires-clause-high c = subst (λ (t : Table). c.args.block ≤ t.blocks) (sym c.table.ensures)
    c.requires.high

pub returns-in-Unused : goal.returns-in-Unused
returns-in-Unused c = λ _. kind-is c.requires.over _ c.table.ensures c.args.block _ c.in-Unused.ensures.value
