use Rattle.std.proofs.Common.{subst, sym}
use Rattle.hd_maps.specs.Inside.{IsTable}
use Rattle.hd_maps.proofs.TableCalls.{handle_taken, seen_taken}
use Rattle.hd_maps.proofs.table.Table.take.Goals as goal

pub invariant_of-self : goal.invariant_of-self
invariant_of-self c =
    subst (λ m. IsTable c.self.inside.blocks m c.self.inside.uses) (sym c.remove.ensures.0)
    (handle_taken c.self.invariant c.args.slot)

pub returns : goal.returns
returns c = seen_taken c.self.invariant c.self.view_is _ c.args.slot c.remove.ensures.0
