use Rattle.std.proofs.Common.{ap, subst, sym, ◌∙◌}
use Rattle.std.specs.FinMap.{remove}
use Rattle.hd_maps.specs.Inside.{IsTable}
use Rattle.hd_maps.proofs.TableCalls.{seen_back, use_taken}
use Rattle.hd_maps.proofs.table.Table.take_back.Goals as goal

pub invariant_of-self : goal.invariant_of-self
invariant_of-self c =
    subst (λ m. IsTable c.self.inside.blocks c.self.inside.handles m)
    (sym (c.remove.ensures.0 ∙ ap (remove c.self.inside.uses) c.from.ensures))
    (use_taken c.self.invariant c.args.block)

pub returns : goal.returns
returns c =
    seen_back c.self.invariant c.self.view_is _ c.args.block
    (c.remove.ensures.0 ∙ ap (remove c.self.inside.uses) c.from.ensures)
