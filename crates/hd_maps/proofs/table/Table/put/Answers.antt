use Rattle.std.proofs.Common.{ap, arith, subst, sym}
use Rattle.hd_maps.specs.Inside.{IsTable}
use Rattle.hd_maps.specs.TableViews.{TableView}
use Rattle.hd_maps.proofs.TableCalls.{handle_put, seen_put}
use Rattle.hd_maps.proofs.table.Table.put.Goals as goal

pub invariant_of-self-2 : goal.invariant_of-self-2
invariant_of-self-2 c =
    subst (λ m. IsTable c.self.inside.blocks m c.self.inside.uses) (sym c.in_ok-insert.ensures)
    (handle_put c.self.invariant c.args.slot c.args.handle
    (omega (arith, c.requires, ap (λ (t : TableView). t.blocks) c.self.view_is)))

pub returns : goal.returns
returns c = seen_put c.self.invariant c.self.view_is _ c.args.slot c.args.handle c.in_ok-insert.ensures
