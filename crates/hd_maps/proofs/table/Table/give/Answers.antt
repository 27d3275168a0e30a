use Rattle.std.proofs.Common.{ap, arith, subst, sym, ◌∙◌}
use Rattle.std.specs.FinMap.{insert}
use Rattle.hd_maps.specs.Inside.{IsTable}
use Rattle.hd_maps.specs.TableViews.{TableView}
use Rattle.hd_maps.proofs.TableCalls.{seen_given, use_put}
use Rattle.hd_maps.proofs.table.Table.give.Goals as goal

pub invariant_of-self-2 : goal.invariant_of-self-2
invariant_of-self-2 c =
    subst (λ m. IsTable c.self.inside.blocks c.self.inside.handles m)
    (sym (c.in_ok-insert.ensures ∙ ap (λ q. insert c.self.inside.uses q c.args.given) c.from.ensures))
    (use_put c.self.invariant c.args.block c.args.given
    (omega (arith, c.requires, ap (λ (t : TableView). t.blocks) c.self.view_is)))

pub returns : goal.returns
returns c =
    seen_given c.self.invariant c.self.view_is _ c.args.block c.args.given
    (c.in_ok-insert.ensures ∙ ap (λ q. insert c.self.inside.uses q c.args.given) c.from.ensures)
