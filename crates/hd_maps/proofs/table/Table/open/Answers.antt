use Rattle.hd_maps.proofs.TableCalls.{opened, seen_open}
use Rattle.hd_maps.proofs.table.Table.open.Goals as goal

pub invariant_of-result : goal.invariant_of-result
invariant_of-result c =
    opened c.args.blocks c.new-handles.result c.new-uses.result c.requires c.new-handles.ensures
    c.new-uses.ensures

pub returns : goal.returns
returns c =
    seen_open c.args.blocks c.new-handles.result c.new-uses.result c.new-handles.ensures c.new-uses.ensures
