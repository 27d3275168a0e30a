use Rattle.std.proofs.Common.{ap, option_map, ◌∙◌}
use Rattle.std.specs.FinMap.{get}
use Rattle.hd_maps.specs.View.{use_of}
use Rattle.hd_maps.proofs.TableCalls.{use_read}
use Rattle.hd_maps.proofs.table.Table.use_of.Goals as goal

pub returns : goal.returns
returns c =
    ap (option_map use_of) (c.at.ensures ∙ ap (get c.self.inside.uses) c.from.ensures)
    ∙ use_read c.self.invariant c.self.view_is c.args.block
