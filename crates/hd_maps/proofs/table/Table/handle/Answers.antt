use Rattle.std.proofs.Common.{ap, option_map, ◌∙◌}
use Rattle.hd_model.specs.Handles.{handle_of}
use Rattle.hd_maps.proofs.TableCalls.{handle_read}
use Rattle.hd_maps.proofs.table.Table.handle.Goals as goal

pub returns : goal.returns
returns c = ap (option_map handle_of) c.at.ensures ∙ handle_read c.self.invariant c.self.view_is c.args.slot
