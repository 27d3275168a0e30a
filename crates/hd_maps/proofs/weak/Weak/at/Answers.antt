use Rattle.std.proofs.Common.{ap, option_map, ◌∙◌}
use Rattle.hd_maps.specs.View.{entry_of}
use Rattle.hd_maps.proofs.WeakCalls.{held_read}
use Rattle.hd_maps.proofs.weak.Weak.at.Goals as goal

pub returns : goal.returns
returns c =
    ap (option_map (option_map entry_of)) c.at.ensures ∙ held_read c.self.invariant c.self.view_is c.args.slot
