use Rattle.std.proofs.Common.{Some, ap, option_map, sym, ◌∙◌}
use Rattle.hd_model.proofs.WholeScenes.{if_some_from}
use Rattle.hd_maps.specs.View.{entry_of}
use Rattle.hd_maps.proofs.WeakCalls.{entry_named}
use Rattle.hd_maps.proofs.weak.Weak.entry.Goals as goal

pub returns-in-Some-clause-named : goal.returns-in-Some-clause-named
returns-in-Some-clause-named c =
    if_some_from _ c.in-Some.entry
    (λ e is. entry_named c.self.invariant c.self.view_is c.args.slot e
    (sym c.in-Some.ensures ∙ ap (λ o. Some (option_map entry_of o)) is))
