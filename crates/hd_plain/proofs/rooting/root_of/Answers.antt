use Rattle.std.proofs.Common.{List, ap, map, subst, ◌∙◌}
use Rattle.std.specs.FinMap.{values}
use Rattle.std.specs.List.{Contains}
use Rattle.hd_model.specs.Anchors.{AnchorOf, EdgeOf, by_handle}
use Rattle.hd_model.specs.Handles.{handle_of}
use Rattle.hd_plain.specs.Inside.{held_by}
use Rattle.hd_plain.specs.MachineViews.{MachineView}
use Rattle.hd_maps.specs.TableViews.{Row}
use Rattle.hd_plain.proofs.AnchorGains.{is_held}
use Rattle.hd_plain.proofs.RootLevels.{row_stored}
use Rattle.hd_plain.proofs.RootWalk.{anchor_first}
use Rattle.hd_plain.proofs.rooting.root_of.Goals as goal

pub returns-then-is_held-clause-shortest : goal.returns-then-is_held-clause-shortest
returns-then-is_held-clause-shortest c =
    let s = c.args.machine.now.state in
    let (h, has) = c.is_held.ensures c.if-is_held.true in
    let (slot, at) = row_stored s c.in_ok-handles.handles.items
    (c.in_ok-handles.ensures ∙ ap (λ (j : MachineView). values j.state.handles) c.machine.view_is) h
    (subst (λ (hs : List Row). Contains hs h) c.deref.ensures.value has.0) in
    anchor_first (EdgeOf s) (AnchorOf s) c.args.goal
    (by_handle (is_held s slot c.args.goal (ap held_by at ∙ has.1)))

pub near-requires-clause-handles : goal.near-requires-clause-handles
near-requires-clause-handles c =
    ap (map handle_of) c.deref-2.ensures.value ∙ c.in_ok-handles.ensures
    ∙ ap (λ (j : MachineView). values j.state.handles) c.machine.view_is
