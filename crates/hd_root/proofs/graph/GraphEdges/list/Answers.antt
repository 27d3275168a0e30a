use Rattle.std.proofs.Common.{ap, subst, sym, true, ◌++◌, ◌∙◌, ◌≡◌}
use Rattle.std.specs.Prelude.{flat_map}
use Rattle.std.proofs.lemmas.Result.{IfOk-weaker}
use Rattle.hd_model.specs.Heap.{has_object, object_at}
use Rattle.hd_model.specs.Scene.{fields_at}
use Rattle.hd_root.specs.Links.{Attaches}
use Rattle.hd_root.specs.{Search.EdgeBy, Search.IsNode, Search.address, Search.in_any_order, Inside.HasListed, Inside.nodes_in}
use Rattle.hd_root.proofs.ChainRoom.{small_address}
use Rattle.hd_root.proofs.TargetLists.{targets_are}
use Rattle.hd_walk.specs.Walk.{AreTargets}
use Rattle.hd_root.proofs.graph.GraphEdges.list.Goals as goal

pub address-from-requires : goal.address-from-requires
address-from-requires c =
    small_address c.args.self.now.heap.now c.count-count.ensures.sound c.args.at c.requires.node.object

pub list_fields-requires : goal.list_fields-requires
list_fields-requires c =
    subst (λ a. has_object c.args.self.now.heap.now a ≡ true) (sym c.address-from.ensures)
    c.requires.node.object

pub returns : goal.returns
returns c =
    let g = c.args.self.now in
    let mid = c.list_fields.new.targets.items in
    let new = c.list_dependents.new.targets.items in
    IfOk-weaker c.list_dependents.result
    (λ _. HasListed (λ y. Attaches g.dependents.now c.address-from.result (address y)) mid new)
    (λ _. AreTargets (IsNode g.heap.now g.seg.now g.dependents.now) (EdgeBy g.heap.now g.seg.now c.args.at)
    in_any_order new)
    (λ _ listed.
    targets_are c.requires.node c.requires.none
    (c.in_ok-list_fields.ensures
    ∙ ap (λ a. c.args.targets.now.items ++ flat_map nodes_in (fields_at (object_at g.heap.now) a))
    c.address-from.ensures)
    (subst (λ a. HasListed (λ y. Attaches g.dependents.now a (address y)) mid new) c.address-from.ensures
    listed)) c.list_dependents.ensures
