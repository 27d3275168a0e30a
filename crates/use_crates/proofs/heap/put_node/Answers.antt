use Rattle.hd_model.specs.Heap.{placed_at}
use Rattle.use_crates.proofs.Nodes.{made_there, node_field, still_some, stored_there, written_there}
use Rattle.use_crates.proofs.heap.put_node.Goals as goal

pub store-requires-clause-object : goal.store-requires-clause-object
store-requires-clause-object c = made_there c.in_ok-node.ensures.made

pub store-requires-clause-within : goal.store-requires-clause-within
store-requires-clause-within c = node_field c.args.id c.in_ok-node.ensures.made

pub store-requires-clause-target : goal.store-requires-clause-target
store-requires-clause-target c = still_some c.in_ok-node.ensures.made c.args.next c.requires.next

pub set_value-requires : goal.set_value-requires
set_value-requires c =
    stored_there c.new_object.new.self c.store.new.self c.in_ok-node.node c.in_ok-node.node 0 c.args.next
    c.store.ensures (made_there c.in_ok-node.ensures.made)

pub returns : goal.returns
returns c =
    let node = c.in_ok-node.node in
    let there = stored_there c.new_object.new.self c.store.new.self node node 0 c.args.next c.store.ensures
    (made_there c.in_ok-node.ensures.made) in
    written_there c.store.new.self c.set_value.new.self node node
    (record (placed_at c.store.new.self node) { value = c.args.value }) c.set_value.ensures there
