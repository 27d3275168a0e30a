use Rattle.hd_store.proofs.StoreWords.{Addr, IsMade, KeepsNames, Machine, None, Option, ap, arith, get, get_inserted, identity_of, is_some, last_serial, length-replicate, new_object, parts, subst, sym, total_size, used_of, ◌+◌, ◌∙◌, ◌≡◌}
use Rattle.hd_heap.specs.Calls.{IsRefused as IsRefusedBy}
use Rattle.hd_store.proofs.StateCounts.{used-is, few_objects}
use Rattle.hd_store.proofs.StoreNew.{serial-next, stored-next, machine-next, names-next, refused-next, stored-refused}
use Rattle.hd_store.proofs.contents.Contents.add_object.Goals.{After-index_mut}
use Rattle.hd_store.proofs.contents.Contents.add_object.Goals as goal

-- the serial of the new object, and that its identity has it
last : (c : After-index_mut) → c.index_mut.result.now + 1 ≡ last_serial c.args.self.now.state c.args.caller + 1
last c = serial-next (parts c.self.inside) c.args.self.now c.self.view_is c.self.invariant c.args.caller
    c.index_mut.result.now c.requires.caller c.index_mut.ensures.value

named : (c : After-index_mut) → c.identity-id.result ≡ identity_of c.args.caller (c.index_mut.result.now + 1)
named c =
    let read = serial-next (parts c.self.inside) c.args.self.now c.self.view_is c.self.invariant c.args.caller
    c.index.result.now c.requires.caller c.index.ensures in
    c.identity-id.ensures.value ∙ ap (identity_of c.args.caller) (read ∙ sym (last c))

pub make-requires-clause-few : goal.make-requires-clause-few
make-requires-clause-few c =
    let few = few_objects c.self.inside.heap in omega
    (arith, few, c.self.invariant.within, c.self.invariant.limit)

pub invariant_of-self : goal.invariant_of-self
invariant_of-self c =
    let at = (goal.at.invariant_of-self c).After-index_mut in
    let f = parts c.self.inside in
    let q = c.make.new.queue in
    stored-next f c.args.self.now c.self.view_is c.self.invariant c.make.new.heap c.in-Ok.at
    c.identity-id.result c.from.result c.args.fin c.in-Ok.ensures.heap c.args.caller
    (c.index_mut.result.now + 1) (last at) (named at) c.requires.fresh q
    c.make.ensures.queue.0 c.in-Ok.ensures.room

pub returns-in-Ok-clause-made : goal.returns-in-Ok-clause-made
returns-in-Ok-clause-made c =
    let at = (goal.at.returns-in-Ok-clause-made c).After-index_mut in
    let f = parts c.self.inside in
    let q = c.make.new.queue in
    machine-next f c.args.self.now c.self.view_is c.self.invariant c.make.new.heap c.in-Ok.at
    c.identity-id.result c.args.fields c.args.fin
    (subst (λ n. IsMade c.self.inside.heap c.make.new.heap c.in-Ok.at
    (new_object c.identity-id.result n c.args.fin)) c.from.ensures c.in-Ok.ensures.heap) c.args.caller
    (c.index_mut.result.now + 1) (last at) (named at) c.requires.fresh q
    c.make.ensures.queue.0 c.in-Ok.ensures.room

pub invariant_of-self-in-Err : goal.invariant_of-self-in-Err
invariant_of-self-in-Err c =
    let f = parts c.self.inside in
    stored-refused f c.args.self.now c.self.view_is c.self.invariant c.make.new.heap c.make.new.queue
    c.make.ensures.queue
    (c.from.result + 3) c.in-Err.fault c.in-Err.ensures.heap

pub returns-in-Err-clause-refused : goal.returns-in-Err-clause-refused
returns-in-Err-clause-refused c =
    let f = parts c.self.inside in
    refused-next f c.args.self.now c.self.view_is c.self.invariant c.make.new.heap c.make.new.queue
    c.make.ensures.queue
    (c.args.fields + 3) c.in-Err.fault (subst
    (λ n. IsRefusedBy c.self.inside.heap c.make.new.heap (n + 3) c.in-Err.fault) c.from.ensures
    c.in-Err.ensures.heap)

pub returns-in-Ok-clause-fits : goal.returns-in-Ok-clause-fits
returns-in-Ok-clause-fits c =
    let m = c.args.self.now in
    let f = parts c.self.inside in
    let used : used_of f.heap ≡ total_size m.state = sym (used-is f.heap c.self.invariant.identities)
    ∙ ap (λ (n : Machine). total_size n.state) c.self.view_is in
    let limit : f.heap.limit ≡ m.numbers.heap = ap (λ (n : Machine). n.numbers.heap) c.self.view_is in
    let size = length-replicate {A = Option Addr} c.from.result None in
    omega (arith, c.in-Ok.ensures.heap.fits, used, limit, size, c.from.ensures)

pub returns-in-Ok-clause-known : goal.returns-in-Ok-clause-known
returns-in-Ok-clause-known c = ap (λ (m : Machine). is_some (get m.names c.in-Ok.at.0))
    (returns-in-Ok-clause-made c) ∙ ap is_some
    (get_inserted c.args.self.now.names c.in-Ok.at.0
    (identity_of c.args.caller (last_serial c.args.self.now.state c.args.caller + 1)))

pub returns-in-Ok-clause-kept : goal.returns-in-Ok-clause-kept
returns-in-Ok-clause-kept c =
    let at = (goal.at.returns-in-Ok-clause-kept c).After-index_mut in
    let f = parts c.self.inside in
    let q = c.make.new.queue in
    subst (λ (m : Machine). KeepsNames c.args.self.now.names m.names) (sym (returns-in-Ok-clause-made c))
    (names-next f c.args.self.now c.self.view_is c.self.invariant c.make.new.heap c.in-Ok.at
    c.identity-id.result c.from.result c.args.fin c.in-Ok.ensures.heap c.args.caller
    (c.index_mut.result.now + 1) (last at) (named at) c.requires.fresh q
    c.make.ensures.queue.0 c.in-Ok.ensures.room)
