use Rattle.hd_heap.proofs.Basics.{Addr, HEADER, Heap, None, Option, ap, arith, length-replicate, new_object, ◌+◌}
use Rattle.hd_heap.proofs.HeapValues.{made}
use Rattle.hd_heap.proofs.heap.Heap.new_object.Goals as goal

pub returns-in-Ok-clause-made : goal.returns-in-Ok-clause-made
returns-in-Ok-clause-made c =
    let used = c.used-used.ensures.value in
    let limit = ap (λ (h : Heap). h.limit) c.self.view_is in
    let null : Option Addr = None in
    let nulls = length-replicate c.args.fields null in
    made c.args.self.now c.room_for.new.self c.put.new.self c.in-Ok.region (c.args.fields + HEADER)
    c.put.result
    (new_object c.args.id c.args.fields c.args.registered)
    (omega arith) c.in-Ok.ensures.ok c.put.ensures.address c.put.ensures.region c.put.ensures.was_free
    c.put.ensures.put
