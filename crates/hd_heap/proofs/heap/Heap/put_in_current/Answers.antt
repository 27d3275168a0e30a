use Rattle.hd_heap.proofs.Basics.{Addr, HEADER, None, Option, arith, length-replicate, new_object, ◌+◌}
use Rattle.hd_heap.proofs.HeapLeft.{current_room}
use Rattle.hd_heap.proofs.HeapValues.{made, room_was}
use Rattle.hd_heap.proofs.RegionReads.{left_read, opened, used_is}
use Rattle.hd_heap.proofs.heap.Heap.put_in_current.Goals as goal

pub put-requires-clause-held : goal.put-requires-clause-held
put-requires-clause-held c =
    (current_room c.args.self.now c.self.inside.current c.self.inside.used c.self.inside.left
    (c.args.fields + HEADER) (left_read c.self.inside c.self.view_is c.self.invariant.3) (omega arith)
    (omega (arith, c.if-size-self.false))).0.held

pub put-requires-clause-young : goal.put-requires-clause-young
put-requires-clause-young c =
    (current_room c.args.self.now c.self.inside.current c.self.inside.used c.self.inside.left
    (c.args.fields + HEADER) (left_read c.self.inside c.self.view_is c.self.invariant.3) (omega arith)
    (omega (arith, c.if-size-self.false))).0.young

pub put-requires-clause-room : goal.put-requires-clause-room
put-requires-clause-room c =
    (current_room c.args.self.now c.self.inside.current c.self.inside.used c.self.inside.left
    (c.args.fields + HEADER) (left_read c.self.inside c.self.view_is c.self.invariant.3) (omega arith)
    (omega (arith, c.if-size-self.false))).0.room

pub returns : goal.returns
returns c =
    let (room, fits) = current_room c.args.self.now c.self.inside.current c.self.inside.used c.self.inside.left
    (c.args.fields + HEADER) (left_read c.self.inside c.self.view_is c.self.invariant.3) (omega arith)
    (omega (arith, c.if-size-self.false)) in
    let used = used_is (opened c.self.inside c.self.view_is c.self.invariant) in
    let null : Option Addr = None in
    let nulls = length-replicate c.args.fields null in
    made c.args.self.now c.args.self.now c.put.new.self c.self.inside.current (c.args.fields + HEADER) c.put.result
    (new_object c.args.id c.args.fields c.args.registered) (omega (arith, fits, used, nulls))
    (room_was c.args.self.now c.self.inside.current (c.args.fields + HEADER) room)
    c.put.ensures.address c.put.ensures.region c.put.ensures.was_free c.put.ensures.put
