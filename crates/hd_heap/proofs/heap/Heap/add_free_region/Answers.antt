use Rattle.hd_heap.proofs.Basics.{Area, Err, List, Ok, OnOk, Result, [], ap, arith, deque_capacity, false, is_err, sym, ◌++◌, ◌+◌, ◌∙◌, ◌∷◌, ◌≡◌}
use Rattle.hd_heap.proofs.{GenerationSums.older_lists, GenerationSums.older_pushed, RegionReads.closed, RegionReads.left_read, RegionReads.opened, RegionReads.IsHeap, RegionUse.heap_lists, RegionUse.heap_roomy, RegionUse.region_added}
use Rattle.hd_heap.proofs.heap.Heap.add_free_region.Goals as goal

pub invariant_of-self-then-is_err-2 : goal.invariant_of-self-then-is_err-2
invariant_of-self-then-is_err-2 c =
    closed (heap_lists c.reserve.ensures.items c.reserve-2.ensures.items
    (heap_roomy (opened c.self.inside c.self.view_is c.self.invariant) c.reserve-2.ensures.capacity))
    (left_read c.self.inside c.self.view_is c.self.invariant.3)
    (older_lists c.reserve.ensures.items c.self.invariant.4)

pub invariant_of-self-in_default : goal.invariant_of-self-in_default
invariant_of-self-in_default c =
    closed (heap_lists c.reserve.ensures.items c.reserve-2.ensures.items
    (heap_roomy (opened c.self.inside c.self.view_is c.self.invariant) c.reserve-2.ensures.capacity))
    (left_read c.self.inside c.self.view_is c.self.invariant.3)
    (older_lists c.reserve.ensures.items c.self.invariant.4)

-- what is said of a success
from_ok : {A E : Type 0} (r : Result A E) (P : Type 0) → is_err r ≡ false → OnOk r P → P
from_ok (Ok x) P e p = p
from_ok (Err x) P e p = absurd (cc e)

added : (c : goal.After-push_back_reserved)
    → IsHeap c.push_reserved.new.self.items c.push_back_reserved.new.self.items c.self.inside.limit
    (deque_capacity c.push_back_reserved.new.self)
    (c.self.inside.used, c.self.inside.count, c.self.inside.held)
    (c.self.inside.current, c.self.inside.carding, c.self.inside.registering) (record c.args.self.now { free = c.args.self.now.free ++ (c.len-number.result + 1) ∷ [] })
added c =
    let n = c.len-number.result + 1 in
    let heap =
    heap_roomy (opened c.self.inside c.self.view_is c.self.invariant) c.reserve-2.ensures.capacity in
    let room = from_ok c.reserve-2.result _ (sym c.is_err-2.ensures.value ∙ c.if-is_err-2.false)
    c.reserve-2.ensures.ok in
    region_added heap c.free.result n c.free.ensures.area c.free.ensures.freed
    (c.push_reserved.ensures.items
    ∙ ap (λ (xs : List Area). xs ++ c.free.result ∷ []) c.reserve.ensures.items)
    (omega (arith, c.len-number.ensures)) (omega (arith, c.if-number.false))
    (c.push_back_reserved.ensures.items ∙ ap (λ xs. xs ++ n ∷ []) c.reserve-2.ensures.items)
    (let known = c.push_back_reserved.ensures.capacity in
    omega (arith, room, c.reserve-2.ensures.len, known, c.len-number.ensures, c.len.ensures))

pub invariant_of-self-2 : goal.invariant_of-self-2
invariant_of-self-2 c =
    closed (added c) (left_read c.self.inside c.self.view_is c.self.invariant.3)
    (older_lists (c.push_reserved.ensures.items
    ∙ ap (λ (xs : List Area). xs ++ c.free.result ∷ []) c.reserve.ensures.items)
    (older_pushed c.free.result c.free.ensures.freed.held c.self.invariant.4))

pub returns-clause-ok : goal.returns-clause-ok
returns-clause-ok c = (c.len-number.result + 1, (added c).view)
