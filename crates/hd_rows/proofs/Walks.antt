-- How far a walk may still go.
use Rattle.std.proofs.Common.{◌^◌, ◌<◌, Option, Some, None, arith}
use Rattle.std.proofs.lemmas.Bool.Decides.{nat_tests}
use Rattle.hd_model.specs.declared.data.Addr.{Addr}
use Rattle.hd_model.specs.Heap.{Heap, has_object}
use Rattle.hd_heap.specs.Calls.{IsNext}
use Rattle.hd_heap.specs.Sound.{IsSound}
use Rattle.hd_gc.proofs.CardWalk.{left_to, object_fits}

pub nearer : (h : Heap) (after : Option Addr) (a : Addr) → IsSound h → IsNext (has_object h) after a
    → left_to (Some a) < left_to after
nearer h None a sound next = omega arith
nearer h (Some b) a sound next =
    let fits : a.0 < 2 ^ 32 = object_fits h a sound next.member in grind (arith, nat_tests, next.beyond)
