use Rattle.hd_custody.proofs.Basics.{IsSlot, Made, calling, held_times, push, pushed_to, with_slot, without, ◌+◌, ◌≡◌, ◌≢◌}
use Rattle.hd_custody.proofs.types.Custody.push.Given as goal

abbrev pub invariant-loop-n : goal.invariant-loop-n
invariant-loop-n g l = record {
  left : l.left ≢ 0 → IsSlot l.left × (held_times l.left (without l.slot l.fn.caller.view.held) ≡ 0);
  made : Made l.kind l.self.blocks (push 0 l.slot) (pushed_to l.n l.left)
      (with_slot l.left (l.kind + 1) (without l.slot l.fn.caller.view.held)) (calling l.fn.caller) l.caller;
}
