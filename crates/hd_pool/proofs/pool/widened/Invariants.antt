use Rattle.hd_pool.proofs.Basics.{KINDS, ◌*◌, ◌≡◌, ◌≤◌}
use Rattle.hd_pool.specs.Inside.{IsMoved}
use Rattle.hd_pool.proofs.pool.widened.Given as goal

-- the blocks so far are moved
abbrev pub invariant-loop-block : goal.invariant-loop-block
invariant-loop-block l = record {
  stride : l.after.stride ≡ l.stride;
  ready_room : KINDS * l.stride ≤ l.after.room;
  room : KINDS * l.stride ≤ l.whole.room;
  ready : IsMoved l.kinds.items l.ready.stride l.stride l.block l.ready.members l.after.members;
  wholes : IsMoved l.kinds.items l.ready.stride l.stride l.block l.wholes.members l.whole.members;
}
