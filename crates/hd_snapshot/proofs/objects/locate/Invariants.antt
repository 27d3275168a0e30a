use Rattle.std.proofs.Common.{◌-◌, ◌^◌}
use Rattle.hd_snapshot.proofs.Walks.{IsWalking, past}
use Rattle.hd_snapshot.proofs.objects.locate.Given as goal

-- the objects up to the last one
abbrev pub invariant-walk : goal.invariant-walk
invariant-walk l = IsWalking l.heap l.after l.located.items

abbrev pub decreases-walk : goal.decreases-walk
decreases-walk l = 2 ^ 32 - past l.after
