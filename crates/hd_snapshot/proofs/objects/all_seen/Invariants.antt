use Rattle.std.proofs.Common.{map, take, ◌≡◌}
use Rattle.hd_seen.specs.Seen.{object_shown}
use Rattle.hd_snapshot.specs.declared.objects.Located.{Located}
use Rattle.hd_snapshot.specs.Inside.{shown_at}
use Rattle.hd_snapshot.proofs.objects.all_seen.Given as goal

-- those so far
abbrev pub invariant-loop-object : goal.invariant-loop-object
invariant-loop-object l =
    map object_shown l.seen.items ≡ map (λ (o : Located). shown_at l.heap o.at)
    (take l.object-index l.located)
