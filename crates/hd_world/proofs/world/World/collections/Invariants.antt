use Rattle.hd_store.proofs.StoreWords.{collections_of, take, ◌≡◌, ◌≤◌}
use Rattle.hd_world.proofs.world.World.collections.Given as goal

abbrev pub invariant-loop-i : goal.invariant-loop-i
invariant-loop-i l = record {
  counted : l.count ≡ collections_of (take l.i l.self-inside.journal.entries);
  few : l.count ≤ l.i;
}
