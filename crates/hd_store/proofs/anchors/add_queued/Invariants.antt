use Rattle.hd_store.proofs.StoreWords.{◌≡◌, ◌++◌, take}
use Rattle.hd_store.proofs.anchors.add_queued.Given as goal

-- the first of those that are queued
abbrev pub invariant-loop-i : goal.invariant-loop-i
invariant-loop-i l = l.anchors.items ≡ l.initial.anchors.items ++ take l.i l.queue.queued
