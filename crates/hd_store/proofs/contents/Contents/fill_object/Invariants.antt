use Rattle.hd_store.proofs.StoreWords.{◌≡◌}
use Rattle.hd_store.proofs.FilledObjects.{filled_to}
use Rattle.hd_store.proofs.contents.Contents.fill_object.Given as goal

-- the value is written, and the first fields
abbrev pub invariant-loop-i : goal.invariant-loop-i
invariant-loop-i l = l.self ≡ filled_to l.fn.self l.at l.value l.caller l.src l.i l.self.heap
