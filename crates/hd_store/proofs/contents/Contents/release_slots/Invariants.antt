use Rattle.hd_store.proofs.SpareBlocks.{HasReleased}
use Rattle.hd_store.proofs.contents.Contents.release_slots.Given as goal

-- the first of them are the weak table's no more
abbrev pub invariant-loop-row : goal.invariant-loop-row
invariant-loop-row l = HasReleased l.fn.self l.self l.block l.row
