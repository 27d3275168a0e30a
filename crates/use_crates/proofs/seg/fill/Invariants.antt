use Rattle.hd_ages.specs.Clumps.{CoversTable}
use Rattle.use_crates.proofs.seg.fill.Given as goal

abbrev pub invariant-loop-slot : goal.invariant-loop-slot
invariant-loop-slot l = CoversTable l.ages l.seg
