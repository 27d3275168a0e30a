use Rattle.std.proofs.Common.{get_or, length, None, ◌<◌, ◌≡◌, ℕ, []}
use Rattle.std.specs.Prelude.{slice_index_or}
use Rattle.hd_seen.specs.declared.TheConstants.{INDEXES}
use Rattle.hd_snapshot.proofs.roots.registers_of.Given as goal

-- those that were read
abbrev pub invariant-loop-d : goal.invariant-loop-d
invariant-loop-d l = record {
  long : length l.row ≡ INDEXES;
  same : (k : ℕ) → k < l.d
      → get_or l.row k None ≡ slice_index_or (slice_index_or l.store.state.registers l.caller []) k None;
}
