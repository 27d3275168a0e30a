use Rattle.std.proofs.Common.{get_or, length, None, ◌<◌, ◌≡◌, ℕ, []}
use Rattle.std.specs.Prelude.{slice_index_or}
use Rattle.hd_seen.specs.declared.TheConstants.{INDEXES}
use Rattle.hd_snapshot.proofs.roots.handle_registers_of.Given as goal

-- those that were read
abbrev pub invariant-loop-h : goal.invariant-loop-h
invariant-loop-h l = record {
  long : length l.row ≡ INDEXES;
  same : (k : ℕ) → k < l.h
      → get_or l.row k None ≡ slice_index_or
      (slice_index_or l.store.state.handle_registers l.caller []) k None;
}
