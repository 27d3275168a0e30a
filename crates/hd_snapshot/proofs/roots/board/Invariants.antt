use Rattle.std.proofs.Common.{get_or, length, None, ◌<◌, ◌≡◌, ℕ}
use Rattle.std.specs.Prelude.{slice_index_or}
use Rattle.hd_seen.specs.declared.TheConstants.{INDEXES}
use Rattle.hd_snapshot.proofs.roots.board.Given as goal

-- those that were read
abbrev pub invariant-loop-k : goal.invariant-loop-k
invariant-loop-k l = record {
  long : length l.row ≡ INDEXES;
  same : (k : ℕ) → k < l.k → get_or l.row k None ≡ slice_index_or l.store.state.board k None;
}
