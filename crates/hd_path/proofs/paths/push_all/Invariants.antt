use Rattle.std.proofs.Common.{take}
use Rattle.hd_model.specs.State.{State}
use Rattle.hd_seen.specs.Seen.{view_seen}
use Rattle.hd_links.specs.Shown.{IsPictureOf}
use Rattle.hd_path.specs.Paths.{WritesPaths}
use Rattle.hd_path.proofs.paths.push_all.Given as goal

abbrev pub invariant-loop-id : goal.invariant-loop-id
invariant-loop-id l = record {
  writes : (s : State) → IsPictureOf (view_seen l.seen) s
      → WritesPaths s (take l.id-index l.ids) l.fn.text.items l.text.items;
}
