-- The number of regions in use, at most, after a collection of generation 2. Regions of 256 cells are this
-- project's own, after CoreCLR's in outline.
use Rattle.std.specs.Prelude.{ℕ, ◌+◌, ◌/◌, ◌≤◌}
use Rattle.std.specs.FinMap.{len}
use Rattle.hd_model.specs.Data.{Addr}
use Rattle.hd_model.specs.declared.limits.TheConstants.{LEFT, OPEN}
use Rattle.hd_model.specs.Scene.{Rows}
use Rattle.hd_model.specs.Reach.{IsPinned}
use Rattle.hd_model.specs.Counting.{Counts}
use Rattle.hd_model.specs.Heap.{Heap, used_of}

-- the regions in use are at most used / 193 + 3, and one more for each pinned object: a region is left for a
-- new one only where 193 of its 256 cells are taken (LEFT), as an object has at most 64; each of three
-- generations may have one that is not full (OPEN), and a pinned object keeps its region in use.
pub record IsCompact (h : Heap) (rows : Rows Addr) : Type 0 where
  pub pinned : ℕ
  pub pinned_is : Counts (IsPinned rows) pinned
  pub regions : len h.regions ≤ used_of h / LEFT + OPEN + pinned
