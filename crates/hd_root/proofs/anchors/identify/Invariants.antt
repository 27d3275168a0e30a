use Rattle.std.proofs.Common.{◌≡◌, ◌≤◌, length, map, take, vec_capacity}
use Rattle.hd_root.specs.Inside.{anchor_of}
use Rattle.hd_root.proofs.anchors.identify.Given as goal

abbrev pub invariant-loop-at : goal.invariant-loop-at
invariant-loop-at l = record {
  items : l.listed.items ≡ map (anchor_of l.heap) (take l.at-index l.anchors);
  room : length l.anchors ≤ vec_capacity l.listed;
}
