use Rattle.std.proofs.Common.{take, ◌≡◌}
use Rattle.hd_path.specs.Inside.{WritesEdges}
use Rattle.hd_path.proofs.ChainLines.{last_of}
use Rattle.hd_path.proofs.paths.push_edges.Given as goal

abbrev pub invariant-loop-i : goal.invariant-loop-i
invariant-loop-i l = record {
  at : l.from ≡ last_of l.chain.first (take l.i l.rest);
  writes : WritesEdges l.graph l.chain.first (take l.i l.rest) l.fn.text.items l.text.items;
}
