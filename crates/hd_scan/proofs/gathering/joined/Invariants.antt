use Rattle.hd_scan.proofs.Basics.{flat_map, take, ◌≡◌}
use Rattle.hd_scan.proofs.gathering.joined.Given as goal

-- the lists so far
abbrev pub invariant-loop-part : goal.invariant-loop-part
invariant-loop-part l = l.roots.items ≡ flat_map (λ v. v.items) (take l.part-index l.parts)
