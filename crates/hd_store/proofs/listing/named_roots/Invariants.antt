use Rattle.hd_store.proofs.StoreWords.{map, root_named, take, ◌≡◌}
use Rattle.hd_store.proofs.listing.named_roots.Given as goal

-- the roots so far
abbrev pub invariant-loop-root : goal.invariant-loop-root
invariant-loop-root l = l.named.items ≡ map (root_named l.heap) (take l.root-index l.roots)
