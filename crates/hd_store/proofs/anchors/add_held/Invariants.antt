use Rattle.hd_store.proofs.StoreWords.{◌≡◌, ◌++◌, take, map}
use Rattle.hd_store.specs.Inside.{address_of}
use Rattle.hd_store.proofs.anchors.add_held.Given as goal

-- what the roots so far reference
abbrev pub invariant-loop-root : goal.invariant-loop-root
invariant-loop-root l =
    l.anchors.items ≡ l.initial.anchors.items ++ map address_of (take l.root-index l.held)
