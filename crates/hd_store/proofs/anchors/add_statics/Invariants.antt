use Rattle.hd_store.proofs.StoreWords.{◌≡◌, ◌++◌, take, option_to_list}
use Rattle.std.specs.Prelude.{flat_map}
use Rattle.hd_store.proofs.anchors.add_statics.Given as goal

-- what the statics so far reference
abbrev pub invariant-loop-referenced : goal.invariant-loop-referenced
invariant-loop-referenced l =
    l.anchors.items ≡ l.initial.anchors.items ++ flat_map option_to_list (take l.referenced-index l.statics)
