use Rattle.std.proofs.Common.{drop, ◌++◌, ◌≡◌}
use Rattle.std.specs.Prelude.{flat_map}
use Rattle.hd_plain.specs.Inside.{young_in}
use Rattle.hd_plain.proofs.collecting.push_all_young.Given as goal

abbrev pub invariant-loop-entry : goal.invariant-loop-entry
invariant-loop-entry l =
    l.ids.items ++ flat_map (young_in l.n) (drop l.entry-index l.entries)
    ≡ l.initial.ids.items ++ flat_map (young_in l.n) l.entries
