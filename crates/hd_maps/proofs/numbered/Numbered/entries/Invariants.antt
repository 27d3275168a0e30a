use Rattle.std.proofs.Common.{◌≡◌, map}
use Rattle.std.specs.Map.Iter.{deref_pair}
use Rattle.hd_maps.specs.LentValues.{lent_entry}
use Rattle.hd_maps.proofs.numbered.Numbered.entries.Given as goal

abbrev pub invariant-loop-key : goal.invariant-loop-key
invariant-loop-key g l = map lent_entry l.entries.items ≡ map deref_pair l.yielded
