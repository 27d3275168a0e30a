use Rattle.std.proofs.Common.{map, take, ◌++◌, ◌≡◌}
use Rattle.hd_links.specs.Links.{entry_link}
use Rattle.hd_links.proofs.links.add_entries.Given as goal

abbrev pub invariant-loop-entry : goal.invariant-loop-entry
invariant-loop-entry l = l.links.items ≡ l.fn.links.items ++ map entry_link (take l.entry-index l.entries)
