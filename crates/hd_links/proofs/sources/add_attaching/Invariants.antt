use Rattle.std.proofs.Common.{take, ◌++◌, ◌≡◌}
use Rattle.std.specs.Prelude.{flat_map}
use Rattle.hd_links.specs.Inside.{attaching_link}
use Rattle.hd_links.proofs.sources.add_attaching.Given as goal

abbrev pub invariant-loop-link : goal.invariant-loop-link
invariant-loop-link l =
    l.attaching.items ≡ l.fn.attaching.items ++ flat_map attaching_link (take l.link-index l.links)
