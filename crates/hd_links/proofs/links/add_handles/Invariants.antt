use Rattle.std.proofs.Common.{map, take, ◌++◌, ◌≡◌}
use Rattle.hd_links.specs.Links.{handle_link}
use Rattle.hd_links.proofs.links.add_handles.Given as goal

abbrev pub invariant-loop-handle : goal.invariant-loop-handle
invariant-loop-handle l = l.links.items ≡ l.fn.links.items ++ map handle_link (take l.handle-index l.handles)
