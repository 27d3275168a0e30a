-- What handles are to a collection, and which objects they pin, as a picture shows it.
use Rattle.std.specs.Prelude.{ℕ, ◌+◌, Bool, length}
use Rattle.hd_model.specs.declared.limits.TheConstants.{HEADER}
use Rattle.hd_model.specs.Role.{Role, holds, short, long, attaches, role}
use Rattle.hd_seen.specs.Seen.{Picture, ObjectSeen}
use Rattle.hd_seen.specs.declared.SeenHandle.{SeenHandle}
use Rattle.hd_links.specs.Links.{handle_again}
use Rattle.hd_links.specs.Pins.{is_pinned_by}
use Rattle.hd_graph.specs.declared.dot.Style.{Style}
use Rattle.hd_graph.specs.declared.dot.Style.TheVariants as style

-- the role of a handle
abbrev pub role_seen : SeenHandle → Role
role_seen h = role (handle_again h)

-- a line from a handle: solid where it holds its target, dashed where it is weak, dotted where it attaches
abbrev pub style_of : Role → Style
style_of holds = style.Solid
style_of short = style.Dashed
style_of long = style.Dashed
style_of attaches = style.Dotted

-- whether handles pin an object
abbrev pub is_pinned : Picture → ℕ → Bool
is_pinned p x = is_pinned_by p.handles x

-- the cells of an object
abbrev pub cells_of : ObjectSeen → ℕ
cells_of o = length o.object.fields + HEADER
