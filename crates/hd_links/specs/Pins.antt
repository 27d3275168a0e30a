-- The objects that handles pin.
use Rattle.std.specs.Prelude.{ℕ, ◌==◌, Bool, false, if◌then◌else◌, List, Option, Some, None}
use Rattle.std.specs.List.{list_any}
use Rattle.hd_model.specs.declared.data.Id.{Id}
use Rattle.hd_model.specs.Role.{pins}
use Rattle.hd_seen.specs.declared.SeenHandle.{SeenHandle}
use Rattle.hd_links.specs.Links.{handle_again}

-- whether a handle pins its target, and the object that it pins
abbrev pub pins_seen : SeenHandle → Bool
pins_seen h = pins (handle_again h)

abbrev pub pinned_by : SeenHandle → Option Id
pinned_by h = if pins_seen h then h.target else None

-- whether something references the object with an identity
abbrev pub is_id : ℕ → Option Id → Bool
is_id x None = false
is_id x (Some id) = x == id.0

-- whether one of some handles pins the object with an identity
abbrev pub is_pinned_by : List SeenHandle → ℕ → Bool
is_pinned_by handles x = list_any (λ h. is_id x (pinned_by h)) handles
