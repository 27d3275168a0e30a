-- The slots of the weak table, with their entries or idle.
use Rattle.std.specs.Prelude.{ℕ, Option, Some, None, unwrap_or, option_map}
use Rattle.std.specs.FinMap.{FinMap, get, entries}
use Rattle.std.specs.Ordering.{nat_cmp}
use Rattle.std.specs.List.{find}
use Rattle.hd_model.specs.declared.data.Id.{Id}
use Rattle.hd_model.specs.declared.data.Slot.{Slot}
use Rattle.hd_model.specs.State.{WeakEntry}
use Rattle.hd_model.specs.Command.{has_key, is_idle}

-- the entry in a slot of the weak table
abbrev pub entry_in : FinMap nat_cmp (Option (WeakEntry Id)) → ℕ → Option (WeakEntry Id)
entry_in held slot = unwrap_or (get held slot) None

-- the slot of a number, the slot with the entry of a key, and the least idle slot
abbrev pub slot_at : ℕ → Slot
slot_at k = record { 0 = k }

abbrev pub slot_with : FinMap nat_cmp (Option (WeakEntry Id)) → Id → Option Slot
slot_with held key = option_map (λ p. slot_at p.0) (find (λ p. has_key key p.1) (entries held))

abbrev pub idle_in : FinMap nat_cmp (Option (WeakEntry Id)) → Option Slot
idle_in held = option_map (λ p. slot_at p.0) (find (λ p. is_idle p.1) (entries held))

-- a slot without an entry: it is not held, or idle
abbrev pub IsUnnamed : Option (Option (WeakEntry Id)) → Type 0
IsUnnamed None = Unit {0}
IsUnnamed (Some None) = Unit {0}
IsUnnamed (Some (Some e)) = ⊥
