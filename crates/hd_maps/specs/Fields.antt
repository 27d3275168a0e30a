-- How the parts of the machine are represented, and what is always true of their fields.
use Rattle.std.specs.Prelude.{map, Option, option_map}
use Rattle.std.specs.FinMap.{FinMap, entries, from_sorted}
use Rattle.std.specs.Ordering.{nat_cmp}
use Rattle.hd_model.specs.{declared.data.Id.Id}
use Rattle.hd_model.specs.State.{WeakEntry}
use Rattle.hd_maps.specs.declared.data.WeakEntry.{WeakEntry as Pair}
use Rattle.hd_maps.specs.View.{entry_of}

-- a map whose values are seen through a function
abbrev pub seen_as : {A B : Type 0} → (A → B) → FinMap nat_cmp A → FinMap nat_cmp B
seen_as f m = from_sorted (map (λ e. (e.0, f e.1)) (entries m))

-- what the weak table holds
abbrev pub held_as : FinMap nat_cmp (Option Pair) → FinMap nat_cmp (Option (WeakEntry Id))
held_as slots = seen_as (option_map entry_of) slots
