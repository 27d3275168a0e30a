-- What a handle is to a collection, by its kind and its extra alone. Roots, clearing, pins and reports all
-- read it here.
use Rattle.std.specs.Prelude.{ℕ, zero, suc, Bool, true, false, Option}
use Rattle.std.specs.Option.{option_map_or}
use Rattle.hd_model.specs.Data.{Kind, Strength}
use Rattle.hd_model.specs.declared.data.Kind.TheVariants as kind
use Rattle.hd_model.specs.declared.data.Strength.TheVariants as strength_of
use Rattle.hd_model.specs.State.{Extra, Handle, strength_in, count_of}

-- a handle keeps its target, loses a target that is not reached (before finalization), loses one that is not
-- kept (after it), or is an edge from its target to its secondary. These are the strong, weak short, weak
-- long and dependent handle types of CoreCLR's objecthandle.h.
pub data Role : Type 0 where
  holds : Role
  short : Role
  long : Role
  attaches : Role

-- a variable handle has the role of its strength (CoreCLR's VHT_WEAK_SHORT, VHT_WEAK_LONG, VHT_STRONG,
-- VHT_PINNED)
abbrev pub role_of_strength : Strength → Role
role_of_strength strength_of.Short = short
role_of_strength strength_of.Long = long
role_of_strength strength_of.Strong = holds
role_of_strength strength_of.Pinned = holds

-- a ref-counted handle holds its target while its count is above 0, and is else as a weak long one (CoreCLR's
-- HNDTYPE_REFCOUNTED)
abbrev pub role_of_count : ℕ → Role
role_of_count zero = long
role_of_count (suc c) = holds

-- the role of a kind with a strength and a count. A variable handle without a strength and a ref-counted one
-- without a count, which no well formed state has, are as weak long ones.
abbrev pub role_by : Kind → Option Strength → ℕ → Role
role_by kind.Short given c = short
role_by kind.Long given c = long
role_by kind.Strong given c = holds
role_by kind.Pinned given c = holds
role_by kind.Variable given c = option_map_or role_of_strength given long
role_by kind.Counted given c = role_of_count c
role_by kind.Dependent given c = attaches

-- the role of a kind with an extra
abbrev pub role_of : {N : Type 0} → Kind → Extra N → Role
role_of k extra = role_by k (strength_in extra) (count_of extra)

-- the role of a handle
abbrev pub role : {N : Type 0} → Handle N → Role
role h = role_of h.kind h.extra

-- whether a strength pins
abbrev pub pins_by_strength : Strength → Bool
pins_by_strength strength_of.Short = false
pins_by_strength strength_of.Long = false
pins_by_strength strength_of.Strong = false
pins_by_strength strength_of.Pinned = true

-- whether a handle of a kind with a strength keeps its target from moving (GCHandleType.Pinned, and
-- VHT_PINNED)
abbrev pub pins_with : Kind → Option Strength → Bool
pins_with kind.Short given = false
pins_with kind.Long given = false
pins_with kind.Strong given = false
pins_with kind.Pinned given = true
pins_with kind.Variable given = option_map_or pins_by_strength given false
pins_with kind.Counted given = false
pins_with kind.Dependent given = false

-- whether a handle of a kind with an extra does
abbrev pub pins_by : {N : Type 0} → Kind → Extra N → Bool
pins_by k extra = pins_with k (strength_in extra)

-- whether a handle pins
abbrev pub pins : {N : Type 0} → Handle N → Bool
pins h = pins_by h.kind h.extra
