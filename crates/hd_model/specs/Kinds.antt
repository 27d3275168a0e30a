-- The kinds of handle: their numbers, which of them have extra data, and what a command makes.
use Rattle.std.specs.Prelude.{ℕ, ◌==◌, Bool, true, false, List, [], ◌∷◌, Option, Some, None}
use Rattle.hd_model.specs.Data.{Kind, Make}
use Rattle.hd_model.specs.declared.data.Kind.TheVariants as kind
use Rattle.hd_model.specs.declared.data.Make.TheVariants as make

-- all kinds, by their numbers
abbrev pub all_kinds : List Kind
all_kinds =
    kind.Short ∷ kind.Long ∷ kind.Strong ∷ kind.Pinned ∷ kind.Variable ∷ kind.Counted ∷ kind.Dependent ∷ []

-- the number of a kind (this project's own)
abbrev pub kind_number : Kind → ℕ
kind_number kind.Short = 0
kind_number kind.Long = 1
kind_number kind.Strong = 2
kind_number kind.Pinned = 3
kind_number kind.Variable = 4
kind_number kind.Counted = 5
kind_number kind.Dependent = 6

-- whether a handle of the kind has extra data, in a block of its own: a strength, a count or a secondary
-- (CoreCLR's handle types with extra info)
abbrev pub is_paired : Kind → Bool
is_paired kind.Short = false
is_paired kind.Long = false
is_paired kind.Strong = false
is_paired kind.Pinned = false
is_paired kind.Variable = true
is_paired kind.Counted = true
is_paired kind.Dependent = true

-- whether two kinds are the same one
abbrev pub is_kind : Kind → Kind → Bool
is_kind a b = kind_number a == kind_number b

-- the kind of a made handle
abbrev pub kind_of : Make → Kind
kind_of make.Short = kind.Short
kind_of make.Long = kind.Long
kind_of make.Strong = kind.Strong
kind_of make.Pinned = kind.Pinned
kind_of (make.Variable _) = kind.Variable
kind_of make.Counted = kind.Counted
kind_of (make.Dependent _) = kind.Dependent

-- the register of the secondary of a made handle, if it is dependent
abbrev pub secondary_register : Make → Option ℕ
secondary_register make.Short = None
secondary_register make.Long = None
secondary_register make.Strong = None
secondary_register make.Pinned = None
secondary_register (make.Variable _) = None
secondary_register make.Counted = None
secondary_register (make.Dependent r) = Some r
