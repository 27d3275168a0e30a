-- Which commands a script can have, and which the machine has.
use Rattle.std.specs.Prelude.{◌≡◌, ◌<◌, ◌≤◌, ◌^◌, Bool, false, List, [], ◌∷◌, IfSome}
use Rattle.hd_model.specs.Data.{Make, Cmd}
use Rattle.hd_model.specs.Kinds.{is_paired, secondary_register}
use Rattle.hd_model.specs.Class.{class_of, class_takes_memory}
use Rattle.hd_model.specs.declared.limits.TheConstants.{REGISTERS, FIELDS, OLDEST}
use Rattle.hd_model.specs.Rows.{Word, object, handle, index, field, field_count, number, generation, makes, plain_kind, of_strength, registered, row_of}

-- the register of a dependent handle's secondary is one of the 16
abbrev pub IsValidMake : Make → Type 0
IsValidMake make = IfSome (secondary_register make) (λ r. r < REGISTERS)

-- registers, statics and board indexes are below 16, fields at most 61, a generation at most 2, numbers below
-- the end of their type, and the kind of a `trim` has no extra data
abbrev pub IsInRange : Word → Type 0
IsInRange (object d) = d < REGISTERS
IsInRange (handle d) = d < REGISTERS
IsInRange (index k) = k < REGISTERS
IsInRange (field i) = i < 256
IsInRange (field_count n) = n ≤ FIELDS
IsInRange (number n) = n < 2 ^ 64
IsInRange (generation n) = n ≤ OLDEST
IsInRange (makes make) = IsValidMake make
IsInRange (plain_kind kind) = is_paired kind ≡ false
IsInRange (of_strength strength) = Unit {0}
IsInRange registered = Unit {0}

-- each word is in its range
abbrev pub AreInRange : List Word → Type 0
AreInRange [] = Unit {0}
AreInRange (a ∷ []) = IsInRange a
AreInRange (a ∷ b ∷ []) = IsInRange a × IsInRange b
AreInRange (a ∷ b ∷ c ∷ words) = IsInRange a × IsInRange b × AreInRange (c ∷ words)

-- the operands of the command are in their ranges
abbrev pub IsValid : Cmd → Type 0
IsValid c = AreInRange (row_of c).operands

-- the commands that may take memory: an object is made, a collection moves objects, or a search keeps what it
-- found
abbrev pub takes_memory : Cmd → Bool
takes_memory c = class_takes_memory (class_of c)
