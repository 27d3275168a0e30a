-- What a box owns, by its pointer.
use mir.Syntax.{Ty}
use base.Fml.{Fml}
use denote.RattleType.{RattleType}
use denote.RawPtr.{Ptr}
use Rattle.std_alloc.specs.Box.Ownership.{box_owns}

-- a value on the heap, and the right to free its block
abbrev pub boxed_at : (Ty → Ptr → Fml) → (R : RattleType) → Ptr → R.Denot → Fml
boxed_at = box_owns
