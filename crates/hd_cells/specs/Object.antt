-- An object of a garbage-collected heap, as the callers of a region see it.
use Rattle.std.specs.Prelude.{ℕ, ◌+◌, Bool, false, List, [], length, replicate, slice_set, refl}
use Rattle.std.specs.Coded.{Coded, code_by, coded×, coded_ℕ, coded_bool, coded_list}
use Rattle.hd_cells.specs.declared.cells.TheConstants.{HEADER}

-- its identity, its references to other objects (an address, or 0 for null), its number, and
-- whether it is registered for finalization
pub record Object : Type 0 where
  pub identity : ℕ
  pub fields : List ℕ
  pub value : ℕ
  pub registered : Bool

-- an object is stored as the tuple of its parts
abbrev pub object_code : Coded Object
object_code =
    code_by (ℕ × (List ℕ × (ℕ × Bool)))
    (coded× coded_ℕ (coded× (coded_list coded_ℕ) (coded× coded_ℕ coded_bool)))
    (λ o. (o.identity, (o.fields, (o.value, o.registered))))
    (λ p. record { identity = p.0; fields = p.1.0; value = p.1.1.0; registered = p.1.1.1 })
    (λ _. refl)

-- the cells that an object takes: one for each field, and three more
abbrev pub size_of : Object → ℕ
size_of o = length o.fields + HEADER

-- an object as it begins: its fields are null and its value is 0
abbrev pub new_object : ℕ → ℕ → Bool → Object
new_object id count registered =
    record { identity = id; fields = replicate count 0; value = 0; registered = registered }

-- what is read at an offset without an object
abbrev pub no_object : Object
no_object = record { identity = 0; fields = []; value = 0; registered = false }

-- the object with another value
abbrev pub with_value : Object → ℕ → Object
with_value o v = record o { value = v }

-- the object, registered for finalization or not, as .NET's GC.ReRegisterForFinalize and
-- GC.SuppressFinalize leave it
abbrev pub with_registered : Object → Bool → Object
with_registered o on = record o { registered = on }

-- the object with another reference in field i
abbrev pub with_field : Object → ℕ → ℕ → Object
with_field o i v = record o { fields = slice_set o.fields i v }
