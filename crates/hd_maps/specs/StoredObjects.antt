-- The objects that are stored, by the numbers of their identities.
use Rattle.std.specs.Prelude.{ℕ, Some, ◌≡◌, [], ◌≤◌, false, sum_by, unwrap_or}
use Rattle.std.specs.FinMap.{FinMap, get, values}
use Rattle.std.specs.Ordering.{nat_cmp}
use Rattle.hd_model.specs.declared.data.Id.{Id}
use Rattle.hd_model.specs.State.{Object, size_of}
use Rattle.hd_model.specs.Collect.{survivor}
use Rattle.hd_model.specs.declared.limits.TheConstants.{OLDEST}
use Rattle.hd_maps.specs.declared.data.Edit.{Edit}
use Rattle.hd_maps.specs.declared.data.Edit.TheVariants as edit

-- an object once an edit was made
abbrev pub edited : Edit → Object Id → Object Id
edited (edit.Value value) o = record o { value = value }
edited (edit.Registered registered) o = record o { registered = registered }
edited (edit.Survives n resurrected) o = survivor n resurrected o

-- an object by the number of its identity, and the cells of all
abbrev pub object_in : FinMap nat_cmp (Object Id) → ℕ → Object Id
object_in objects id =
    unwrap_or (get objects id) (record { fields = []; value = 0; generation = 0; registered = false })

abbrev pub cells_of : FinMap nat_cmp (Object Id) → ℕ
cells_of objects = sum_by size_of (values objects)

-- no object is of a generation below one
abbrev pub AreFrom : ℕ → FinMap nat_cmp (Object Id) → Type 0
AreFrom generation objects = (id : ℕ) (o : Object Id) → get objects id ≡ Some o → generation ≤ o.generation

-- a generation of the machine's that no object is below
pub record IsYoungest (generation : ℕ) (objects : FinMap nat_cmp (Object Id)) : Type 0 where
  pub low : generation ≤ OLDEST
  pub from : AreFrom generation objects
