-- Where the 256 cells of a region hold its objects. The layout is this project's own.
-- An object takes its identity, the number of its fields with its registration, its value, and its
-- fields, in this order. A gap is one or several removed objects: a 0, and then its length.
use Rattle.std.specs.Prelude.{ℕ, zero, suc, ◌+◌, ◌%◌, if◌then◌else◌, ◌==◌, nat_le, List, [], ◌∷◌, take, drop, slice_index}
use Rattle.std.specs.FinMap as map
use Rattle.hd_cells.specs.declared.cells.TheConstants.{CELLS, HEADER, SHAPE, VALUE, REGISTERED}
use Rattle.hd_cells.specs.Object.{Object}
use Rattle.hd_cells.specs.Region.{Contents}

-- what cell k holds
abbrev pub cell : List ℕ → ℕ → ℕ
cell cells k = slice_index cells k

-- the number of fields of the object whose first cell is `at`
abbrev pub count_at : List ℕ → ℕ → ℕ
count_at cells at = cell cells (at + SHAPE) % REGISTERED

-- the object whose first cell is `at`; REGISTERED is added to the number of fields of a registered one
unfoldable pub object_in : List ℕ → ℕ → Object
object_in cells at = record {
  identity = cell cells at;
  fields = take (count_at cells at) (drop (at + HEADER) cells);
  value = cell cells (at + VALUE);
  registered = nat_le REGISTERED (cell cells (at + SHAPE));
}

-- the number of cells of what begins at `at`
unfoldable pub extent_at : List ℕ → ℕ → ℕ
extent_at cells at = if cell cells at == 0 then cell cells (at + SHAPE) else count_at cells at + HEADER

-- the objects from `at` up to `stop`, each with its offset, among the next n objects and gaps
unfoldable pub objects_from : ℕ → List ℕ → (stop at : ℕ) → List (ℕ × Object)
objects_from zero cells stop at = []
objects_from (suc n) cells stop at =
    let rest = objects_from n cells stop (at + extent_at cells at) in
    if nat_le stop at then [] else if cell cells at == 0 then rest else (at, object_in cells at) ∷ rest

-- the objects of a region, which has fewer objects and gaps than cells
abbrev pub objects_of : List ℕ → ℕ → List (ℕ × Object)
objects_of cells fill = objects_from CELLS cells fill 0

-- a region with these cells and this allocation pointer as its callers see it
abbrev pub contents_of : List ℕ → ℕ → Contents
contents_of cells fill = record { objects = map.from_entries (objects_of cells fill); fill = fill }
