-- How much a store has of each generation, and which slots of its table are free.
use Rattle.std.specs.Prelude.{◌≡◌, ℕ, ◌+◌, List, None, Some, filter, length, nat_eq, sum_by}
use Rattle.std.specs.FinMap.{get, len, values}
use Rattle.hd_model.specs.{declared.data.Id.Id, declared.data.Kind.Kind, declared.data.Slot.Slot, Table.Table}
use Rattle.hd_model.specs.State.{Object, State, block_of, handles_of, size_of, total_size}
use Rattle.hd_heap.specs.declared.sizes.{GenerationSize.GenerationSize, Sizes.Sizes}
use Rattle.hd_heap.specs.Sizes.{aged_regions}
use Rattle.hd_store.specs.Store.{Machine}

-- the objects of a generation
abbrev pub aged : State → ℕ → List (Object Id)
aged s g = filter (λ (o : Object Id). nat_eq o.generation g) (values s.objects)

-- how many objects a generation has, the cells that they take together, and how many regions
pub record HasSize (m : Machine) (g : ℕ) (size : GenerationSize) : Type 0 where
  pub objects : size.objects ≡ length (aged m.state g)
  pub cells : size.cells ≡ sum_by size_of (aged m.state g)
  pub regions : size.regions ≡ len (aged_regions m.heap g)

-- the three together are all objects, their cells, and all regions in use
pub record IsWhole (m : Machine) (s : Sizes) : Type 0 where
  pub objects : s.youngest.objects + s.middle.objects + s.oldest.objects ≡ len m.state.objects
  pub cells : s.youngest.cells + s.middle.cells + s.oldest.cells ≡ total_size m.state
  pub regions : s.youngest.regions + s.middle.regions + s.oldest.regions ≡ len m.heap.regions

-- a slot of a block of the kind that has no row: what private clauses alone cite
abbrev pub IsFreeRow : Table → Kind → Slot → Type 0
IsFreeRow t kind slot = (get t.rows slot.0 ≡ None) × (get t.uses (block_of slot) ≡ Some (handles_of kind))
