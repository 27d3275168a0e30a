-- What `hdt_sizes` writes of a host.
use Rattle.std.specs.Prelude.{◌≡◌, ℕ, None, Some, slice_index}
use Rattle.std.specs.FinMap.{get}
use Rattle.hd_model.specs.{Counting.Counts, Kinds.kind_number, State.IsFree, declared.data.Kind.Kind}
use Rattle.hd_store.specs.Sizes.{HasSize}
use Rattle.hd_host.specs.View.{HostView}
use Rattle.hdt_c.specs.declared.parts.Sizes.{Sizes}

-- how many objects a generation has, the cells that they take together, and how many regions
abbrev pub TellsGeneration : HostView → Sizes → ℕ → Type 0
TellsGeneration v out g = HasSize v.machine g (record {
  objects = slice_index out.objects g;
  cells = slice_index out.cells g;
  regions = slice_index out.regions g;
})

-- this of each generation, the free slots of each kind, and the slots of the weak table without an entry
pub record TellsSizes (v : HostView) (out : Sizes) : Type 0 where
  pub youngest : TellsGeneration v out 0
  pub middle : TellsGeneration v out 1
  pub oldest : TellsGeneration v out 2
  pub free : (kind : Kind) → Counts (IsFree v.machine.state kind) (slice_index out.free_slots (kind_number kind))
  pub idle : Counts (λ (slot : ℕ). get v.machine.state.weak slot ≡ Some None) out.idle_slots
