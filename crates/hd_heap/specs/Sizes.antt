-- How much a heap has of each generation.
use Rattle.std.specs.Prelude.{◌≡◌, ℕ, ◌+◌, ◌/◌, nat_eq, sum_by}
use Rattle.std.specs.FinMap.{FinMap, len, retain_keys, values}
use Rattle.std.specs.Ordering.{nat_cmp}
use Rattle.hd_model.specs.declared.limits.TheConstants.{REGION}
use Rattle.hd_model.specs.Heap.{Heap, Placed, Region, cells_of, region_generation, used_of}
use Rattle.hd_heap.specs.declared.sizes.GenerationSize.{GenerationSize}
use Rattle.hd_heap.specs.declared.sizes.Sizes.{Sizes}

-- the objects of a generation by address, and its regions in use by number
abbrev pub aged_objects : Heap → ℕ → FinMap nat_cmp Placed
aged_objects h g = retain_keys h.objects (λ a. nat_eq (region_generation h (a / REGION)) g)

abbrev pub aged_regions : Heap → ℕ → FinMap nat_cmp Region
aged_regions h g = retain_keys h.regions (λ r. nat_eq (region_generation h r) g)

-- how many objects a generation has, the cells that they take together, and how many regions
pub record HasSize (h : Heap) (g : ℕ) (size : GenerationSize) : Type 0 where
  pub objects : size.objects ≡ len (aged_objects h g)
  pub cells : size.cells ≡ sum_by cells_of (values (aged_objects h g))
  pub regions : size.regions ≡ len (aged_regions h g)

-- the three together are all objects, their cells, and all regions in use
pub record IsWhole (h : Heap) (s : Sizes) : Type 0 where
  pub objects : s.youngest.objects + s.middle.objects + s.oldest.objects ≡ len h.objects
  pub cells : s.youngest.cells + s.middle.cells + s.oldest.cells ≡ used_of h
  pub regions : s.youngest.regions + s.middle.regions + s.oldest.regions ≡ len h.regions
