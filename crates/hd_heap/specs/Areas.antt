-- The regions of a heap, read as its objects, its regions in use and its set cards.
use Rattle.std.specs.Prelude.{ℕ, zero, suc, Bool, false, if◌then◌else◌, List, map, slice_index_or, Option, Some, None, option_map}
use Rattle.std.specs.FinMap.{FinMap, get}
use Rattle.std.specs.FinSet.{FinSet}
use Rattle.std.specs.Ordering.{nat_cmp}
use Rattle.hd_cells.specs.Object.{Object}
use Rattle.hd_cells.specs.Region.{Contents}
use Rattle.hd_model.specs.declared.limits.TheConstants.{REGION}
use Rattle.hd_model.specs.declared.data.Addr.{Addr}
use Rattle.hd_model.specs.Heap.{Placed, Region, Heap}
use Rattle.hd_heap.specs.declared.area.TheConstants.{CARDS}
use Rattle.hd_heap.specs.declared.area.Area.{Area}
use Rattle.hd_model.specs.Indexed.{by_index}
use Rattle.hd_heap.specs.Indexes.{indexes_of, from_one, tables}

-- the objects of a region by offset, and its allocation pointer
abbrev pub contents : Area → Contents
contents a = a.region.value

-- what a field as it is stored references: 0 is null
abbrev pub address : ℕ → Option Addr
address zero = None
address (suc a) = Some (record { 0 = suc a })

-- an object of a region, as the heap's users see it
abbrev pub placed_of : Object → Placed
placed_of o = record {
  id = record { 0 = o.identity };
  fields = map address o.fields;
  value = o.value;
  registered = o.registered;
}

-- what a region has at an offset, what it is to the heap's users, and whether one of its cards is set
abbrev pub placed_in : Option Area → ℕ → Option Placed
placed_in None k = None
placed_in (Some a) k = option_map placed_of (get (contents a).objects k)

abbrev pub region_in : Option Area → Option Region
region_in None = None
region_in (Some a) =
    if a.held then Some (record { generation = a.generation; fill = (contents a).fill }) else None

abbrev pub card_in : Option Area → ℕ → Bool
card_in None k = false
card_in (Some a) k = slice_index_or a.cards k false

-- the objects, regions in use and set cards of all regions
abbrev pub objects_in : List Area → FinMap nat_cmp Placed
objects_in areas = by_index (tables REGION placed_in (from_one areas))

abbrev pub regions_in : List Area → FinMap nat_cmp Region
regions_in areas = by_index (map region_in (from_one areas))

abbrev pub cards_in : List Area → FinSet nat_cmp
cards_in areas = indexes_of (tables CARDS card_in (from_one areas))

-- the heap of these regions
abbrev pub heap_of : List Area → List ℕ → ℕ → Heap
heap_of areas free limit = record {
  objects = objects_in areas;
  regions = regions_in areas;
  free = free;
  limit = limit;
  cards = cards_in areas;
}
