-- What `show` writes of generations and regions, and what is counted by region.
use Rattle.std.specs.Prelude.{ℕ, ◌+◌, ◌/◌, ◌==◌, ◌&&◌, Bool, true, List, [], ◌∷◌, ◌++◌, filter, flat_map, length, codes, decimal, count_by, sum_by, Option, Some, None}
use Rattle.std.specs.List.{range_with_len}
use Rattle.hd_model.specs.declared.limits.TheConstants.{HEADER, OLDEST, REGION}
use Rattle.hd_model.specs.Text.{newline}
use Rattle.hd_seen.specs.Seen.{ObjectSeen, Picture}
use Rattle.hd_seen.specs.declared.SeenRegion.{SeenRegion}
use Rattle.hd_show.specs.declared.heaps.Sums.{Sums}
use Rattle.hd_show.specs.Columns.{row, table}
use Rattle.hd_show.specs.Pins.{is_pinned_by}

-- how many objects, cells and pinned objects each region has
pub record RegionCounts : Type 0 where
  pub objects : ℕ → ℕ
  pub cells : ℕ → ℕ
  pub pinned : ℕ → ℕ

-- whether an object is in a region, its cells, and whether it is a pinned one there
abbrev pub in_region : ℕ → ObjectSeen → Bool
in_region r o = o.address / REGION == r

abbrev pub cells_of : ObjectSeen → ℕ
cells_of o = length o.object.fields + HEADER

abbrev pub is_pinned_in : Picture → ℕ → ObjectSeen → Bool
is_pinned_in p r o = in_region r o && is_pinned_by p.handles o.id.0

-- the counts of a picture
abbrev pub regions_of : Picture → RegionCounts
regions_of p = record {
  objects = λ r. count_by (in_region r) p.objects;
  cells = λ r. sum_by cells_of (filter (in_region r) p.objects);
  pinned = λ r. count_by (is_pinned_in p r) p.objects;
}

-- what there is in some regions
abbrev pub sums_of : RegionCounts → List SeenRegion → Sums
sums_of c regions = record {
  objects = sum_by (λ (r : SeenRegion). c.objects r.number) regions;
  cells = sum_by (λ (r : SeenRegion). c.cells r.number) regions;
  regions = length regions;
  pinned = sum_by (λ (r : SeenRegion). c.pinned r.number) regions;
  cards = sum_by (λ (r : SeenRegion). r.cards) regions;
}

-- whether a region is of a generation; where none is asked for, each is
abbrev pub of_generation : Option ℕ → ℕ → Bool
of_generation None found = true
of_generation (Some generation) found = found == generation

abbrev pub is_in : Option ℕ → SeenRegion → Bool
is_in generation r = of_generation generation r.generation

abbrev pub name_of : Option ℕ → List ℕ
name_of None = codes "all"
name_of (Some generation) = decimal generation

-- the line of what there is in some regions, under a name
abbrev pub sums_row : List ℕ → Sums → List ℕ
sums_row name s = row name (
    (12, decimal s.objects) ∷ (21, decimal s.cells) ∷ (30, decimal s.regions) ∷ (39, decimal s.pinned)
    ∷ (47, decimal s.cards) ∷ [])

-- the line of a generation, or of all
abbrev pub generation_row : RegionCounts → List SeenRegion → Option ℕ → List ℕ
generation_row c regions generation =
    sums_row (name_of generation) (sums_of c (filter (is_in generation) regions))

abbrev pub at_generation : RegionCounts → List SeenRegion → ℕ → List ℕ
at_generation c regions generation = generation_row c regions (Some generation)

abbrev pub generations_header : List ℕ
generations_header = codes "GENERATION  OBJECTS  CELLS    REGIONS  PINNED  CARDS"

abbrev pub generations_text : RegionCounts → List SeenRegion → List ℕ
generations_text c regions =
    generations_header ++ newline ++ flat_map (at_generation c regions) (range_with_len 0 (OLDEST + 1))
    ++ generation_row c regions None ++ newline

-- the line of a region
abbrev pub region_row : RegionCounts → SeenRegion → List ℕ
region_row c r = row (decimal r.number) (
    (10, decimal r.generation) ∷ (22, decimal (c.objects r.number)) ∷ (31, decimal (c.cells r.number))
    ∷ (38, decimal r.pointer) ∷ (47, decimal (c.pinned r.number)) ∷ (55, decimal r.cards) ∷ [])

abbrev pub regions_header : List ℕ
regions_header = codes "REGION    GENERATION  OBJECTS  CELLS  POINTER  PINNED  CARDS"

abbrev pub regions_text : RegionCounts → List SeenRegion → List ℕ
regions_text c regions = table regions_header (region_row c) regions
