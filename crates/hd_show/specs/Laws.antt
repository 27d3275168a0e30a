-- Laws of what is shown.
use Rattle.std.specs.Prelude.{◌≡◌, ℕ, ◌+◌, ◌-◌, ◌≤◌, List, flat_map, map, length, count_by, filter, sum_by, Some, None}
use Rattle.std.specs.FinMap.{keys}
use Rattle.std.specs.List.{All, range_with_len}
use Rattle.hd_model.specs.Heap.{Heap}
use Rattle.hd_model.specs.Kinds.{all_kinds}
use Rattle.hd_model.specs.State.{Numbers, State}
use Rattle.hd_model.specs.Table.{Table}
use Rattle.hd_model.specs.declared.data.Kind.{Kind}
use Rattle.hd_model.specs.declared.limits.TheConstants.{OLDEST}
use Rattle.hd_seen.specs.Seen.{ObjectSeen, Picture, picture}
use Rattle.hd_seen.specs.declared.SeenHandle.{SeenHandle}
use Rattle.hd_seen.specs.declared.SeenRegion.{SeenRegion}
use Rattle.hd_show.specs.Blocks.{RowCounts}
use Rattle.hd_show.specs.Heaps.{RegionCounts, cells_of, in_region, is_in, regions_of, sums_of}
use Rattle.hd_show.specs.Kinds.{kind_blocks, kind_free, kind_handles}
use Rattle.hd_show.specs.Pins.{is_pinned_by}
use Rattle.hd_show.specs.Ranges.{ranges_of}
use Rattle.hd_show.specs.declared.ranges.Range.{Range}

-- the lines of handles are those of the live handles, by rising slot: each has exactly one
abbrev pub slot_of : SeenHandle → ℕ
slot_of h = h.slot.0

abbrev pub HandlesHaveOneLine : Type 0
HandlesHaveOneLine =
    (n : Numbers) (s : State) (ages : List ℕ) (h : Heap) (t : Table)
    → map slot_of (picture n s ages h t).handles ≡ keys s.handles

-- the line of all kinds has the sums of the lines of the kinds, and all handles
pub record KindsAddUp (c : RowCounts) (p : Picture) : Type 0 where
  pub handles : sum_by (λ (k : Kind). kind_handles p (Some k)) all_kinds ≡ kind_handles p None
  pub blocks : sum_by (λ (k : Kind). kind_blocks p (Some k)) all_kinds ≡ kind_blocks p None
  pub free : sum_by (λ (k : Kind). kind_free c p (Some k)) all_kinds ≡ kind_free c p None
  pub all : kind_handles p None ≡ length p.handles

-- what some regions have, those of each generation together
abbrev pub over_generations : (ℕ → ℕ) → ℕ
over_generations f = sum_by f (range_with_len 0 (OLDEST + 1))

abbrev pub of_generation : List SeenRegion → ℕ → List SeenRegion
of_generation regions g = filter (is_in (Some g)) regions

-- the line of all generations has the sums of the lines of the generations
pub record GenerationsAddUp (c : RegionCounts) (regions : List SeenRegion) : Type 0 where
  pub objects : over_generations (λ g. (sums_of c (of_generation regions g)).objects)
      ≡ (sums_of c regions).objects
  pub cells : over_generations (λ g. (sums_of c (of_generation regions g)).cells) ≡ (sums_of c regions).cells
  pub number : over_generations (λ g. (sums_of c (of_generation regions g)).regions) ≡ length regions
  pub pinned : over_generations (λ g. (sums_of c (of_generation regions g)).pinned)
      ≡ (sums_of c regions).pinned
  pub cards : over_generations (λ g. (sums_of c (of_generation regions g)).cards) ≡ (sums_of c regions).cards

abbrev pub IsYoung : SeenRegion → Type 0
IsYoung r = r.generation ≤ OLDEST

-- each object is in one of the regions in use
abbrev pub IsInOne : List SeenRegion → ObjectSeen → Type 0
IsInOne regions o = count_by (λ (r : SeenRegion). in_region r.number o) regions ≡ 1

-- the lines of the regions count each object once, with its cells, and each pinned one
pub record ObjectsAreCountedOnce (p : Picture) : Type 0 where
  pub objects : (sums_of (regions_of p) p.regions).objects ≡ length p.objects
  pub cells : (sums_of (regions_of p) p.regions).cells ≡ sum_by cells_of p.objects
  pub pinned :
      (sums_of (regions_of p) p.regions).pinned
      ≡ count_by (λ (o : ObjectSeen). is_pinned_by p.handles o.id.0) p.objects

-- the numbers of a range, and those of the ranges of some numbers
abbrev pub numbers_in : Range → List ℕ
numbers_in r = range_with_len r.first (r.last + 1 - r.first)

abbrev pub RangesHaveTheNumbers : Type 0
RangesHaveTheNumbers = (ns : List ℕ) → flat_map numbers_in (ranges_of ns) ≡ ns

-- these three of any picture
abbrev pub KindsAlwaysAddUp : Type 0
KindsAlwaysAddUp = (c : RowCounts) (p : Picture) → KindsAddUp c p

abbrev pub GenerationsAlwaysAddUp : Type 0
GenerationsAlwaysAddUp =
    (c : RegionCounts) (regions : List SeenRegion) → All IsYoung regions → GenerationsAddUp c regions

abbrev pub EachObjectIsCountedOnce : Type 0
EachObjectIsCountedOnce = (p : Picture) → All (IsInOne p.regions) p.objects → ObjectsAreCountedOnce p
