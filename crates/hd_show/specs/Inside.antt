-- What private clauses alone cite.
use Rattle.std.specs.Prelude.{ℕ, ◌-◌, List, codes, decimal, Option, Some, None, slice_index_or, ◌+◌, ◌/◌, ◌==◌, ◌&&◌, Bool, if◌then◌else◌, length}
use Rattle.hd_model.specs.{declared.data.Slot.Slot, declared.limits.TheConstants.HEADER, declared.limits.TheConstants.REGION}
use Rattle.hd_seen.specs.{declared.SeenObject.SeenObject, declared.SeenRegion.SeenRegion}
use Rattle.hd_show.specs.{declared.ranges.Range.Range, declared.rows.Rows.Rows, Blocks.RowCounts, declared.heaps.Sums.Sums, declared.sums.RegionSums.RegionSums, Heaps.RegionCounts}
use Rattle.hd_show.specs.Ranges.{ranges_from, ranges_of, ranges_word}

-- a slot as a word
abbrev pub slot_word : Option Slot → List ℕ
slot_word None = codes "-"
slot_word (Some slot) = decimal slot.0

-- what is to be appended for the range before some numbers, if there is one, and for these
abbrev pub left_word : Option Range → List ℕ → List ℕ
left_word None ns = ranges_word (ranges_of ns)
left_word (Some r) ns = ranges_word (ranges_from r ns)

-- ---- a list of sums as a function from numbers

-- the sum at a number, 0 behind the end of the list
abbrev pub tally_at : List ℕ → ℕ → ℕ
tally_at sums number = slice_index_or sums number 0

-- ---- what `show` writes of blocks, and what is counted by block and by slot

-- the counts that the program keeps
abbrev pub rows_by : Rows → RowCounts
rows_by rows = record {
  handles = tally_at rows.handles;
  entries = tally_at rows.entries;
  taken = tally_at rows.taken;
}

-- ---- what `show` writes of generations and regions, and what is counted by region

-- the counts that the program keeps
abbrev pub regions_by : RegionSums → RegionCounts
regions_by sums = record {
  objects = tally_at sums.objects;
  cells = tally_at sums.cells;
  pinned = tally_at sums.pinned;
}

-- the same tests of an object of the snapshot
abbrev pub seen_in : ℕ → SeenObject → Bool
seen_in r o = o.at.0 / REGION == r

abbrev pub cells_seen_in : ℕ → SeenObject → ℕ
cells_seen_in r o = if seen_in r o then length o.fields.items + HEADER else 0

abbrev pub is_marked : (ℕ → Bool) → ℕ → SeenObject → Bool
is_marked marked r o = seen_in r o && marked o.id.0

-- and in one region more
abbrev pub with_region : RegionCounts → Sums → SeenRegion → Sums
with_region c all r = record {
  objects = all.objects + c.objects r.number;
  cells = all.cells + c.cells r.number;
  regions = all.regions + 1;
  pinned = all.pinned + c.pinned r.number;
  cards = all.cards + r.cards;
}
