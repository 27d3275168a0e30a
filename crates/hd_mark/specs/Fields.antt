-- No public clause needs what is defined here: how marks and pins are stored in bits, and what is always true
-- of the fields of marks.
use Rattle.std.specs.Prelude.{ℕ, ◌+◌, ◌*◌, ◌/◌, ◌%◌, ◌==◌, Bool, false, List, take, drop, slice_index, Option, Some, None, map, zero, suc}
use Rattle.std.specs.{Int.bit_at, FinSet.FinSet, Ordering.nat_cmp}
use Rattle.hd_model.specs.{declared.limits.TheConstants.REGION, declared.data.Addr.Addr}
use Rattle.hd_model.specs.Heap.{Basis}
use Rattle.hd_heap.specs.{Indexes.indexes_of, Indexes.tables}
use Rattle.hd_mark.specs.{declared.bits.TheConstants.BITS, Marks.MarksOf}

-- whether the bit of a number is set: number i has bit i % BITS of word i / BITS
abbrev pub is_set : List ℕ → ℕ → Bool
is_set words i = bit_at (slice_index words (i / BITS)) (i % BITS) == 1

-- an index as it is stored: 0 is none
abbrev pub index_of : ℕ → Option ℕ
index_of zero = None
index_of (suc p) = Some (suc p)

-- whether a cell of a region is marked: a condemned region has a bit for each cell, from REGION times its
-- index on
abbrev pub is_set_in : List ℕ → Option ℕ → ℕ → Bool
is_set_in words None k = false
is_set_in words (Some p) k = is_set words (p * REGION + k)

-- the addresses that are marked
unfoldable pub set_of : List ℕ → List ℕ → FinSet nat_cmp
set_of indexes words = indexes_of (tables REGION (is_set_in words) (map index_of indexes))

-- what is seen of the fields of marks
abbrev pub seen : Basis → (indexes marks pins : List ℕ) → List Addr → ℕ → MarksOf
seen b indexes marks pins log next = record {
  basis = b;
  marks = set_of indexes marks;
  pins = set_of indexes pins;
  scanned = take next log;
  unscanned = drop next log;
}
