-- Rising numbers as ranges.
use Rattle.std.specs.Prelude.{ℕ, ◌+◌, ◌==◌, if◌then◌else◌, List, [], ◌∷◌, ◌++◌, map, codes, decimal}
use Rattle.std.specs.List.{join_with_byte}
use Rattle.hd_show.specs.declared.ranges.Range.{Range}

-- the range of one number, and one that goes on to another number
abbrev pub from : ℕ → Range
from n = record { first = n; last = n }

abbrev pub up_to : Range → ℕ → Range
up_to r n = record { first = r.first; last = n }

-- a range and the numbers behind it: one that follows the range makes it longer, another begins a range
abbrev pub ranges_from : Range → List ℕ → List Range
ranges_from r [] = r ∷ []
ranges_from r (n ∷ ns) =
    if n == r.last + 1 then ranges_from (up_to r n) ns else r ∷ ranges_from (from n) ns

-- rising numbers as the fewest ranges
abbrev pub ranges_of : List ℕ → List Range
ranges_of [] = []
ranges_of (n ∷ ns) = ranges_from (from n) ns

-- a range as its first and last number, or as the only one
abbrev pub range_word : Range → List ℕ
range_word r = if r.first == r.last then decimal r.first else decimal r.first ++ codes "-" ++ decimal r.last

-- ranges with a comma between each two, a hyphen where there is none
abbrev pub ranges_word : List Range → List ℕ
ranges_word [] = codes "-"
ranges_word (r ∷ rs) = join_with_byte 44 (map range_word (r ∷ rs))
