-- Where single objects go, as a plan lists them.
use Rattle.std.specs.Prelude.{◌&&◌, nat_lt, ℕ, Bool, true, false, List, slice_index_or}
use Rattle.hd_heap.specs.{declared.moves.Fate.Fate, declared.moves.Move.Move}
use Rattle.hd_heap.specs.declared.moves.Fate.TheVariants.{Dead, Pinned, MovesToNewRegion, Moves}

-- the k-th move
abbrev pub move_at : List Move → ℕ → Move
move_at ms k = slice_index_or ms k
    (record { from = record { 0 = 0 }; to = record { 0 = 0 }; generation = 0; fields = 0; fate = Dead })

-- the fate of an object that is kept, of one that is kept and moves, and of one that is kept and does not
abbrev pub is_kept_fate : Fate → Bool
is_kept_fate Dead = false
is_kept_fate Pinned = true
is_kept_fate MovesToNewRegion = true
is_kept_fate Moves = true

abbrev pub is_moving : Fate → Bool
is_moving Dead = false
is_moving Pinned = false
is_moving MovesToNewRegion = true
is_moving Moves = true

abbrev pub is_staying : Fate → Bool
is_staying Dead = false
is_staying Pinned = true
is_staying MovesToNewRegion = false
is_staying Moves = false

-- the fate of an object that goes after the one before it of its generation
abbrev pub is_following : Fate → Bool
is_following Dead = false
is_following Pinned = false
is_following MovesToNewRegion = false
is_following Moves = true

-- the fate of an object that opens a region
abbrev pub is_opening : Fate → Bool
is_opening Dead = false
is_opening Pinned = false
is_opening MovesToNewRegion = true
is_opening Moves = false

-- a kept object that may have a field to one of a younger generation
abbrev pub may_card : Move → Bool
may_card m = is_kept_fate m.fate && nat_lt 1 m.generation && nat_lt 0 m.fields
