-- Where the objects of a collection go: one move for each condemned object, in rising address, but for those
-- of regions in which none is kept, and one entry for each condemned region.
-- Kept objects are copied into fresh regions, one row of regions for each generation, but for those that
-- stay because they are pinned.
-- Regions are this project's own, after the plan and the compact phase of CoreCLR's collector in outline.
use Rattle.std.specs.Prelude.{◌≡◌, ◌≢◌, ℕ, zero, suc, ◌+◌, ◌*◌, ◌<◌, ◌≤◌, ◌⊎◌, ◌↔◌, Bool, true, false, cond, List, [], ◌∷◌, length, Option, Some, None, unwrap_or, slice_index, slice_index_or, nat_eq, count_by}
use Rattle.std.specs.Ordering.{nat_cmp}
use Rattle.std.specs.FinMap as map
use Rattle.hd_model.specs.{declared.data.Addr.Addr, declared.limits.TheConstants.REGION, Ages.raised, Scene.generation_at}
use Rattle.hd_model.specs.Heap.{Heap, Region, region_of, region_generation, is_in_use, object_at, placed_at, cells_of}
use Rattle.hd_heap.specs.{Calls.is_condemned, declared.moves.Fate.Fate, declared.moves.Move.Move}
use Rattle.hd_heap.specs.Moves.{is_kept_fate, is_moving, is_staying, move_at}
use Rattle.hd_plan.specs.{declared.moves.Condemned.Condemned, declared.cursors.AllocCursor.AllocCursor, declared.cursors.AllocCursors.AllocCursors}
use Rattle.hd_heap.specs.declared.moves.Fate.TheVariants.{Dead, Pinned, MovesToNewRegion, Moves}

-- the k-th condemned region
abbrev pub condemned_at : List Condemned → ℕ → Condemned
condemned_at cs k = slice_index_or cs k (record { region = 0; generation = 0; pinned = false })

-- the cursor of a generation, and the cursors with another one
abbrev pub cursor_of : AllocCursors → ℕ → AllocCursor
cursor_of s g = cond (nat_eq g 1) s.first s.second

abbrev pub with_cursor : AllocCursors → ℕ → AllocCursor → AllocCursors
with_cursor s g cursor =
    record s { first = cond (nat_eq g 1) cursor s.first; second = cond (nat_eq g 1) s.second cursor }

-- while objects are laid: the regions that are in use then, where each generation allocates, and the cells of
-- the objects that moved
pub record Room : Type 0 where
  pub regions : map.FinMap nat_cmp Region
  pub cursors : AllocCursors
  pub cells : ℕ

abbrev pub room_of : Heap → Room
room_of h = record {
  regions = h.regions;
  cursors =
      record {
        first = record { region = 0; fill = 0 };
        second = record { region = 0; fill = 0 };
        opened = 0;
      };
  cells = 0;
}

abbrev pub region_in : map.FinMap nat_cmp Region → ℕ → Region
region_in rs r = unwrap_or (map.get rs r) (record { generation = 0; fill = 0 })

-- the allocation pointer of a region rises by `cells` cells
abbrev pub filled : map.FinMap nat_cmp Region → ℕ → ℕ → map.FinMap nat_cmp Region
filled rs r cells =
    map.insert rs r (record
    { generation = (region_in rs r).generation; fill = (region_in rs r).fill + cells })

-- where a generation allocates after an object of `cells` cells: in the next free region, or after the object
-- before it
abbrev pub opened_cursor : List ℕ → AllocCursors → ℕ → AllocCursor
opened_cursor numbers s cells = record { region = slice_index numbers s.opened; fill = cells }

abbrev pub followed_cursor : AllocCursors → ℕ → ℕ → AllocCursor
followed_cursor s g cells =
    record { region = (cursor_of s g).region; fill = (cursor_of s g).fill + cells }

-- the cursors, and the regions, after an object of `cells` cells met its fate
abbrev pub put_cursors : Fate → List ℕ → AllocCursors → ℕ → ℕ → AllocCursors
put_cursors Dead numbers s g cells = s
put_cursors Pinned numbers s g cells = s
put_cursors MovesToNewRegion numbers s g cells =
    record (with_cursor s g (opened_cursor numbers s cells)) { opened = s.opened + 1 }
put_cursors Moves numbers s g cells = with_cursor s g (followed_cursor s g cells)

abbrev pub put_regions : Fate → List ℕ → Room → ℕ → ℕ → map.FinMap nat_cmp Region
put_regions Dead numbers q g cells = q.regions
put_regions Pinned numbers q g cells = q.regions
put_regions MovesToNewRegion numbers q g cells =
    filled
    (map.insert q.regions (slice_index numbers q.cursors.opened) (record { generation = g; fill = 0 }))
    (slice_index numbers q.cursors.opened) cells
put_regions Moves numbers q g cells = filled q.regions (cursor_of q.cursors g).region cells

abbrev pub put_fate : Fate → List ℕ → Room → ℕ → ℕ → Room
put_fate w numbers q g cells = record {
  regions = put_regions w numbers q g cells;
  cursors = put_cursors w numbers q.cursors g cells;
  cells = q.cells + cond (is_moving w) cells 0;
}

abbrev pub put_move : Heap → Room → Move → Room
put_move h q m = put_fate m.fate h.free q m.generation (cells_of (placed_at h m.from))

-- the room after the first k moves
unfoldable pub room_at : Heap → List Move → ℕ → Room
room_at h ms zero = room_of h
room_at h ms (suc k) = put_move h (room_at h ms k) (move_at ms k)

-- the first free region is opened: where its generation allocates now, there is none or no room for `cells`
-- cells more
pub record Opened (numbers : List ℕ) (s : AllocCursors) (to : Addr) (g cells : ℕ) : Type 0 where
  pub free : s.opened < length numbers
  pub address : to.0 ≡ slice_index numbers s.opened * REGION
  pub left : ((cursor_of s g).region ≡ 0) ⊎ (REGION < (cursor_of s g).fill + cells)

-- the object goes after all others of the region in which its generation allocates
pub record Followed (s : AllocCursors) (to : Addr) (g cells : ℕ) : Type 0 where
  pub begun : (cursor_of s g).region ≢ 0
  pub address : to.0 ≡ (cursor_of s g).region * REGION + (cursor_of s g).fill
  pub room : (cursor_of s g).fill + cells ≤ REGION

-- an object may have this fate where the cursors are these
abbrev pub Fits : Fate → List ℕ → AllocCursors → (from to : Addr) → (g cells : ℕ) → Type 0
Fits Dead numbers s from to g cells = to ≡ from
Fits Pinned numbers s from to g cells = to ≡ from
Fits MovesToNewRegion numbers s from to g cells = Opened numbers s to g cells
Fits Moves numbers s from to g cells = Followed s to g cells

abbrev pub FitsMove : Heap → Room → Move → Type 0
FitsMove h q m =
    Fits m.fate h.free q.cursors m.from m.to m.generation (cells_of (placed_at h m.from))

-- the move of an address
unfoldable pub find_move : List Move → Addr → Option Move
find_move [] a = None
find_move (m ∷ ms) a = cond (nat_eq m.from.0 a.0) (Some m) (find_move ms a)

-- where a move puts an address, and itself where there is no move
abbrev pub forwarding_by : Option Move → Addr → Addr
forwarding_by None a = a
forwarding_by (Some m) a = m.to

-- whether a move keeps its object
abbrev pub is_kept_by : Option Move → Bool
is_kept_by None = false
is_kept_by (Some m) = is_kept_fate m.fate

-- each move is of a higher address than the ones before
abbrev pub IsRising : List Move → Type 0
IsRising ms = (j k : ℕ) → j < k → k < length ms → (move_at ms j).from.0 < (move_at ms k).from.0

-- a move is of this object
abbrev pub HasMove : List Move → Addr → Type 0
HasMove ms a = (k : ℕ) × ((k < length ms) × ((move_at ms k).from ≡ a))

-- no move is of an object of this region
abbrev pub HasNoMove : List Move → ℕ → Type 0
HasNoMove ms r = (k : ℕ) → k < length ms → region_of (move_at ms k).from ≢ r

-- one move for each of these objects but for some, in rising address, with the generation to which it is
-- promoted and the number of its fields; each goes where the room allows it
pub record AreMovesOf (These Unmoved : Addr → Type 0) (h : Heap) (n : ℕ) (ms : List Move) : Type 0 where
  pub condemned : (k : ℕ) → k < length ms → These (move_at ms k).from
  pub rising : IsRising ms
  pub all : (a : Addr) → These a → HasMove ms a ⊎ Unmoved a
  pub generations : (k : ℕ) → k < length ms
      → (move_at ms k).generation ≡ raised n (generation_at (object_at h) (move_at ms k).from)
  pub fields : (k : ℕ) → k < length ms
      → (move_at ms k).fields ≡ length (placed_at h (move_at ms k).from).fields
  pub fits : (k : ℕ) → k < length ms → FitsMove h (room_at h ms k) (move_at ms k)

-- one for each condemned object, or none for all of its region: what has no move is not kept
abbrev pub AreMoves : Heap → ℕ → List Move → Type 0
AreMoves h n ms =
    AreMovesOf (λ a. is_condemned h n a ≡ true) (λ a. HasNoMove ms (region_of a)) h n ms

-- an object of a region stays where it is
pub record HasStay (ms : List Move) (r : ℕ) : Type 0 where
  pub at : ℕ
  pub within : at < length ms
  pub stays : is_staying (move_at ms at).fate ≡ true
  pub region : region_of (move_at ms at).from ≡ r

-- a region in use of generation n or below
pub record IsCondemnedRegion (h : Heap) (n r : ℕ) : Type 0 where
  pub held : is_in_use h r ≡ true
  pub young : region_generation h r ≤ n

-- these regions in rising number, with the generation that each gets if it stays: exactly those stay in which
-- an object does
pub record AreRegionsOf (These : ℕ → Type 0) (h : Heap) (n : ℕ) (ms : List Move)
    (cs : List Condemned) : Type 0 where
  pub condemned : (k : ℕ) → k < length cs → These (condemned_at cs k).region
  pub rising : (j k : ℕ) → j < k → k < length cs → (condemned_at cs j).region < (condemned_at cs k).region
  pub all : (r : ℕ) → These r → (k : ℕ) × ((k < length cs) × ((condemned_at cs k).region ≡ r))
  pub generations : (k : ℕ) → k < length cs
      → (condemned_at cs k).generation ≡ raised n (region_generation h (condemned_at cs k).region)
  pub pinned : (k : ℕ) → k < length cs
      → ((condemned_at cs k).pinned ≡ true) ↔ HasStay ms (condemned_at cs k).region

-- the condemned regions
abbrev pub AreRegions : Heap → ℕ → List Move → List Condemned → Type 0
AreRegions h n ms cs = AreRegionsOf (IsCondemnedRegion h n) h n ms cs

-- how many of these moves leave a kept object in place
abbrev pub stays_among : List Move → ℕ
stays_among ms = count_by (λ m. is_staying m.fate) ms
