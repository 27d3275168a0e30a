-- What private clauses alone cite.
use Rattle.std.specs.Prelude.{ℕ, Bool, ◌≡◌, ◌≢◌, ◌+◌, ◌*◌, ◌<◌, ◌≤◌, ◌⊎◌, ◌↔◌, cond, nat_eq, true, false, List, length, slice_index, ◌^◌, ◌%◌, ◌&&◌, slice_index_or, suc, sum_by, zero, not, if◌then◌else◌, ◌-◌, Some, None, MatchBool, option_map, drop}
use Rattle.std.specs.{Ordering.nat_cmp, FinMap.FinMap, FinMap.get, FinMap.len}
use Rattle.hd_model.specs.Heap.{Region, Heap, has_object, region_of, is_in_use, placed_at, cells_of, object_at, card_of, is_set, is_carded}
use Rattle.hd_model.specs.{declared.data.Addr.Addr, Ages.raised, Counting.Counts}
use Rattle.hd_model.specs.Scene.{generation_at, IsCondemned, IsField}
use Rattle.hd_model.specs.declared.limits.TheConstants.{REGION, LEFT, REGIONS, OLDEST}
use Rattle.hd_heap.specs.{declared.moves.Move.Move, declared.condemned.Extent.Extent, Sound.IsSound, declared.moves.Fate.Fate}
use Rattle.hd_heap.specs.Calls.{HasCondemned, IsExtent, is_condemned, NamesBelow, forwarded, with_fresh, with_card}
use Rattle.hd_heap.specs.Moves.{is_kept_fate, is_moving, is_staying, move_at, is_opening}
use Rattle.hd_heap.specs.Runs.{IsRun, MayRun, run_copied}
use Rattle.hd_plan.specs.{declared.cursors.AllocCursor.AllocCursor, declared.cursors.AllocCursors.AllocCursors, declared.moves.Condemned.Condemned, Commit.all_regions, Plan.PlanOf, Plan.Takes}
use Rattle.hd_plan.specs.Layout.{Room, region_in, room_at, put_cursors, with_cursor, condemned_at, AreMovesOf, AreRegionsOf, Fits, HasNoMove, HasStay, FitsMove}
use Rattle.std.specs.FinMap as map

-- whether a region is among these, and its record
abbrev pub has_region : map.FinMap nat_cmp Region → ℕ → Bool
has_region rs r = map.contains_key rs r

-- ---- the
-- laying of a plan.

-- ---- where objects are put

-- a region that was among the first free ones
pub record WasFree (h : Heap) (opened r : ℕ) : Type 0 where
  pub at : ℕ
  pub before : at < opened
  pub within : at < length h.free
  pub number : slice_index h.free at ≡ r

-- a fresh region: one that came into use since, with its generation
pub record IsFresh (h : Heap) (rs : FinMap nat_cmp Region) (g r : ℕ) : Type 0 where
  pub held : has_region rs r ≡ true
  pub new : is_in_use h r ≡ false
  pub generation : (region_in rs r).generation ≡ g

-- a cursor of a generation: at the end of a fresh region, or in none
pub record IsCursor (h : Heap) (rs : FinMap nat_cmp Region) (g : ℕ) (c : AllocCursor) : Type 0 where
  pub fresh : c.region ≢ 0 → IsFresh h rs g c.region × ((region_in rs c.region).fill ≡ c.fill)
  pub empty : c.region ≡ 0 → c.fill ≡ 0
  pub fits : c.fill ≤ REGION

-- 1 where a cursor has a region, else 0
abbrev pub begun : AllocCursor → ℕ
begun c = cond (nat_eq c.region 0) 0 1

-- the regions that are opened, against the cells that were moved: each but the last one of a generation is
-- left with at least LEFT cells in use
abbrev pub HasSlack : AllocCursors → ℕ → Type 0
HasSlack s cells =
    LEFT * s.opened + (s.first.fill + s.second.fill) ≤ cells + LEFT * (begun s.first + begun s.second)

-- each region was in use or was opened, and the cursors are in fresh ones
pub record IsRoom (h : Heap) (q : Room) : Type 0 where
  pub held : (r : ℕ) → has_region q.regions r ≡ true → (is_in_use h r ≡ true) ⊎ WasFree h q.cursors.opened r
  pub old : (r : ℕ) → is_in_use h r ≡ true → get q.regions r ≡ get h.regions r
  pub first : IsCursor h q.regions 1 q.cursors.first
  pub second : IsCursor h q.regions 2 q.cursors.second
  pub slack : HasSlack q.cursors q.cells
  pub number : len q.regions ≡ len h.regions + q.cursors.opened
  pub few : q.cursors.opened ≤ length h.free

-- an object of `cells` cells was put at an address
pub record IsPut (h : Heap) (rs : FinMap nat_cmp Region) (to : Addr) (g cells : ℕ) : Type 0 where
  pub fresh : IsFresh h rs g (region_of to)
  pub below : to.0 + cells ≤ region_of to * REGION + (region_in rs (region_of to)).fill

-- the objects of the first i moves that move are put, no two at one address, and one in each region that was
-- opened
pub record ArePut (h : Heap) (ms : List Move) (i : ℕ) : Type 0 where
  pub room : IsRoom h (room_at h ms i)
  pub put : (k : ℕ) → k < i → is_moving (move_at ms k).fate ≡ true
      → IsPut h (room_at h ms i).regions (move_at ms k).to (move_at ms k).generation
      (cells_of (placed_at h (move_at ms k).from))
  pub apart : (j k : ℕ) → j < k → k < i → is_moving (move_at ms j).fate ≡ true
      → is_moving (move_at ms k).fate ≡ true
      → (move_at ms j).to ≢ (move_at ms k).to
  pub held : (r : ℕ) → has_region (room_at h ms i).regions r ≡ true → (is_in_use h r ≡ true)
      ⊎ ((k : ℕ) × ((k < i) × ((is_moving (move_at ms k).fate ≡ true) × (region_of (move_at ms k).to ≡ r))))

-- ---- what a plan has and how it is made

-- how much is condemned, and the cells of it
pub record IsToLay (h : Heap) (n : ℕ) (e : Extent) : Type 0 where
  pub extent : IsExtent h n e
  pub cells : Takes h (IsCondemned (object_at h) n) e.cells

-- there is room for the number of these regions
pub record HasRegionRoom (P : ℕ → Type 0) (room cells : ℕ) : Type 0 where
  pub count : ℕ
  pub count_is : Counts P count
  pub small : count < 2 ^ 32
  pub enough : count ≤ room
  pub table : REGION * count ≤ cells

-- the number that is stored for a region in a list, 0 after its end
abbrev pub first_at : List ℕ → ℕ → ℕ
first_at firsts r = slice_index_or firsts r 0

-- the address that is stored in an entry
abbrev pub cell_at : List Addr → ℕ → Addr
cell_at cells i = slice_index_or cells i (record { 0 = 0 })

-- the entry of an address in the k-th listed region
abbrev pub spot_in : ℕ → Addr → ℕ
spot_in k a = REGION * k + a.0 % REGION

-- the table of new addresses: each listed region has an entry for each of its cells, the k-th from REGION * k
-- on, and the entry of an object that has a move holds its new address
pub record HasForwards (ms : List Move) (cs : List Condemned) (firsts : List ℕ) (cells : List Addr) : Type 0
  where
    pub listed : (k : ℕ) → k < length cs → first_at firsts (condemned_at cs k).region ≡ k + 1
    pub others : (r : ℕ) → first_at firsts r ≢ 0 → (k : ℕ)
        × ((k < length cs) × ((condemned_at cs k).region ≡ r))
    pub spots : REGION * length cs ≤ length cells
    pub forwards : (j k : ℕ) → j < length ms → k < length cs
        → (condemned_at cs k).region ≡ region_of (move_at ms j).from
        → cell_at cells (spot_in k (move_at ms j).from) ≡ (move_at ms j).to

-- there is room for a move of each condemned object
pub record HasMoveRoom (h : Heap) (n room : ℕ) : Type 0 where
  pub count : ℕ
  pub count_is : Counts (λ a. is_condemned h n a ≡ true) count
  pub enough : count ≤ room

-- there is room for a move of each condemned object, and for each region that has one; the table spans the
-- heap
pub record HasLayRoom (h : Heap) (n room_ms room_cs firsts cells : ℕ) : Type 0 where
  pub moves : HasMoveRoom h n room_ms
  pub regions : HasRegionRoom (HasCondemned h n) room_cs cells
  pub span : (a : Addr) → has_object h a ≡ true → region_of a < firsts

-- what a plan's parts keep: how much is condemned, room for all that is, and the table of new addresses
pub record IsPlan (p : PlanOf) (e : Extent) (room_ms room_cs : ℕ) (firsts : List ℕ)
    (cells : List Addr) : Type 0 where
  pub extent : IsExtent p.basis.heap p.basis.condemned e
  pub room : HasLayRoom p.basis.heap p.basis.condemned room_ms room_cs (length firsts) (length cells)
  pub forwards : HasForwards p.moves p.regions firsts cells

-- what is promoted is kept, and stays where it is pinned
pub record AreChosen (promoted pinned : Addr → Bool) (ms : List Move) : Type 0 where
  pub kept : (k : ℕ) → k < length ms → is_kept_fate (move_at ms k).fate ≡ promoted (move_at ms k).from
  pub stays : (k : ℕ) → k < length ms
      → is_staying (move_at ms k).fate ≡ (promoted (move_at ms k).from && pinned (move_at ms k).from)

-- one object is laid
pub record IsMoveOf (h : Heap) (n : ℕ) (promoted pinned : Bool) (old new : AllocCursors)
    (m : Move) : Type 0 where
  pub generation : m.generation ≡ raised n (generation_at (object_at h) m.from)
  pub fields : m.fields ≡ length (placed_at h m.from).fields
  pub kept : is_kept_fate m.fate ≡ promoted
  pub stays : is_staying m.fate ≡ (promoted && pinned)
  pub fits : Fits m.fate h.free old m.from m.to m.generation (cells_of (placed_at h m.from))
  pub cursors : new ≡ put_cursors m.fate h.free old m.generation (cells_of (placed_at h m.from))

-- the cursors with one of a generation and with this number of opened regions
abbrev pub with_cursor_at : AllocCursors → ℕ → AllocCursor → ℕ → AllocCursors
with_cursor_at s g cursor opened = record (with_cursor s g cursor) { opened = opened }

-- a cursor is not over full and in a region whose addresses have 32 bits, and there is a free region for one
-- object more
pub record CanPutAt (h : Heap) (c : AllocCursor) (opened : ℕ) : Type 0 where
  pub region : c.region < REGIONS
  pub fill : c.fill ≤ REGION
  pub free : opened < length h.free
  pub few : opened < 2 ^ 31

-- the cells of the objects of these moves
abbrev pub cells_laid : Heap → List Move → ℕ
cells_laid h ms = sum_by (λ m. cells_of (placed_at h m.from)) ms

-- an object that is not kept, in a region below an address in which none is
pub record IsPassed (promoted : Addr → Bool) (ms : List Move) (bound : ℕ) (a : Addr) : Type 0 where
  pub none : HasNoMove ms (region_of a)
  pub whole : region_of a * REGION + REGION ≤ bound
  pub unkept : promoted a ≡ false

-- the condemned objects below an address have moves, but for those of regions in which none is kept, and those
-- of them that are kept have new addresses
abbrev pub AreMovesTo : Heap → ℕ → (Addr → Bool) → List Move → ℕ → Type 0
AreMovesTo h n promoted ms bound =
    AreMovesOf (λ a. (is_condemned h n a ≡ true) × (a.0 < bound)) (IsPassed promoted ms bound) h n ms

-- what holds between two objects while a heap is laid
pub record IsLaying (h : Heap) (n : ℕ) (promoted pinned : Addr → Bool) (ms : List Move)
    (cursors : AllocCursors) (bound : ℕ) : Type 0 where
  pub to : AreMovesTo h n promoted ms bound
  pub chosen : AreChosen promoted pinned ms
  pub room : IsRoom h (room_at h ms (length ms))
  pub cursors_are : (room_at h ms (length ms)).cursors ≡ cursors
  pub laid : (room_at h ms (length ms)).cells ≤ cells_laid h ms

-- the regions below a number that have condemned objects are listed
abbrev pub AreRegionsTo : Heap → ℕ → List Move → List Condemned → ℕ → Type 0
AreRegionsTo h n ms cs bound = AreRegionsOf (λ r. HasCondemned h n r × (r < bound)) h n ms cs

-- what holds between two regions while a heap is laid: those below `bound` are done
pub record IsLaidTo (h : Heap) (n : ℕ) (promoted pinned : Addr → Bool) (ms : List Move)
    (cs : List Condemned) (firsts : List ℕ) (cells : List Addr) (cursors : AllocCursors)
    (bound : ℕ) : Type 0 where
  pub laying : IsLaying h n promoted pinned ms cursors (bound * REGION)
  pub regions : AreRegionsTo h n ms cs bound
  pub forwards : HasForwards ms cs firsts cells

-- there are new moves beside the old ones, of objects in one region, the k-th that is listed; whether one of
-- these stays; and their new addresses are in the table
pub record AreLaidIn (old new : List Move) (region k : ℕ) (pinned : Bool) (before after : List Addr) : Type 0
  where
    pub each : (j : ℕ) → j < length new → (region_of (move_at new j).from ≡ region)
        ⊎ ((j < length old) × (move_at new j ≡ move_at old j))
    pub stays : (r : ℕ) → HasStay new r ↔ (HasStay old r ⊎ ((pinned ≡ true) × (region ≡ r)))
    pub placed : (j : ℕ) → j < length new → region_of (move_at new j).from ≡ region
        → cell_at after (spot_in k (move_at new j).from) ≡ (move_at new j).to
    pub same : (i : ℕ) → i < REGION * k → cell_at after i ≡ cell_at before i
    pub long : length after ≡ length before

-- ---- the table of new addresses

-- the new address of an address by the number that is stored for its region
abbrev pub forwarding_from : ℕ → List Addr → Addr → Addr
forwarding_from zero cells a = a
forwarding_from (suc k) cells a = cell_at cells (spot_in k a)

abbrev pub forwarding_among : List ℕ → List Addr → Addr → Addr
forwarding_among firsts cells a = forwarding_from (first_at firsts (region_of a)) cells a

-- ---- what each step of
-- the moving leaves of a heap.

-- one of the first i moves has such a fate, and has this end
pub record HasEnd (fate : Fate → Bool) (end : Move → Addr) (ms : List Move) (i : ℕ) (a : Addr) : Type 0 where
  pub at : ℕ
  pub before : at < i
  pub goes : fate (move_at ms at).fate ≡ true
  pub is : end (move_at ms at) ≡ a

-- an address to which an object was copied
abbrev pub IsCopiedTo : List Move → ℕ → Addr → Type 0
IsCopiedTo = HasEnd is_moving (λ m. m.to)

-- the new address of a kept object
abbrev pub IsKeptAt : List Move → ℕ → Addr → Type 0
IsKeptAt = HasEnd is_kept_fate (λ m. m.to)

-- the address of an object that stays
abbrev pub IsStayedAt : List Move → ℕ → Addr → Type 0
IsStayedAt = HasEnd is_staying (λ m. m.from)

-- the old address of an object that does not stay
abbrev pub IsLeft : List Move → ℕ → Addr → Type 0
IsLeft = HasEnd (λ w. not (is_staying w)) (λ m. m.from)

-- an object that no move leaves in place: its move is another, or no object of its region has one
abbrev pub IsGone : PlanOf → Addr → Type 0
IsGone p a =
    IsLeft p.moves (length p.moves) a
    ⊎ ((is_condemned p.basis.heap p.basis.condemned a ≡ true) × HasNoMove p.moves (region_of a))

-- a card that is set stays set
abbrev pub MoreCards : Heap → Heap → Type 0
MoreCards old h = (c : ℕ) → is_set old c ≡ true → is_set h c ≡ true

-- the moves may be carried out: their objects are there, each has a new address, and no two have the same one
pub record CanCopy (h : Heap) (ms : List Move) : Type 0 where
  pub sound : IsSound h
  pub objects : (k : ℕ) → k < length ms → has_object h (move_at ms k).from ≡ true
  pub generations : (k : ℕ) → k < length ms → (0 < (move_at ms k).generation)
      × ((move_at ms k).generation ≤ OLDEST)
  pub fits : (k : ℕ) → k < length ms → FitsMove h (room_at h ms k) (move_at ms k)
  pub put : (i : ℕ) → i ≤ length ms → ArePut h ms i

-- what an object references is kept
abbrev pub HasKeptFields : (Addr → Bool) → Heap → Addr → Type 0
HasKeptFields kept h a = (y : Addr) → IsField (object_at h) a y → kept y ≡ true

-- a fresh region may be opened, where the move opens one
abbrev pub MayOpen : Heap → Move → Type 0
MayOpen h m = is_opening m.fate ≡ true → (m.generation ≤ OLDEST) × (0 < length h.free)

-- the heap before the object of a move is copied: where the move opens a region, that region is in use
abbrev pub opened_for : Heap → Move → Heap
opened_for h m =
    if is_opening m.fate then with_fresh h (slice_index h.free 0) m.generation else h

-- the object of the k-th move stays or is not kept; or it may be copied, with those that go with it
abbrev pub MayGoFrom : (Addr → Bool) → (Addr → Addr) → Heap → List Move → ℕ → Type 0
MayGoFrom kept forwarding h ms k = is_moving (move_at ms k).fate ≡ true
    → MayOpen h (move_at ms k) × MayRun kept forwarding (opened_for h (move_at ms k)) ms k

-- the objects of the moves from the k-th up to `end` are copied if they move
abbrev pub HaveGone : (Addr → Addr) → (old h : Heap) → List Move → (k end : ℕ) → Type 0
HaveGone forwarding old h ms k end = MatchBool (is_moving (move_at ms k).fate)
    (IsRun ms k end × (h ≡ run_copied forwarding (opened_for old (move_at ms k)) ms k (end - k)))
    ((end ≡ k + 1) × (h ≡ old))

-- the first i moves are carried out: their objects are at their old addresses as they were, and at the new
-- ones with the new addresses in their fields
pub record AreCopied (forwarding : Addr → Addr) (old h : Heap) (ms : List Move) (i : ℕ) : Type 0 where
  pub objects : (a : Addr) → has_object old a ≡ true → map.get h.objects a.0 ≡ map.get old.objects a.0
  pub copies : (k : ℕ) → k < i → is_moving (move_at ms k).fate ≡ true
      → map.get h.objects (move_at ms k).to.0
      ≡ option_map (forwarded forwarding) (map.get old.objects (move_at ms k).from.0)
  pub only : (b : Addr) → has_object h b ≡ true → (has_object old b ≡ true) ⊎ IsCopiedTo ms i b
  pub same : h ≡ record old {
    objects = h.objects;
    regions = (room_at old ms i).regions;
    free = drop (room_at old ms i).cursors.opened old.free;
  }

-- the fields of these objects hold the new addresses, and nothing else is changed
pub record AreRewritten (Those : Addr → Type 0) (forwarding : Addr → Addr) (old h : Heap) : Type 0 where
  pub done : (a : Addr) → Those a
      → map.get h.objects a.0 ≡ option_map (forwarded forwarding) (map.get old.objects a.0)
  pub others : (a : Addr) → (Those a → ⊥) → map.get h.objects a.0 ≡ map.get old.objects a.0
  pub there : (a : Addr) → has_object h a ≡ has_object old a
  pub same : h ≡ record old { objects = h.objects }

-- whether a listed region stays, by the number that is stored for it
abbrev pub is_pinned : List Condemned → List ℕ → ℕ → Bool
is_pinned cs firsts r = (condemned_at cs (first_at firsts r - 1)).pinned

-- the first i objects that do not stay are gone from their old addresses where their region is `here`; cards
-- of objects are as before
pub record AreRemovedIn (here : ℕ → Bool) (old h : Heap) (ms : List Move) (i : ℕ) : Type 0 where
  pub gone : (a : Addr) → IsLeft ms i a → here (region_of a) ≡ true → map.get h.objects a.0 ≡ None
  pub others : (a : Addr) → (IsLeft ms i a → here (region_of a) ≡ false)
      → map.get h.objects a.0 ≡ map.get old.objects a.0
  pub same : h ≡ record old { objects = h.objects; cards = h.cards }
  pub cards : (a : Addr) → has_object h a ≡ true → is_carded h a ≡ is_carded old a

-- the first i condemned regions have their new generation, or are in use no more
pub record AreSettledRegions (old rs : map.FinMap nat_cmp Region) (cs : List Condemned)
    (i : ℕ) : Type 0 where
  pub raised : (k : ℕ) → k < i → (condemned_at cs k).pinned ≡ true
      → map.get rs (condemned_at cs k).region
      ≡ Some (record {
        generation = (condemned_at cs k).generation;
        fill = (region_in old (condemned_at cs k).region).fill;
      })
  pub given_up : (k : ℕ) → k < i → (condemned_at cs k).pinned ≡ false
      → map.get rs (condemned_at cs k).region ≡ None
  pub others : (r : ℕ) → ((k : ℕ) → k < i → (condemned_at cs k).region ≢ r)
      → map.get rs r ≡ map.get old r

-- and those that are not have no objects
pub record AreGivenUp (old h : Heap) (cs : List Condemned) (i : ℕ) : Type 0 where
  pub regions : AreSettledRegions old.regions h.regions cs i
  pub gone : (k : ℕ) → k < i → (condemned_at cs k).pinned ≡ false → (a : Addr)
      → region_of a ≡ (condemned_at cs k).region → map.get h.objects a.0 ≡ None
  pub left : (a : Addr) → ((k : ℕ) → k < i → (condemned_at cs k).pinned ≡ false
      → (condemned_at cs k).region ≢ region_of a) → map.get h.objects a.0 ≡ map.get old.objects a.0
  pub cards : (a : Addr) → has_object h a ≡ true
      → (has_object old a ≡ true) × (is_carded h a ≡ is_carded old a)
  pub limit : h.limit ≡ old.limit
  pub number : all_regions h ≡ all_regions old

-- an object has a field to a younger one
abbrev pub NamesYounger : Heap → Addr → Type 0
NamesYounger h a = NamesBelow h a (generation_at (object_at h) a)

-- all condemned regions have one next generation
abbrev pub AreAlike : List Condemned → Type 0
AreAlike cs = (j k : ℕ) → j < length cs → k < length cs
    → (condemned_at cs j).generation ≡ (condemned_at cs k).generation

-- the card of one object is set, or it is not kept or references no younger one
abbrev pub MayCard : Heap → Heap → Move → Type 0
MayCard old h m =
    (h ≡ with_card old (card_of m.to) true)
    ⊎ ((h ≡ old) × (is_kept_fate m.fate ≡ true → NamesYounger old m.to → ⊥))

-- the cards of those of the first i kept objects are set, at their new addresses, that reference a younger
-- one
pub record AreCarded (old h : Heap) (ms : List Move) (i : ℕ) : Type 0 where
  pub same : h ≡ record old { cards = h.cards }
  pub more : MoreCards old h
  pub done : (b : Addr) → IsKeptAt ms i b → NamesYounger old b → is_carded h b ≡ true

-- an object that starts in a card
abbrev pub starts_in : Heap → ℕ → Addr → Bool
starts_in h card a = has_object h a && nat_eq (card_of a) card
