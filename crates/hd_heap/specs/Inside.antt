-- What private clauses alone cite.
use Rattle.std.specs.Prelude.{◌≡◌, ℕ, ◌/◌, ◌≤◌, true, false, List, length, sum_by, IsTrue, slice_index_or, Option, Some, None, ◌≢◌, zero, suc, Bool, map, Contains, ◌+◌, ◌<◌, slice_index, ◌-◌, slice_set, ◌&&◌, if◌then◌else◌, nat_lt, nat_eq, cond, min, ◌^◌, drop, ⊤, MatchOption, ◌*◌, option_map}
use Rattle.std.specs.FinMap.{len, values, contains_key, insert}
use Rattle.std.specs.Box.{with_value as box_with_value}
use Rattle.hd_cells.specs.Object.{size_of, Object, with_value, with_registered, with_field as region_with_field}
use Rattle.hd_cells.specs.Region.{Contents, IsLaidOut, empty_region, IsObject, object_at as object_in_region, with_put as region_with_put, with_object as region_with_object, without_object}
use Rattle.hd_model.specs.declared.limits.TheConstants.{CARD, OLDEST, REGIONS, REGION, LEFT}
use Rattle.hd_model.specs.{declared.data.Addr.Addr, Scene.fields_at, Scene.generation_at}
use Rattle.hd_model.specs.Heap.{offset_of, Placed, Heap, has_object, placed_at, object_at, is_in_use, is_set, region_at, region_generation}
use Rattle.hd_cells.specs.Headers.{IsEnd}
use Rattle.hd_heap.specs.{declared.area.TheConstants.CARDS, declared.area.Area.Area, declared.sizes.GenerationSize.GenerationSize, declared.sizes.Older.Older, Indexes.from_one, declared.moves.Move.Move, Moves.move_at, Runs.IsRun, declared.area.Part.Part, declared.area.Wanted.Wanted, declared.area.Wanted.TheVariants.Any, declared.area.Wanted.TheVariants.Carded}
use Rattle.hd_heap.specs.Areas.{contents, card_in, region_in, regions_in, address, placed_of}
use Rattle.hd_heap.specs.declared.area.Part.TheVariants.{Value, Registered, Field}
use Rattle.hd_heap.specs.Calls.{is_old_carded, with_field, AreFull}
use Rattle.std.specs.FinMap as fin

-- ---- the regions of a heap, read as its objects, its regions in use and its set cards

-- the region of a number; numbers begin with 1
abbrev pub area_at : List Area → ℕ → Option Area
area_at areas r = slice_index_or (from_one areas) r None

-- an object begins in a card of a region
pub record BeginsIn (r : Contents) (card : ℕ) : Type 0 where
  pub at : ℕ
  pub object : IsTrue (contains_key r.objects at)
  pub in_card : at / CARD ≡ card

-- what every region of a heap keeps: `live` is the sum of its objects' sizes and `count` their number, a set
-- card has an object, and a free region is empty
pub record IsArea (a : Area) : Type 0 where
  pub laid_out : IsLaidOut (contents a)
  pub live : a.live ≡ sum_by size_of (values (contents a).objects)
  pub count : a.count ≡ len (contents a).objects
  pub within : a.live ≤ (contents a).fill
  pub generation : a.generation ≤ OLDEST
  pub card_count : length a.cards ≡ CARDS
  pub cards : (card : ℕ) → card_in (Some a) card ≡ true → BeginsIn (contents a) card
  pub free : a.held ≡ false → contents a ≡ empty_region

-- ---- a walk over the objects of one region

-- the walk is at the start of the region or where an object of it ends, and these are the region's contents
pub record IsWalkIn (h : Heap) (region end : ℕ) (r : Contents) : Type 0 where
  pub held : is_in_use h region ≡ true
  pub number : region < REGIONS
  pub reads : (k : ℕ) → k < REGION
      → fin.get h.objects (region * REGION + k) ≡ option_map placed_of (fin.get r.objects k)
  pub laid_out : IsLaidOut r
  pub ends : IsEnd r end

-- ---- the fields of one object as they are stored, with forwarding addresses

-- the forwarding address in a field as it is stored: null stays null
abbrev pub stored_forwarding : (Addr → Addr) → ℕ → ℕ
stored_forwarding forwarding zero = zero
stored_forwarding forwarding (suc a) = (forwarding (record { 0 = suc a })).0

-- an object of a region whose fields hold forwarding addresses
abbrev pub region_forwarded : (Addr → Addr) → Object → Object
region_forwarded forwarding o = record o { fields = map (stored_forwarding forwarding) o.fields }

-- each object that these fields reference is kept
abbrev pub MayForward : (Addr → Bool) → List ℕ → Type 0
MayForward kept fields = (n : ℕ) → Contains fields n → n ≢ 0 → kept (record { 0 = n }) ≡ true

-- ---- what is always true of the fields of a heap

-- a number of a region that is not in use
pub record IsFreeRegion (areas : List Area) (n : ℕ) : Type 0 where
  pub low : 0 < n
  pub high : n ≤ length areas
  pub free : region_in (area_at areas n) ≡ None

-- the cells and the objects of all regions, and the regions in use, are counted; each region is in use or
-- once in the list of free ones, which has room for all
pub record IsKept (areas : List Area) (numbers : List ℕ) (capacity cells objects holds : ℕ) : Type 0 where
  pub each : (r : ℕ) (a : Area) → area_at areas r ≡ Some a → IsArea a
  pub few : length areas < REGIONS
  pub lives : cells ≡ sum_by (λ (a : Area). a.live) areas
  pub counts : objects ≡ sum_by (λ (a : Area). a.count) areas
  pub held : holds ≡ len (regions_in areas)
  pub parted : holds + length numbers ≡ length areas
  pub room : length areas ≤ capacity
  pub free : (i : ℕ) → i < length numbers → IsFreeRegion areas (slice_index numbers i)
  pub apart : (i j : ℕ) → i < j → j < length numbers → slice_index numbers i ≢ slice_index numbers j

-- ---- how much a heap has of generations 1 and 2

-- what is counted: objects, their cells, and regions in use
pub data Measure : Type 0 where
  of_objects : Measure
  of_cells : Measure
  of_regions : Measure

-- this number of a size, and of a region
abbrev pub number_in : Measure → GenerationSize → ℕ
number_in of_objects s = s.objects
number_in of_cells s = s.cells
number_in of_regions s = s.regions

abbrev pub number_of : Measure → Area → ℕ
number_of of_objects a = a.count
number_of of_cells a = a.live
number_of of_regions a = 1

-- what a region adds to the number of a generation: nothing where it is free, or of another one
abbrev pub part_of : Measure → ℕ → Area → ℕ
part_of m g a = cond (a.held && nat_eq a.generation g) (number_of m a) 0

-- the numbers of a size are those of the regions of a generation
pub record HasShare (areas : List Area) (g : ℕ) (size : GenerationSize) : Type 0 where
  pub numbers : (m : Measure) → number_in m size ≡ sum_by (part_of m g) areas

pub record HasOlder (areas : List Area) (older : Older) : Type 0 where
  pub middle : HasShare areas 1 older.middle
  pub oldest : HasShare areas 2 older.oldest

-- a size with more and with less of each number, of which none gets past 32 bits
abbrev pub with_more : GenerationSize → GenerationSize → GenerationSize
with_more s by = record {
  objects = min (s.objects + by.objects) (2 ^ 32 - 1);
  cells = min (s.cells + by.cells) (2 ^ 32 - 1);
  regions = min (s.regions + by.regions) (2 ^ 32 - 1);
}

abbrev pub with_less : GenerationSize → GenerationSize → GenerationSize
with_less s by = record {
  objects = s.objects - by.objects;
  cells = s.cells - by.cells;
  regions = s.regions - by.regions;
}

-- so where a generation has more or less
abbrev pub with_added : Older → ℕ → GenerationSize → Older
with_added o generation by = record {
  middle = cond (nat_eq generation 1) (with_more o.middle by) o.middle;
  oldest = cond (nat_eq generation 2) (with_more o.oldest by) o.oldest;
}

abbrev pub with_taken : Older → ℕ → GenerationSize → Older
with_taken o generation by = record {
  middle = cond (nat_eq generation 1) (with_less o.middle by) o.middle;
  oldest = cond (nat_eq generation 2) (with_less o.oldest by) o.oldest;
}

abbrev pub no_older : Older
no_older = record {
  middle = record { objects = 0; cells = 0; regions = 0 };
  oldest = record { objects = 0; cells = 0; regions = 0 };
}

-- ---- objects that go together from one region to one other, and what copying them leaves

-- ---- in a region

-- the object of a move in the region where it is
abbrev pub object_of : Contents → List Move → ℕ → Object
object_of source ms k = object_in_region source (offset_of (move_at ms k).from)

-- a region after copies of the objects of n moves from the first on were put after all others, with
-- forwarding addresses in their fields
unfoldable pub put_run : (Addr → Addr) → Contents → List Move → (first n : ℕ) → Contents → Contents
put_run forwarding source ms first zero r = r
put_run forwarding source ms first (suc n) r = region_with_put (put_run forwarding source ms first n r)
    (region_forwarded forwarding (object_of source ms (first + n)))

-- the cells of these objects
unfoldable pub cells_run : Contents → List Move → (first n : ℕ) → ℕ
cells_run source ms first zero = 0
cells_run source ms first (suc n) = cells_run source ms first n + size_of (object_of source ms (first + n))

-- the region is laid out after each of them
abbrev pub AreLaidOut : (Addr → Addr) → Contents → List Move → (first n : ℕ) → Contents → Type 0
AreLaidOut forwarding source ms first n r =
    (j : ℕ) → j < n → IsLaidOut (put_run forwarding source ms first (suc j) r)

-- those up to `end` were put into a region
pub record ArePut (forwarding : Addr → Addr) (source : Contents) (ms : List Move) (first end : ℕ)
    (old new : Contents) : Type 0 where
  pub run : IsRun ms first end
  pub is : new ≡ put_run forwarding source ms first (end - first) old
  pub laid_out : AreLaidOut forwarding source ms first (end - first) old

-- the region with what is kept of it
abbrev pub area_run : (Addr → Addr) → Contents → List Move → (first n : ℕ) → Area → Area
area_run forwarding source ms first n a = record a {
  region = box_with_value a.region (put_run forwarding source ms first n (contents a));
  live = a.live + cells_run source ms first n;
  count = a.count + n;
}

-- each object that goes with the first of them is in its region, there is room for it after those before it,
-- and what it references is kept
pub record MayPutRun (kept : Addr → Bool) (source target : Contents) (ms : List Move) (first : ℕ) : Type 0
  where
    pub within : first < length ms
    pub objects : (k : ℕ) → IsRun ms first (k + 1) → IsObject source (offset_of (move_at ms k).from)
    pub fields : (k : ℕ) → IsRun ms first (k + 1) → MayForward kept (object_of source ms k).fields
    pub room : (k : ℕ) → IsRun ms first (k + 1)
        → target.fill + cells_run source ms first (k - first) + size_of (object_of source ms k) ≤ REGION

-- they are put from one region of a list into another one
pub record ArePutBetween (forwarding : Addr → Addr) (old new : List Area) (source target : ℕ) (ms : List Move)
    (first n cells : ℕ) : Type 0 where
  pub from : Area
  pub before : Area
  pub source_is : from ≡ slice_index_or old source from
  pub target_is : before ≡ slice_index_or old target before
  pub list : new ≡ slice_set old target (area_run forwarding (contents from) ms first n before)
  pub laid_out : AreLaidOut forwarding (contents from) ms first n (contents before)
  pub cells_is : cells ≡ cells_run (contents from) ms first n

-- ---- what the private steps of a heap do

-- a region in use of generation 0 with `cells` cells left
pub record HasRoom (h : Heap) (region cells : ℕ) : Type 0 where
  pub held : is_in_use h region ≡ true
  pub young : region_generation h region ≡ 0
  pub room : (region_at h region).fill + cells ≤ REGION

-- each region of generation 0 is full, except this one; 0 is no region, and then nothing is said
abbrev pub AreOthersFull : Heap → ℕ → Type 0
AreOthersFull h current =
    (r : ℕ) → current ≢ 0 → is_in_use h r ≡ true → region_generation h r ≡ 0 → r ≢ current
    → LEFT ≤ (region_at h r).fill

-- so many cells are left in a region of generation 0, and within the limit where so many are used; nothing is
-- said of 0
abbrev pub HasLeft : Heap → (current used left : ℕ) → Type 0
HasLeft h current used left = left ≢ 0 → (is_in_use h current ≡ true) × (region_generation h current ≡ 0)
    × ((region_at h current).fill + left ≤ REGION)
    × (used + left ≤ h.limit)

-- what is noted of set cards and of registered objects: nothing is said where a flag is true
pub record HasFlags (h : Heap) (carding registering : Bool) : Type 0 where
  pub cards : carding ≡ false → (card : ℕ) → is_set h card ≡ false
  pub registrations : registering ≡ false → (a : Addr) → has_object h a ≡ true
      → (placed_at h a).registered ≡ false

-- there is such a region. It was in use; or all of generation 0 are full, and it is the first free one, or
-- one for which memory was taken
pub record IsRoom (old new : Heap) (region cells : ℕ) : Type 0 where
  pub room : HasRoom new region cells
  pub full : is_in_use old region ≡ false → AreFull old
  pub first : is_in_use old region ≡ false → 0 < length old.free → region ≡ slice_index old.free 0
  pub is : new ≡ record old {
    regions = insert old.regions region (region_at old region);
    free = if is_in_use old region then old.free else drop 1 old.free;
  }

-- an object that a walk returns: any one, or one of a generation above n that starts in a set card
abbrev pub is_wanted : Heap → Wanted → Addr → Bool
is_wanted h Any = has_object h
is_wanted h (Carded n) = is_old_carded h n

-- the same of an offset in a region
abbrev pub wants : Wanted → Area → ℕ → Bool
wants Any a k = contains_key (contents a).objects k
wants (Carded n) a k =
    contains_key (contents a).objects k && nat_lt n a.generation && card_in (Some a) (k / CARD)

-- a generation that is asked for
abbrev pub IsAsked : Wanted → ℕ → Type 0
IsAsked Any generation = ⊤
IsAsked (Carded n) generation = n < generation

-- the least offset of which p holds from an offset on, or None
abbrev pub IsFirstAt : (ℕ → Bool) → ℕ → Option ℕ → Type 0
IsFirstAt p from answer = MatchOption answer
    ((q : ℕ) → from ≤ q → p q ≡ false)
    (λ at. (p at ≡ true) × (from ≤ at) × ((q : ℕ) → from ≤ q → q < at → p q ≡ false))

-- the same from an offset on that may be none
abbrev pub IsFirstSince : (ℕ → Bool) → Option ℕ → Option ℕ → Type 0
IsFirstSince p first answer = MatchOption first (answer ≡ None) (λ at. IsFirstAt p at answer)

-- the least address of which p holds from `low` on; None where there is none, or none below `high`
abbrev pub IsLeastBetween : (Addr → Bool) → ℕ → ℕ → Option Addr → Type 0
IsLeastBetween p low high answer = MatchOption answer
    ((a : Addr) → p a ≡ true → low ≤ a.0 → high ≤ a.0)
    (λ a. (p a ≡ true) × (low ≤ a.0) × ((b : Addr) → p b ≡ true → low ≤ b.0 → a.0 ≤ b.0))

abbrev pub IsLeastFrom : (Addr → Bool) → ℕ → Option Addr → Type 0
IsLeastFrom p low answer = MatchOption answer
    ((a : Addr) → p a ≡ true → a.0 < low)
    (λ a. (p a ≡ true) × (low ≤ a.0) × ((b : Addr) → p b ≡ true → low ≤ b.0 → a.0 ≤ b.0))

-- a region with other contents
abbrev pub with_contents : Area → Contents → Area
with_contents a r = record a { region = box_with_value a.region r }

-- with an object in place of another one of the same size, and with one put after all others
abbrev pub area_written : Area → ℕ → Object → Area
area_written a at o = with_contents a (region_with_object (contents a) at o)

abbrev pub area_put : Area → Object → Area
area_put a o = record (with_contents a (region_with_put (contents a) o)) {
  live = a.live + size_of o;
  count = a.count + 1;
}

-- an object of a region is removed, and its card is clear unless another one begins in it
pub record IsTaken (old new : Area) (at cells : ℕ) : Type 0 where
  pub card : Bool
  pub is : new ≡ record (with_contents old (without_object (contents old) at)) {
    live = old.live - cells;
    count = old.count - 1;
    cards = slice_set old.cards (at / CARD) card;
  }
  pub size : cells ≡ size_of (object_in_region (contents old) at)
  pub begins : card ≡ true → BeginsIn (contents new) (at / CARD)
  pub kept : BeginsIn (contents new) (at / CARD) → card ≡ card_in (Some old) (at / CARD)

-- the object at an address, in its region: both read the same
pub record IsObjectOf (h : Heap) (at : Addr) (a : Area) (offset : ℕ) : Type 0 where
  pub area : IsArea a
  pub offset_is : offset ≡ offset_of at
  pub object : IsObject (contents a) offset
  pub placed : placed_at h at ≡ placed_of (object_in_region (contents a) offset)
  pub fields : fields_at (object_at h) at ≡ map address (object_in_region (contents a) offset).fields
  pub generation : generation_at (object_at h) at ≡ a.generation

-- an object of a heap, and one of a region, after a write
abbrev pub with_part : Placed → Part → Placed
with_part p (Value v) = record p { value = v }
with_part p (Registered on) = record p { registered = on }
with_part p (Field i n) = with_field p i (address n)

-- a reference as it is stored in a field
abbrev pub stored_target : Option Addr → ℕ
stored_target None = 0
stored_target (Some a) = a.0

-- an object of a region with a value, and with the targets at some numbers behind one as its fields
abbrev pub region_filled : (id value : ℕ) → Bool → List (Option Addr) → ℕ → List ℕ → Object
region_filled id value registered targets first src = record {
  identity = id;
  fields = map (λ i. stored_target (slice_index_or targets (first + i) None)) src;
  value = value;
  registered = registered;
}

-- whether it registers the object
abbrev pub registers : Part → Bool
registers (Value v) = false
registers (Registered on) = on
registers (Field i n) = false

abbrev pub region_with_part : Object → Part → Object
region_with_part o (Value v) = with_value o v
region_with_part o (Registered on) = with_registered o on
region_with_part o (Field i n) = region_with_field o i n

-- an object with these fields has the part: a field is one of them
abbrev pub HasPart : {A : Type 0} → List A → Part → Type 0
HasPart fields (Value v) = ⊤
HasPart fields (Registered on) = ⊤
HasPart fields (Field i n) = i < length fields

-- a region is free, without objects and set cards
pub record IsFreed (a : Area) : Type 0 where
  pub held : a.held ≡ false
  pub contents_are : contents a ≡ empty_region
  pub cards : (card : ℕ) → card_in (Some a) card ≡ false
  pub live : a.live ≡ 0
  pub count : a.count ≡ 0

-- a reference to an object of a generation below n
abbrev pub is_below : Heap → Option Addr → ℕ → Bool
is_below h None n = false
is_below h (Some y) n = nat_lt (generation_at (object_at h) y) n
