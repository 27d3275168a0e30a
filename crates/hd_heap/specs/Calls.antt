-- What the calls of a heap return, and how they leave it.
use Rattle.std.specs.Prelude.{◌≡◌, ◌≢◌, ℕ, ◌+◌, ◌*◌, ◌/◌, ◌<◌, ◌≤◌, ◌&&◌, ◌++◌, ◌∷◌, Bool, true, false, not, if◌then◌else◌, List, [], map as each, drop, length, replicate, slice_set, slice_index, slice_index_or, sum_by, nat_lt, nat_le, nat_eq, AllPairs, Contains, Option, Some, None, MatchOption, option_map}
use Rattle.std.specs.FinMap as map
use Rattle.std.specs.FinSet as set
use Rattle.hd_model.specs.declared.limits.TheConstants.{REGION, REGIONS, LEFT}
use Rattle.hd_model.specs.declared.data.Id.{Id}
use Rattle.hd_model.specs.declared.data.Addr.{Addr}
use Rattle.hd_model.specs.Scene.{generation_at, IsField}
use Rattle.hd_model.specs.Counting.{Counts}
use Rattle.hd_model.specs.Heap.{Placed, Region, Heap, region_of, card_of, region_at, region_generation, is_in_use, has_object, object_at, placed_at, cells_of, used_of, is_set, is_carded}
use Rattle.hd_heap.specs.declared.area.TheConstants.{CARDS}
use Rattle.hd_heap.specs.declared.condemned.RegionInfo.{RegionInfo}
use Rattle.hd_heap.specs.declared.condemned.ObjectHeader.{ObjectHeader}
use Rattle.hd_heap.specs.declared.condemned.Extent.{Extent}
use Rattle.hd_heap.specs.declared.fault.NewFault.{NewFault}
use Rattle.hd_heap.specs.declared.fault.NewFault.TheVariants.{Full, Memory}

-- a heap without objects, and with no region in use or free
abbrev pub empty_heap : ℕ → Heap
empty_heap limit = record {
  objects = map.empty;
  regions = map.empty;
  free = [];
  limit = limit;
  cards = set.empty;
}

-- a new object: its fields are null and its value is 0
abbrev pub new_object : Id → ℕ → Bool → Placed
new_object id count registered = record {
  id = id;
  fields = replicate count None;
  value = 0;
  registered = registered;
}

-- a new object with a value, and with the targets at some numbers behind one as its fields
abbrev pub filled_object : Id → ℕ → Bool → List (Option Addr) → ℕ → List ℕ → Placed
filled_object id value registered targets first src = record {
  id = id;
  fields = each (λ i. slice_index_or targets (first + i) None) src;
  value = value;
  registered = registered;
}

-- the heap with another object at an address
abbrev pub with_object : Heap → Addr → Placed → Heap
with_object h a o = record h { objects = map.insert h.objects a.0 o }

-- the objects and allocation pointers of a heap with an object put after all others of a region
abbrev pub with_put : Heap → ℕ → ℕ → Placed → Heap
with_put h r generation o = record h {
  objects = map.insert h.objects (r * REGION + (region_at h r).fill) o;
  regions = map.insert h.regions r
      (record { generation = generation; fill = (region_at h r).fill + cells_of o });
}

-- no region of generation 0 has room for one more of the largest objects, which have 64 cells: at least 193
-- of its 256 are taken
abbrev pub AreFull : Heap → Type 0
AreFull h = (r : ℕ) → is_in_use h r ≡ true → region_generation h r ≡ 0 → LEFT ≤ (region_at h r).fill

-- one object more, in a region of generation 0: one that was in use, or, where all those are full, the first
-- free one; with none free, memory is taken for one
pub record IsMade (old new : Heap) (at : Addr) (o : Placed) : Type 0 where
  pub fits : used_of old + cells_of o ≤ old.limit
  pub address : at.0 ≡ region_of at * REGION + (region_at old (region_of at)).fill
  pub was_free : has_object old at ≡ false
  pub young : region_generation old (region_of at) ≡ 0
  pub full : is_in_use old (region_of at) ≡ false → AreFull old
  pub first : is_in_use old (region_of at) ≡ false → 0 < length old.free
      → region_of at ≡ slice_index old.free 0
  pub made : new ≡ record (with_put old (region_of at) 0 o) {
    free = if is_in_use old (region_of at) then old.free else drop 1 old.free;
  }

-- nothing is changed; the heap is full exactly where the limit does not allow `cells` more cells
abbrev pub IsRefused : Heap → Heap → ℕ → NewFault → Type 0
IsRefused old new cells (Full used size) = (new ≡ old) × (used ≡ used_of old) × (size ≡ cells)
    × (old.limit < used_of old + cells)
IsRefused old new cells Memory = (new ≡ old) × (used_of old + cells ≤ old.limit)

-- memory is asked for only where no region is free
abbrev pub LacksFree : Heap → NewFault → Type 0
LacksFree h (Full used size) = Unit {0}
LacksFree h Memory = h.free ≡ []

-- the object with another reference in field i
abbrev pub with_field : Placed → ℕ → Option Addr → Placed
with_field o i v = record o { fields = slice_set o.fields i v }

-- a reference from an object to one of a younger generation
abbrev pub is_younger : Heap → Addr → Option Addr → Bool
is_younger h at None = false
is_younger h at (Some v) = nat_lt (generation_at (object_at h) v) (generation_at (object_at h) at)

-- the write barrier: a field is written, and the card of its object is set where it now references a younger
-- object (as CoreCLR's)
abbrev pub stored : Heap → Addr → ℕ → Option Addr → Heap
stored h at i v = record (with_object h at (with_field (placed_at h at) i v)) {
  cards = if is_younger h at v then set.insert h.cards (card_of at) else h.cards;
}

-- the heap with a card set or clear
abbrev pub with_card : Heap → ℕ → Bool → Heap
with_card h card on = record h { cards = if on then set.insert h.cards card else set.remove h.cards card }

-- an address after another one; each is after none
abbrev pub is_after : Option Addr → Addr → Bool
is_after None a = true
is_after (Some b) a = nat_lt b.0 a.0

-- the least address of which p holds after another one
pub record IsNext (p : Addr → Bool) (after : Option Addr) (a : Addr) : Type 0 where
  pub member : p a ≡ true
  pub beyond : is_after after a ≡ true
  pub least : (b : Addr) → p b ≡ true → is_after after b ≡ true → a.0 ≤ b.0

-- one step of a walk: that address, or None where there is none
abbrev pub IsWalk : (Addr → Bool) → Option Addr → Option Addr → Type 0
IsWalk p after answer = MatchOption answer ((a : Addr) → p a ≡ true → is_after after a ≡ false)
    (λ a. IsNext p after a)

-- an object of a generation above n that starts in a set card
abbrev pub is_old_carded : Heap → ℕ → Addr → Bool
is_old_carded h n a = has_object h a && nat_lt n (generation_at (object_at h) a) && is_carded h a

-- a condemned object: of generation n or a younger one
abbrev pub is_condemned : Heap → ℕ → Addr → Bool
is_condemned h n a = has_object h a && nat_le (generation_at (object_at h) a) n

-- a free region is taken into use, without objects
abbrev pub with_fresh : Heap → ℕ → ℕ → Heap
with_fresh h r generation = record h {
  regions = map.insert h.regions r (record { generation = generation; fill = 0 });
  free = drop 1 h.free;
}

-- an object is in the heap a second time, after all others of a region
abbrev pub with_copy : Heap → Addr → ℕ → Heap
with_copy h from r = with_put h r (region_generation h r) (placed_at h from)

-- the object is removed, and its card is clear unless another object starts in it
pub record IsRemoved (old new : Heap) (at : Addr) : Type 0 where
  pub removed : new ≡ record old { objects = map.remove old.objects at.0; cards = new.cards }
  pub others : (c : ℕ) → c ≢ card_of at → is_set new c ≡ is_set old c
  pub shared : (b : Addr) → has_object new b ≡ true → card_of b ≡ card_of at
      → is_carded new at ≡ is_carded old at
  pub last : ((b : Addr) → has_object new b ≡ true → card_of b ≢ card_of at) → is_carded new at ≡ false

-- the heap with another generation of a region
abbrev pub with_generation : Heap → ℕ → ℕ → Heap
with_generation h r generation = record h {
  regions = map.insert h.regions r (record { generation = generation; fill = (region_at h r).fill });
}

-- a region is given up with its objects and its set cards, and becomes the last free one
abbrev pub without_region : Heap → ℕ → Heap
without_region h r = record h {
  objects = map.retain_keys h.objects (λ a. not (nat_eq (a / REGION) r));
  regions = map.remove h.regions r;
  free = h.free ++ r ∷ [];
  cards = set.retain h.cards (λ c. not (nat_eq (c / CARDS) r));
}

-- an object whose fields hold forwarding addresses
abbrev pub forwarded : (Addr → Addr) → Placed → Placed
forwarded forwarding o = record o { fields = each (option_map forwarding) o.fields }

-- an object is in the heap a second time, after all others of a region; the fields of the copy hold
-- forwarding addresses
abbrev pub with_moved : Heap → Addr → ℕ → (Addr → Addr) → Heap
with_moved h from r forwarding =
    with_put h r (region_generation h r) (forwarded forwarding (placed_at h from))

-- a field of an object references one of a generation below n
pub record NamesBelow (h : Heap) (at : Addr) (n : ℕ) : Type 0 where
  pub target : Addr
  pub field : IsField (object_at h) at target
  pub younger : generation_at (object_at h) target < n

-- an object of no generation above n is in this region
abbrev pub HasCondemned : Heap → ℕ → ℕ → Type 0
HasCondemned h n r = (a : Addr) × ((is_condemned h n a ≡ true) × (region_of a ≡ r))

-- the objects of a property: how many they are, and the cells that they take together
pub record HasAmount (h : Heap) (P : Addr → Type 0) (objects cells : ℕ) : Type 0 where
  pub members : List Addr
  pub apart : AllPairs (λ x y. x ≢ y) members
  pub each : (a : Addr) → Contains members a → P a
  pub all : (a : Addr) → P a → Contains members a
  pub number : length members ≡ objects
  pub sum : sum_by (λ a. cells_of (placed_at h a)) members ≡ cells

-- how many objects are condemned and the cells that they take together, the number of their regions, and a
-- number above that of each region with objects
pub record IsExtent (h : Heap) (n : ℕ) (e : Extent) : Type 0 where
  pub objects : HasAmount h (λ a. is_condemned h n a ≡ true) e.objects e.cells
  pub regions : Counts (HasCondemned h n) e.regions
  pub above : (a : Addr) → has_object h a ≡ true → region_of a < e.end
  pub small : e.end ≤ REGIONS

-- the first region past a number that has a condemned object, or None where there is none
pub record IsNextRegion (h : Heap) (n after r : ℕ) : Type 0 where
  pub at : Addr
  pub member : is_condemned h n at ≡ true
  pub region : region_of at ≡ r
  pub beyond : after < r
  pub least : (a : Addr) → is_condemned h n a ≡ true → after < region_of a → r ≤ region_of a

abbrev pub IsRegionWalk : Heap → (n after : ℕ) → Option ℕ → Type 0
IsRegionWalk h n after answer =
    MatchOption answer ((a : Addr) → is_condemned h n a ≡ true → region_of a ≤ after)
    (λ r. IsNextRegion h n after r)

-- the first object of a region from an offset on, as its header says, or None where there is none
pub record IsFirstObject (h : Heap) (r from : ℕ) (o : ObjectHeader) : Type 0 where
  pub object : has_object h o.at ≡ true
  pub region : region_of o.at ≡ r
  pub beyond : r * REGION + from ≤ o.at.0
  pub least : (a : Addr) → has_object h a ≡ true → r * REGION + from ≤ a.0 → o.at.0 ≤ a.0
  pub fields : o.fields ≡ length (placed_at h o.at).fields
  pub registered : o.registered ≡ (placed_at h o.at).registered

abbrev pub IsFirstIn : Heap → (r from : ℕ) → Option ObjectHeader → Type 0
IsFirstIn h r from answer =
    MatchOption answer ((a : Addr) → has_object h a ≡ true → region_of a ≡ r → a.0 < r * REGION + from)
    (λ o. IsFirstObject h r from o)

-- a region in use, as it is reported
abbrev pub region_reported : RegionInfo → Region
region_reported r = record { generation = r.generation; fill = r.fill }
