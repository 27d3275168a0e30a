-- A heap as its users see it: objects by address, in regions that have generations. Regions and cards are
-- this project's own.
use Rattle.std.specs.Prelude.{◌≡◌, ℕ, ◌+◌, ◌/◌, ◌%◌, Bool, false, List, [], length, sum_by, Option, Some, None, unwrap_or, option_map}
use Rattle.std.specs.FinMap.{FinMap, get, values, contains_key}
use Rattle.std.specs.FinSet as set
use Rattle.std.specs.Ordering.{nat_cmp}
use Rattle.hd_model.specs.Data.{Id, Addr}
use Rattle.hd_model.specs.declared.limits.TheConstants.{HEADER, REGION, CARD}
use Rattle.hd_model.specs.State.{Object}
use Rattle.hd_model.specs.Scene.{Objects, is_object}

-- an object as stored at an address: the identity in its header, its fields, each an address or null, its
-- value, and whether it is registered for finalization. Its generation is that of its region.
pub record Placed : Type 0 where
  pub id : Id
  pub fields : List (Option Addr)
  pub value : ℕ
  pub registered : Bool

-- a region in use: its generation, and its allocation pointer: the offset of the first cell after its last
-- object
pub record Region : Type 0 where
  pub generation : ℕ
  pub fill : ℕ

-- the objects by address, the regions in use by number, the numbers of the free regions in the order in which
-- they will be taken, the limit of the sizes of all objects in cells, and the set cards by number
pub record Heap : Type 0 where
  pub objects : FinMap nat_cmp Placed
  pub regions : FinMap nat_cmp Region
  pub free : List ℕ
  pub limit : ℕ
  pub cards : set.FinSet nat_cmp

-- the region of an address, the offset of an address in its region, and the card of an address
unfoldable pub region_of : Addr → ℕ
region_of a = a.0 / REGION

abbrev pub offset_of : Addr → ℕ
offset_of a = a.0 % REGION

unfoldable pub card_of : Addr → ℕ
card_of a = a.0 / CARD

-- whether a region is in use, and the region; a free one is read as an empty one of generation 0
abbrev pub is_in_use : Heap → ℕ → Bool
is_in_use h r = contains_key h.regions r

abbrev pub region_at : Heap → ℕ → Region
region_at h r = unwrap_or (get h.regions r) (record { generation = 0; fill = 0 })

-- the generation of a region
abbrev pub region_generation : Heap → ℕ → ℕ
region_generation h r = (region_at h r).generation

-- an object with its generation
abbrev pub object_in : ℕ → Placed → Object Addr
object_in generation p =
    record { fields = p.fields; value = p.value; generation = generation; registered = p.registered }

-- the object at an address, if there is one
abbrev pub object_at : Heap → Objects Addr
object_at h a = option_map (object_in (region_generation h (region_of a))) (get h.objects a.0)

-- whether there is an object at an address
abbrev pub has_object : Heap → Addr → Bool
has_object h a = is_object (object_at h) a

-- the stored object at an address
abbrev pub placed_at : Heap → Addr → Placed
placed_at h a = unwrap_or (get h.objects a.0)
    (record { id = record { 0 = 0 }; fields = []; value = 0; registered = false })

-- the identity in the header of the object at an address, 0 where there is none
abbrev pub id_in : Option Placed → Id
id_in None = record { 0 = 0 }
id_in (Some p) = p.id

abbrev pub id_at : Heap → Addr → Id
id_at h a = id_in (get h.objects a.0)

-- whether a card is set, by its number, and whether that of an address is
abbrev pub is_set : Heap → ℕ → Bool
is_set h card = set.contains h.cards card

abbrev pub is_carded : Heap → Addr → Bool
is_carded h a = is_set h (card_of a)

-- the cells of an object: three more than its fields
abbrev pub cells_of : Placed → ℕ
cells_of p = length p.fields + HEADER

-- the cells of all objects together
abbrev pub used_of : Heap → ℕ
used_of h = sum_by cells_of (values h.objects)

-- no two objects have one identity
abbrev pub HasIdentities : Heap → Type 0
HasIdentities h = (a b : ℕ) (p q : Placed) → get h.objects a ≡ Some p → get h.objects b ≡ Some q → p.id ≡ q.id
    → a ≡ b

-- a heap that is collected, and the condemned generation
pub record Basis : Type 0 where
  pub heap : Heap
  pub condemned : ℕ

-- the objects of a basis
abbrev pub objects_of : Basis → Objects Addr
objects_of g = object_at g.heap
