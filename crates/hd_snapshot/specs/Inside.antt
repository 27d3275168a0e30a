-- The objects of a heap as they are listed, each by its identity and its address.
use Rattle.std.specs.Prelude.{◌≡◌, ◌≢◌, ℕ, ◌<◌, true, List, map, Contains, AllPairs}
use Rattle.hd_model.specs.{declared.data.Addr.Addr, Scene.IsField}
use Rattle.hd_model.specs.Heap.{Heap, has_object, id_at, object_at, placed_at}
use Rattle.hd_store.specs.Reading.{read_object}
use Rattle.hd_seen.specs.Seen.{ObjectSeen}
use Rattle.hd_snapshot.specs.declared.objects.Located.{Located}

-- each reference of a heap is to an object
abbrev pub IsWholeHeap : Heap → Type 0
IsWholeHeap h = (x y : Addr) → IsField (object_at h) x y → has_object h y ≡ true

-- the number of an object's identity
abbrev pub number_of : Located → ℕ
number_of o = o.id.0

-- all objects of a heap are in the list, each once, and nothing else is
pub record AreLocated (h : Heap) (listed : List Located) : Type 0 where
  pub objects : (o : Located) → Contains listed o → (has_object h o.at ≡ true) × (o.id ≡ id_at h o.at)
  pub all : (a : Addr) → has_object h a ≡ true → Contains listed (record { id = id_at h a; at = a })
  pub once : AllPairs (λ x y. x ≢ y) (map number_of listed)

-- and their identities rise
pub record IsListing (h : Heap) (listed : List Located) : Type 0 where
  pub located : AreLocated h listed
  pub rising : AllPairs (λ x y. x < y) (map number_of listed)

-- an object by its address, as it is seen
abbrev pub shown_at : Heap → Addr → ObjectSeen
shown_at h a =
    record { id = id_at h a; object = read_object h a.0 (placed_at h a); address = a.0 }
