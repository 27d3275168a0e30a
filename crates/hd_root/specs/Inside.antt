-- What private clauses alone cite.
use Rattle.std.specs.Prelude.{◌≡◌, ◌≢◌, ℕ, ◌+◌, ◌<◌, ◌≤◌, ◌⊎◌, ◌++◌, ◌∷◌, [], List, length, slice_get, Option, Some, None, MatchOption, true, Contains, AllPairs, ◌^◌, map, reverse, All}
use Rattle.hd_model.specs.{declared.data.Addr.Addr, State.Handle, State.secondary_of, Table.Table, Table.row_at, Reach.IsAttached, Heap.Heap, Heap.has_object}
use Rattle.hd_walk.specs.{declared.trail.Found.Found, Trail.IsReadBack, Walk.HasEnded}
use Rattle.hd_root.specs.{declared.dependents.Link.Link, Links.Attaches, Search.EdgeBy, Search.IsNode, Search.address, Search.in_any_order, Search.number, declared.anchors.Anchor.Anchor}

-- ---- the rows of dependent handles by their targets: each has the index of the one before it with its target

-- no link from one index up to another has the target x
abbrev pub HasNone : List Link → Addr → ℕ → ℕ → Type 0
HasNone links x low high = (k : ℕ) (l : Link) → low ≤ k → k < high → slice_get links k ≡ Some l → l.target ≢ x

-- the last link below an index that has the target x
pub record IsLastAt (links : List Link) (x : Addr) (high i : ℕ) : Type 0 where
  pub link : Link
  pub is_link : slice_get links i ≡ Some link
  pub below : i < high
  pub target : link.target ≡ x
  pub none : HasNone links x (i + 1) high

abbrev pub IsLast : List Link → Addr → ℕ → Option ℕ → Type 0
IsLast links x high r = MatchOption r (HasNone links x 0 high) (IsLastAt links x high)

-- what is always true of links, of which the last of each target is known
pub record AreChained (links : List Link) (last : ℕ → Option ℕ) : Type 0 where
  pub ends : (x : Addr) → IsLast links x (length links) (last x.0)
  pub befores : (i : ℕ) (l : Link) → slice_get links i ≡ Some l → IsLast links l.target i l.before

-- the links after one was put at their end
pub record IsPut (x y : Addr) (old new : List Link) : Type 0 where
  pub before : Option ℕ
  pub links : new ≡ old ++ record { target = x; secondary = y; before = before } ∷ []

-- the target and the secondary of a row, where it has both
abbrev pub both_of : Option Addr → Option Addr → Option (Addr × Addr)
both_of None y = None
both_of (Some x) None = None
both_of (Some x) (Some y) = Some (x, y)

abbrev pub attached_in : Option (Handle Addr) → Option (Addr × Addr)
attached_in None = None
attached_in (Some h) = both_of h.target (secondary_of h.extra)

-- links that got those of the slots from one number up to another
pub record HasGathered (t : Table) (low high : ℕ) (old new : List Link) : Type 0 where
  pub kept : (x y : Addr) → Attaches old x y → Attaches new x y
  pub only : (x y : Addr) → Attaches new x y → Attaches old x y ⊎ IsAttached (row_at t) x y
  pub all : (slot : ℕ) (x y : Addr) → low ≤ slot → slot < high → attached_in (row_at t slot) ≡ Some (x, y)
      → Attaches new x y

-- ---- a search over the objects of a heap. The node of an object is the number of its address

-- all nodes with a property are listed after others
pub record HasListed (P : ℕ → Type 0) (old new : List ℕ) : Type 0 where
  pub added : List ℕ
  pub extends : new ≡ old ++ added
  pub only : (y : ℕ) → Contains added y → P y
  pub all : (y : ℕ) → P y → Contains added y

-- the node of what a field references, if anything
abbrev pub nodes_in : Option Addr → List ℕ
nodes_in None = []
nodes_in (Some a) = a.0 ∷ []

-- all that is found are objects
abbrev pub AreObjects : Heap → List Found → Type 0
AreObjects h found = (i : ℕ) (x : Found) → slice_get found i ≡ Some x → has_object h (address x.at) ≡ true

-- a walk from what is found ended: the goal is found, or all that edges lead to
pub record WalksTo (h : Heap) (t : Table) (goal : Addr) (old new : List Found) (end : Option ℕ) : Type 0 where
  pub links : List Link
  pub ended : HasEnded (IsNode h t links) (EdgeBy h t) in_any_order (Some goal.0) old 0 new end
  pub objects : AreObjects h new

-- ---- a shortest chain as a list of objects

-- nodes that are addresses, and how many a chain can have
pub record AreFew (nodes : List ℕ) : Type 0 where
  pub few : length nodes < 2 ^ 32
  pub small : All (λ x. x < 2 ^ 32) nodes

-- a chain is what is read back from a found object
pub record IsChainOf (found : List Found) (last : ℕ) (chain : List Addr) : Type 0 where
  pub nodes : List ℕ
  pub are : chain ≡ map address nodes
  pub back : IsReadBack found (Some last) (reverse nodes)

-- ---- the anchors of a search, in rising identity

-- an anchor with its identity
abbrev pub anchor_of : Heap → Addr → Anchor
anchor_of h a = record { id = number h a; at = a }

abbrev pub id_of : Anchor → ℕ
id_of x = x.id

-- the node of an anchor
abbrev pub node_of : Anchor → ℕ
node_of x = x.at.0

-- the nodes of some anchors, in rising identity
pub record AreStarts (h : Heap) (anchors : List Addr) (starts : List ℕ) : Type 0 where
  pub only : (x : ℕ) → Contains starts x → Contains anchors (address x)
  pub all : (x : ℕ) → Contains anchors (address x) → Contains starts x
  pub rising : AllPairs (λ (x y : ℕ). number h (address x) ≤ number h (address y)) starts
