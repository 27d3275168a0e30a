-- A search over the objects of a heap. The node of an object is the number of its address.
use Rattle.std.specs.Prelude.{◌≡◌, ℕ, true, List}
use Rattle.hd_model.specs.declared.data.Addr.{Addr}
use Rattle.hd_model.specs.Heap.{Heap, has_object, object_at, id_at}
use Rattle.hd_model.specs.Names.{HasClosedFields, NamesObjects}
use Rattle.hd_model.specs.Reach.{IsEdge}
use Rattle.hd_model.specs.Table.{Table, row_at}
use Rattle.hd_root.specs.declared.dependents.Link.{Link}
use Rattle.hd_root.specs.Links.{AreLinks}

-- the edges of a heap and a table, and the identity of an object as a number
abbrev pub EdgeIn : Heap → Table → Addr → Addr → Type 0
EdgeIn h t = IsEdge (object_at h) (row_at t)

abbrev pub number : Heap → Addr → ℕ
number h x = (id_at h x).0

-- the address of a node, and the edges between nodes
abbrev pub address : ℕ → Addr
address x = record { 0 = x }

abbrev pub EdgeBy : Heap → Table → ℕ → ℕ → Type 0
EdgeBy h t x y = EdgeIn h t (address x) (address y)

-- a node is that of an object, of a heap and a table that reference objects alone; the table has these links
pub record IsNode (h : Heap) (t : Table) (links : List Link) (x : ℕ) : Type 0 where
  pub object : has_object h (address x) ≡ true
  pub fields : HasClosedFields (object_at h)
  pub rows : NamesObjects (object_at h) (row_at t)
  pub linked : AreLinks t links

-- any order of targets will do
abbrev pub in_any_order : ℕ → ℕ → Type 0
in_any_order x y = Unit {0}
