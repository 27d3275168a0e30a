-- What private clauses alone cite.
use Rattle.std.specs.Prelude.{◌≡◌, ℕ, ◌<◌, ◌≤◌, ◌&&◌, nat_le, Bool, true, false, if◌then◌else◌, List, slice_index_or, Contains, Option, Some, None, ◌++◌, ◌/◌, ◌%◌, ◌^◌, ◌⊎◌, [], ◌∷◌, codes, decimal, length, reverse, slice_index, AllPairs}
use Rattle.std.specs.List.Sorted.{IsPermutation}
use Rattle.hd_model.specs.{declared.data.Id.Id, State.State}
use Rattle.hd_links.specs.{Links.LinksTo, Links.is_at, declared.links.Link.Link, declared.graph.Graph.Graph}
use Rattle.hd_seen.specs.declared.Snapshot.{Snapshot}
use Rattle.hd_walk.specs.{declared.trail.Found.Found, Trail.IsReadBack, Trail.with_all, Walk.HasEnded}
use Rattle.hd_links.specs.Graph.{IsGraphOf, IsNode, anchors_of, fields_at, in_order, leads_in, named}
use Rattle.hd_path.specs.{declared.names.Anchor.Anchor, declared.names.Edge.Edge, Paths.IsPathText, Chains.HasNoChain, Chains.IsLeastChain, declared.chains.Chain.Chain, declared.chains.Search.Search}
use Rattle.hd_path.specs.Lines.{AreLines, anchor_line, edge_line, path_line}
use Rattle.hd_path.specs.declared.names.Anchor.TheVariants as anchor
use Rattle.hd_path.specs.declared.names.Edge.TheVariants as edge

-- such a text is appended
abbrev pub WritesPath : State → Id → List ℕ → List ℕ → Type 0
WritesPath s x old new = (made : List ℕ) × (new ≡ old ++ made) × IsPathText s x made

-- ---- what makes an object an anchor, and by what it leads to another, among the fields, statics and links that
-- are seen.

-- a field or static that references an object, and the first of them
abbrev pub IsAt : List (Option Id) → Id → ℕ → Type 0
IsAt offsets x k = slice_index_or offsets k None ≡ Some x

abbrev pub NoIndex : List (Option Id) → Id → Type 0
NoIndex offsets x = (k : ℕ) → IsAt offsets x k → ⊥

pub record IsFirstIndex (offsets : List (Option Id)) (x : Id) (k : ℕ) : Type 0 where
  pub at : IsAt offsets x k
  pub first : (j : ℕ) → j < k → IsAt offsets x j → ⊥

-- no link does it
abbrev pub LinksToNone : List Link → Id → Option Id → Type 0
LinksToNone links x to = (l : Link) → Contains links l → LinksTo l x to → ⊥

-- the one of least slot
pub record IsLeastLink (links : List Link) (x : Id) (to : Option Id) (l : Link) : Type 0 where
  pub among : Contains links l
  pub links_to : LinksTo l x to
  pub least : (m : Link) → Contains links m → LinksTo m x to → l.slot.0 ≤ m.slot.0

-- what makes an object an anchor: the least static, where there is none the least slot, and else the queue
abbrev pub AnchorIn : List (Option Id) → List Link → Id → Anchor → Type 0
AnchorIn statics links x (anchor.Static k) = IsFirstIndex statics x k
AnchorIn statics links x (anchor.Handle slot kind) =
    NoIndex statics x × ((l : Link) × IsLeastLink links x None l × (slot ≡ l.slot) × (kind ≡ l.kind))
AnchorIn statics links x anchor.Queue = NoIndex statics x × LinksToNone links x None

-- by what an object leads to another: the least field, and where there is none the least slot
abbrev pub EdgeIn : List (Option Id) → List Link → Id → Id → Edge → Type 0
EdgeIn fields links x y (edge.Field i) = IsFirstIndex fields y i
EdgeIn fields links x y (edge.Dependent slot) =
    NoIndex fields y × ((l : Link) × IsLeastLink links x (Some y) l × (l.is_entry ≡ false) × (slot ≡ l.slot))
EdgeIn fields links x y (edge.Entry slot) =
    NoIndex fields y × ((l : Link) × IsLeastLink links x (Some y) l × (l.is_entry ≡ true) × (slot ≡ l.slot))

-- the least link of a list, if there is one
abbrev pub LeastOf : List Link → Id → Option Id → Option Link → Type 0
LeastOf links x to None = LinksToNone links x to
LeastOf links x to (Some l) = IsLeastLink links x to l

-- the edge of a link
abbrev pub link_edge : Link → Edge
link_edge l = if l.is_entry then edge.Entry l.slot else edge.Dependent l.slot

-- ---- the same as tests

abbrev pub links_to : Link → Id → Option Id → Bool
links_to l x None = is_at l.held x
links_to l x (Some y) = is_at l.source x && is_at l.attached y

-- of two links that do that, the one of lower slot
abbrev pub lowest : Option Link → Link → Link
lowest None l = l
lowest (Some m) l = if nat_le m.slot.0 l.slot.0 then m else l

abbrev pub lower_link : Option Link → Link → Id → Option Id → Option Link
lower_link before l x to = if links_to l x to then Some (lowest before l) else before

-- ---- what is looked up of a snapshot, what is found in it, and what is written of its objects

-- all is found that edges lead to from the starts, which rise
pub record IsSound (search : Search) : Type 0 where
  pub ordered : AllPairs in_order search.starts.items
  pub end : Option ℕ
  pub ended : HasEnded (IsNode search.graph) (leads_in search.graph) in_order None
      (with_all [] search.starts.items None) 0 search.trail end

-- the graph of a snapshot, and what is found from its anchors
pub record IsSearchOf (seen : Snapshot) (search : Search) : Type 0 where
  pub graph : IsGraphOf seen search.graph
  pub starts : IsPermutation (anchors_of seen) search.starts.items
  pub sound : IsSound search

-- a chain is what is read back from a found object
abbrev pub IsChainOf : List Found → ℕ → Chain → Type 0
IsChainOf found last c = IsReadBack found (Some last) (reverse (c.first ∷ c.rest.items))

-- what is found: the least of the shortest chains, or that there is none
abbrev pub IsFoundChain : (ℕ → ℕ → Type 0) → (ℕ → Type 0) → ℕ → Option Chain → Type 0
IsFoundChain Leads Starts goal None = HasNoChain Leads Starts goal
IsFoundChain Leads Starts goal (Some c) = IsLeastChain Leads Starts goal c.first c.rest.items

-- whether these last serials have an identity
abbrev pub made_in : List ℕ → Id → Bool
made_in serials x = nat_le 1 (x.0 % 2 ^ 32) && nat_le (x.0 % 2 ^ 32) (slice_index serials (x.0 / 2 ^ 32))

abbrev pub missing_word : Bool → List ℕ
missing_word true = codes "gone"
missing_word false = codes "unknown"

-- the line of an edge between two objects, or nothing where there is no edge
abbrev pub IsStepLine : Graph → ℕ → ℕ → List ℕ → Type 0
IsStepLine g x y line =
    (NoIndex (fields_at g x) (named y) × LinksToNone g.attaching.items (named x) (Some (named y)))
    ⊎ ((e : Edge) × EdgeIn (fields_at g x) g.attaching.items (named x) (named y) e
    × (line ≡ edge_line (named x) e (named y)))

abbrev pub WritesEdge : Graph → ℕ → ℕ → List ℕ → List ℕ → Type 0
WritesEdge g x y old new = (line : List ℕ) × (new ≡ old ++ line) × IsStepLine g x y line

abbrev pub WritesEdges : Graph → ℕ → List ℕ → List ℕ → List ℕ → Type 0
WritesEdges g first rest old new =
    (lines : List ℕ) × (new ≡ old ++ lines) × AreLines (IsStepLine g) first rest lines

-- a chain is written: its length, what makes its first object an anchor, and its edges
pub record WritesChain (seen : Snapshot) (g : Graph) (id : Id) (chain : Chain) (old new : List ℕ) : Type 0 where
  pub name : Anchor
  pub lines : List ℕ
  pub is_name : AnchorIn seen.statics g.links.items (named chain.first) name
  pub are_lines : AreLines (IsStepLine g) chain.first chain.rest.items lines
  pub writes : new ≡ old ++ (path_line id (codes "edges " ++ decimal (length chain.rest.items))
      ++ anchor_line name (named chain.first) ++ lines)
