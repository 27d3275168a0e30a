-- The objects of a snapshot as a graph. An object stands for the number of its identity.
use Rattle.std.specs.Prelude.{◌≡◌, ℕ, ◌<◌, ◌≤◌, ◌⊎◌, List, [], ◌∷◌, ◌++◌, length, map, flat_map, nat_eq, slice_get, Option, Some, None, IsSome, AllPairs, Contains}
use Rattle.std.specs.HashMap.{get}
use Rattle.std.specs.Option.{option_and_then}
use Rattle.std.specs.List.Sorted.{IsNonDecreasingBy}
use Rattle.hd_model.specs.declared.data.Id.{Id}
use Rattle.hd_seen.specs.declared.SeenObject.{SeenObject}
use Rattle.hd_seen.specs.declared.Snapshot.{Snapshot}
use Rattle.hd_links.specs.Links.{LinksTo, links_in}
use Rattle.hd_links.specs.Sources.{AreAttaching, source_number}
use Rattle.hd_links.specs.declared.graph.Graph.{Graph}
use Rattle.hd_links.specs.declared.links.Link.{Link}

-- the identity of a number
abbrev pub named : ℕ → Id
named x = record { 0 = x }

-- the numbers of the identities of objects; and numbers of which each is below all later ones
abbrev pub ids_of : Snapshot → List ℕ
ids_of s = map (λ (o : SeenObject). o.id.0) s.objects.items

abbrev pub Rises : List ℕ → Type 0
Rises ids = AllPairs (λ x y. x < y) ids

-- ---- what leads on in a snapshot

-- a field of an object references another
pub record FieldLeads (objects : List SeenObject) (x y : ℕ) : Type 0 where
  pub object : SeenObject
  pub among : Contains objects object
  pub is : object.id.0 ≡ x
  pub field : Contains object.fields.items (Some (named y))

-- a link attaches another to it
pub record LinkLeads (links : List Link) (x y : ℕ) : Type 0 where
  pub link : Link
  pub among : Contains links link
  pub leads : LinksTo link (named x) (Some (named y))

-- one of these does
abbrev pub LeadsOn : Snapshot → ℕ → ℕ → Type 0
LeadsOn s x y = FieldLeads s.objects.items x y ⊎ LinkLeads (links_in s.handles.items s.entries.items) x y

-- the anchors of a snapshot: what statics reference, what is queued, and what links hold
abbrev pub numbers_of : Option Id → List ℕ
numbers_of None = []
numbers_of (Some x) = x.0 ∷ []

abbrev pub queued_numbers : Id → List ℕ
queued_numbers x = x.0 ∷ []

abbrev pub held_numbers : Link → List ℕ
held_numbers l = numbers_of l.held

abbrev pub anchors_in : List (Option Id) → List Id → List Link → List ℕ
anchors_in statics queue links =
    flat_map numbers_of statics ++ flat_map queued_numbers queue ++ flat_map held_numbers links

abbrev pub anchors_of : Snapshot → List ℕ
anchors_of s = anchors_in s.statics s.queue.items (links_in s.handles.items s.entries.items)

-- ---- the same looked up

-- a look-up finds the index of each of the first objects by its identity
pub record AreIndexes (objects : List SeenObject) (look : ℕ → Option ℕ) (high : ℕ) : Type 0 where
  pub found : (q k : ℕ) → look q ≡ Some k
      → (o : SeenObject) × (slice_get objects k ≡ Some o) × (o.id.0 ≡ q)
  pub all : (k : ℕ) (o : SeenObject) → k < high → slice_get objects k ≡ Some o → IsSome (look o.id.0)

-- the object with an identity, and its fields
abbrev pub object_at : Graph → ℕ → Option SeenObject
object_at g x = option_and_then (λ k. slice_get g.objects.now k) (get nat_eq g.indexes x)

abbrev pub fields_in : Option SeenObject → List (Option Id)
fields_in None = []
fields_in (Some o) = o.fields.items

abbrev pub fields_at : Graph → ℕ → List (Option Id)
fields_at g x = fields_in (object_at g x)

-- the graph of a snapshot
pub record IsGraphOf (seen : Snapshot) (g : Graph) : Type 0 where
  pub objects : g.objects.now ≡ seen.objects.items
  pub indexes : AreIndexes seen.objects.items (get nat_eq g.indexes) (length seen.objects.items)
  pub links : g.links.items ≡ links_in seen.handles.items seen.entries.items
  pub attaching : AreAttaching (links_in seen.handles.items seen.entries.items) g.attaching.items

-- what leads on in a graph
abbrev pub leads_in : Graph → ℕ → ℕ → Type 0
leads_in g x y = Contains (fields_at g x) (Some (named y)) ⊎ LinkLeads g.attaching.items x y

-- each number is a node of a graph whose links are in order
abbrev pub IsNode : Graph → ℕ → Type 0
IsNode g x = IsNonDecreasingBy source_number g.attaching.items

-- in which order targets come
abbrev pub in_order : ℕ → ℕ → Type 0
in_order x y = x ≤ y

abbrev pub itself : ℕ → ℕ
itself x = x
