-- What `graph` writes of a state, in DOT: a node for each object, handle, entry and root, and an edge for
-- each
-- reference.
use Rattle.std.specs.Prelude.{ℕ, ◌/◌, Bool, cond, not, List, [], ◌++◌, flat_map, codes, decimal, Option, Some, None, is_some}
use Rattle.std.specs.List.{enumerate_from}
use Rattle.hd_model.specs.declared.data.Id.{Id}
use Rattle.hd_model.specs.declared.data.Slot.{Slot}
use Rattle.hd_model.specs.declared.limits.TheConstants.{REGION}
use Rattle.hd_model.specs.CommandText.{kind_name}
use Rattle.hd_model.specs.State.{secondary_of}
use Rattle.hd_model.specs.Text.{identity_text}
use Rattle.hd_seen.specs.Seen.{Picture, ObjectSeen}
use Rattle.hd_seen.specs.declared.SeenEntry.{SeenEntry}
use Rattle.hd_seen.specs.declared.SeenHandle.{SeenHandle}
use Rattle.hd_seen.specs.declared.SeenRegion.{SeenRegion}
use Rattle.hd_links.specs.Links.{extra_again}
use Rattle.hd_graph.specs.Marks.{cells_of, is_pinned, role_seen, style_of}
use Rattle.hd_graph.specs.declared.dot.Node.{Node}
use Rattle.hd_graph.specs.declared.dot.Node.TheVariants as node
use Rattle.hd_graph.specs.declared.dot.Reason.{Reason}
use Rattle.hd_graph.specs.declared.dot.Reason.TheVariants as why
use Rattle.hd_graph.specs.declared.dot.Style.{Style}
use Rattle.hd_graph.specs.declared.dot.Style.TheVariants as style
use Rattle.hd_graph.specs.declared.Clusters.{Clusters}
use Rattle.hd_graph.specs.declared.Clusters.TheVariants as by

-- ---- edges

-- the name of a node
abbrev pub node_name : Node → List ℕ
node_name (node.Object x) = codes "\"" ++ identity_text x ++ codes "\""
node_name (node.Slot s) = codes "\"slot " ++ decimal s.0 ++ codes "\""
node_name (node.Static k) = codes "\"static " ++ decimal k ++ codes "\""
node_name (node.Queued i) = codes "\"queue " ++ decimal i ++ codes "\""
node_name (node.Register c d) = codes "\"" ++ decimal c ++ codes " r" ++ decimal d ++ codes "\""

-- the word for the look of a line from a handle to its target
abbrev pub style_word : Style → List ℕ
style_word style.Solid = codes "solid"
style_word style.Dashed = codes "dashed"
style_word style.Dotted = codes "dotted"

-- how an edge looks, by what makes it one: a field with its number, a handle's target, or what a dependent
-- handle or an entry in a slot attaches
abbrev pub look_text : Reason → List ℕ
look_text (why.Field i) = codes " [label=\"" ++ decimal i ++ codes "\"]"
look_text (why.Target s) = codes " [style=" ++ style_word s ++ codes "]"
look_text (why.Dependent s) = codes " [style=dotted label=\"dep " ++ decimal s.0 ++ codes "\"]"
look_text (why.Entry s) = codes " [style=dotted label=\"entry " ++ decimal s.0 ++ codes "\"]"
look_text why.Root = []

-- an edge, and one to what may be null
abbrev pub edge_text : Node → Reason → Id → List ℕ
edge_text from reason to =
    codes "  " ++ node_name from ++ codes " -> " ++ node_name (node.Object to) ++ look_text reason ++ codes
    ";\n"

abbrev pub edge_to : Node → Reason → Option Id → List ℕ
edge_to from reason None = []
edge_to from reason (Some x) = edge_text from reason x

-- from what attaches something, to that
abbrev pub attached_edge : Reason → Option Id → Option Id → List ℕ
attached_edge reason None to = []
attached_edge reason (Some x) to = edge_to (node.Object x) reason to

-- ---- objects

-- the cluster of an object, if it has one
abbrev pub cluster_begin : Clusters → ObjectSeen → List ℕ
cluster_begin by.Nothing o = codes "  "
cluster_begin by.Generation o = codes "  subgraph cluster_" ++ decimal o.object.generation ++ codes " { "
cluster_begin by.Region o = codes "  subgraph cluster_" ++ decimal (o.address / REGION) ++ codes " { "

abbrev pub cluster_end : Clusters → List ℕ
cluster_end by.Nothing = codes "\n"
cluster_end by.Generation = codes " }\n"
cluster_end by.Region = codes " }\n"

-- its identity, its generation, its cells, and whether it is pinned
abbrev pub label_text : Bool → ObjectSeen → List ℕ
label_text pinned o =
    identity_text o.id ++ (codes "\\ngeneration " ++ decimal o.object.generation)
    ++ (codes "\\ncells " ++ decimal (cells_of o)) ++ cond pinned (codes "\\npinned") []

-- its node, which is grey where it is not kept
abbrev pub object_node : Bool → Bool → ObjectSeen → List ℕ
object_node pinned kept o =
    node_name (node.Object o.id) ++ codes " [label=\"" ++ label_text pinned o ++ codes "\""
    ++ cond (not kept) (codes " color=grey fontcolor=grey") [] ++ codes "];"

-- its fields that reference objects
abbrev pub field_edge : Id → ℕ × Option Id → List ℕ
field_edge x f = edge_to (node.Object x) (why.Field f.0) f.1

abbrev pub fields_text : ObjectSeen → List ℕ
fields_text o = flat_map (field_edge o.id) (enumerate_from 0 o.object.fields)

-- all of it
abbrev pub object_text : Clusters → Bool → Bool → ObjectSeen → List ℕ
object_text clusters pinned kept o =
    cluster_begin clusters o ++ object_node pinned kept o ++ cluster_end clusters ++ fields_text o

-- all objects, where a test of identities says which are kept
abbrev pub objects_text : Clusters → Picture → (ℕ → Bool) → List ℕ
objects_text clusters p kept =
    flat_map (λ (o : ObjectSeen). object_text clusters (is_pinned p o.id.0) (kept o.id.0) o) p.objects

-- the clusters with their labels
abbrev pub generation_label : ℕ → List ℕ
generation_label g =
    codes "  subgraph cluster_" ++ decimal g ++ codes " { label=\"generation " ++ decimal g
    ++ codes "\"; }\n"

abbrev pub region_label : SeenRegion → List ℕ
region_label r =
    codes "  subgraph cluster_" ++ decimal r.number ++ codes " { label=\"region " ++ decimal r.number
    ++ codes ", generation " ++ decimal r.generation ++ codes "\"; }\n"

abbrev pub labels_text : Clusters → List SeenRegion → List ℕ
labels_text by.Nothing regions = []
labels_text by.Generation regions = generation_label 0 ++ generation_label 1 ++ generation_label 2
labels_text by.Region regions = flat_map region_label regions

-- ---- handles, entries and roots

-- a slot with a word
abbrev pub slot_label : Slot → List ℕ → List ℕ
slot_label s word =
    codes " [shape=ellipse label=\"" ++ decimal s.0 ++ codes " " ++ word ++ codes "\"];\n"

abbrev pub slot_text : Slot → List ℕ → List ℕ
slot_text s word = codes "  " ++ node_name (node.Slot s) ++ slot_label s word

-- a handle by its kind, with its target, and what it attaches to that
abbrev pub handle_text : SeenHandle → List ℕ
handle_text h =
    slot_text h.slot (kind_name h.kind)
    ++ edge_to (node.Slot h.slot) (why.Target (style_of (role_seen h))) h.target
    ++ attached_edge (why.Dependent h.slot) h.target (secondary_of (extra_again h.extra))

-- a slot of the weak table: idle, or an entry with its key, and its value
abbrev pub entry_text : SeenEntry → List ℕ
entry_text e =
    slot_text e.slot (cond (is_some e.key) (codes "entry") (codes "idle"))
    ++ edge_to (node.Slot e.slot) (why.Target style.Dotted) e.key
    ++ attached_edge (why.Entry e.slot) e.key e.value

-- a static, a position in the queue or a register that references an object
abbrev pub root_text : Node → Option Id → List ℕ
root_text n None = []
root_text n (Some x) = codes "  " ++ node_name n ++ codes " [shape=plaintext];\n" ++ edge_text n why.Root x

abbrev pub static_text : ℕ × Option Id → List ℕ
static_text r = root_text (node.Static r.0) r.1

abbrev pub queue_text : ℕ × Id → List ℕ
queue_text r = root_text (node.Queued r.0) (Some r.1)

abbrev pub register_text : ℕ → ℕ × Option Id → List ℕ
register_text c r = root_text (node.Register c r.0) r.1

abbrev pub registers_text : ℕ × List (Option Id) → List ℕ
registers_text r = flat_map (register_text r.0) (enumerate_from 0 r.1)

-- ---- the whole text

abbrev pub graph_head : List ℕ
graph_head = codes "digraph heap {\n  rankdir=LR;\n  node [shape=box];\n"

abbrev pub roots_text : Picture → List ℕ
roots_text p =
    flat_map static_text (enumerate_from 0 p.statics) ++ flat_map queue_text (enumerate_from 1 p.queue)
    ++ flat_map registers_text (enumerate_from 0 p.registers)

abbrev pub graph_text : Clusters → Picture → (ℕ → Bool) → List ℕ
graph_text clusters p kept =
    graph_head ++ labels_text clusters p.regions ++ objects_text clusters p kept ++ flat_map handle_text
    p.handles ++ flat_map entry_text p.entries ++ roots_text p ++ codes "}\n"
