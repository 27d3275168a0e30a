-- The names of anchors and edges that are found, as names in the state.
use Rattle.std.proofs.Common.{Contains, List, None, Option, Some, [], ap, arith, false, is_some, refl, slice_index_or, subst, sym, unwrap_or, ℕ, ⊎_elim, ◌<◌, ◌∙◌, ◌≡◌}
use Rattle.std.specs.FinMap.{get}
use Rattle.hd_model.proofs.WholeScenes.{at_named}
use Rattle.hd_model.specs.Anchors.{AnchorOf, EdgeOf, by_handle, in_queue, in_static}
use Rattle.hd_model.specs.declared.data.Id.{Id}
use Rattle.hd_model.specs.declared.data.Kind.{Kind}
use Rattle.hd_model.specs.declared.data.Slot.{Slot}
use Rattle.hd_model.specs.State.{Object, State, field_of, object_by_id, static_of}
use Rattle.hd_seen.specs.Seen.{Picture, view_seen}
use Rattle.hd_seen.specs.declared.SeenObject.{SeenObject}
use Rattle.hd_seen.specs.declared.Snapshot.{Snapshot}
use Rattle.hd_links.specs.Graph.{IsGraphOf, LinkLeads, fields_at, fields_in, named, object_at}
use Rattle.hd_links.specs.Links.{links_in}
use Rattle.hd_links.specs.Shown.{AttachesIn, HoldsIn, IsPictureOf}
use Rattle.hd_links.specs.declared.graph.Graph.{Graph}
use Rattle.hd_links.specs.declared.links.Link.{Link}
use Rattle.hd_links.proofs.ObjectIndexes.{object_from}
use Rattle.hd_links.proofs.SeenStates.{attached_in_row, held_in_row, object_of, row_is_attached, row_is_held}
use Rattle.hd_links.proofs.StateEdges.{edge_graph, object_none}
use Rattle.hd_path.specs.Lines.{edge_line}
use Rattle.hd_path.specs.Inside.{AnchorIn, EdgeIn, IsLeastLink, LinksToNone, NoIndex}
use Rattle.hd_path.specs.Paths.{IsAnchorName, IsEdgeLine, IsEdgeName, LeadsBy, by_dependent, by_entry, by_field, by_handle as by_slot, by_queue, by_static}
use Rattle.hd_path.specs.Inside.{IsStepLine}
use Rattle.hd_path.specs.declared.names.Anchor.{Anchor}
use Rattle.hd_path.specs.declared.names.Anchor.TheVariants as anchor
use Rattle.hd_path.specs.declared.names.Edge.{Edge}
use Rattle.hd_path.specs.declared.names.Edge.TheVariants as edge

module _ (seen : Snapshot) (s : State) (p : IsPictureOf (view_seen seen) s) {g : Graph}
    (is_graph : IsGraphOf seen g) where
  abbrev links : List Link
  links = g.links.items

  abbrev attaching : List Link
  attaching = g.attaching.items

  abbrev all : List Link
  all = links_in seen.handles.items seen.entries.items

  link_from : (l : Link) → Contains links l → Contains all l
  link_from l = subst (λ ls. Contains ls l) is_graph.links

  link_in : (l : Link) → Contains all l → Contains links l
  link_in l = subst (λ ls. Contains ls l) (sym is_graph.links)

  statics_are : seen.statics ≡ s.statics
  statics_are = ap (λ (q : Picture). q.statics) p.shows

  static_at : (k : ℕ) → slice_index_or seen.statics k None ≡ static_of s k
  static_at k = ap (λ (l : List (Option Id)). slice_index_or l k None) statics_are

  no_static : (x : Id) → NoIndex seen.statics x → (k : ℕ) → static_of s k ≡ Some x → ⊥
  no_static x none k at = none k (static_at k ∙ at)

  -- ---- anchors
  no_holder : (x : Id) → LinksToNone links x None → (j : ℕ) (k : Kind) → HoldsIn s j k x → ⊥
  no_holder x none j k held =
      let l = row_is_held seen s p j held.handle x held.is_stored held.holds_it held.target in
      none l.0 (link_in l.0 l.1) l.3

  no_lower_holder : (x : Id) (l : Link) → IsLeastLink links x None l → (j : ℕ) (k : Kind) → j < l.slot.0
      → HoldsIn s j k x → ⊥
  no_lower_holder x l least j k low held =
      let m = row_is_held seen s p j held.handle x held.is_stored held.holds_it held.target in
      let le = least.least m.0 (link_in m.0 m.1) m.3 in
      omega (arith, le, m.2, low)

  pub anchor_name : (x : Id) (name : Anchor) → AnchorIn seen.statics links x name → AnchorOf s x
      → IsAnchorName s x name
  anchor_name x (anchor.Static k) is anchored =
      by_static (sym (static_at k) ∙ is.at) (λ j low at. is.first j low (static_at j ∙ at))
  anchor_name x (anchor.Handle slot kind) is anchored =
      let l = is.1.0 in
      let least : IsLeastLink links x None l = is.1.1 in
      subst (λ (q : Slot). IsAnchorName s x (anchor.Handle q kind)) (sym is.1.2)
      (subst (λ (q : Kind). IsAnchorName s x (anchor.Handle l.slot q)) (sym is.1.3)
      (by_slot (no_static x is.0)
      (held_in_row seen s p l x (link_from l least.among) least.links_to)
      (λ j k low held. no_lower_holder x l least j k low held)))
  anchor_name x anchor.Queue is (in_static has) =
      let at = at_named s.statics x has in absurd (no_static x is.0 at.0 at.1)
  anchor_name x anchor.Queue is (in_queue has) = by_queue (no_static x is.0) (no_holder x is.1) has
  anchor_name x anchor.Queue is (by_handle held) =
      absurd (no_holder x is.1 held.slot held.handle.kind (record {
        handle = held.handle;
        is_stored = held.is_stored;
        kind_is = refl;
        holds_it = held.holds;
        target = held.target;
      }))

  -- ---- edges
  abbrev no_fields : Object Id
  no_fields = record { fields = []; value = 0; generation = 0; registered = false }

  fields_are : (x : ℕ) → fields_at g x ≡ (object_by_id s (named x)).fields
  fields_are x = by (object_at g x) refl
    where
      by : (o : Option SeenObject) → object_at g x ≡ o → fields_in o ≡ (object_by_id s (named x)).fields
      by None at =
          ap (λ (b : Option (Object Id)). (unwrap_or b no_fields).fields)
          (sym (object_none seen s p is_graph x (ap is_some at)))
      by (Some o) at =
          let from = object_from seen is_graph x o at in
          ap (λ (b : Option (Object Id)). (unwrap_or b no_fields).fields)
          (sym (object_of seen s p o from.0) ∙ ap (get s.objects) from.1)

  field_at : (x i : ℕ) → slice_index_or (fields_at g x) i None ≡ field_of (object_by_id s (named x)) i
  field_at x i = ap (λ (l : List (Option Id)). slice_index_or l i None) (fields_are x)

  no_lower_row : (x y : Id) (l : Link) → IsLeastLink attaching x (Some y) l → (j : ℕ) → j < l.slot.0
      → AttachesIn s j x y → ⊥
  no_lower_row x y l least j low row =
      let m = row_is_attached seen s p j row.handle x y row.is_stored row.attaches_it row.target
      row.secondary in
      let le = least.least m.0 (is_graph.attaching.all m.0 x m.1 m.3.0) m.3 in
      omega (arith, le, m.2, low)

  edge_name : (x : ℕ) (y : Id) (e : Edge) → EdgeIn (fields_at g x) attaching (named x) y e
      → IsEdgeName s (named x) y e
  edge_name x y (edge.Field i) is =
      by_field (sym (field_at x i) ∙ is.at) (λ j low at. is.first j low (field_at x j ∙ at))
  edge_name x y (edge.Dependent slot) is =
      let l = is.1.0 in
      let least : IsLeastLink attaching (named x) (Some y) l = is.1.1 in
      let row = attached_in_row seen s p l (named x) y (is_graph.attaching.among l least.among) least.links_to in
      subst (λ (q : Slot). IsEdgeName s (named x) y (edge.Dependent q)) (sym is.1.3)
      (by_dependent (λ i at. is.0 i (field_at x i ∙ at)) row.0
      (λ j low attaches. no_lower_row (named x) y l least j low attaches) (row.1 is.1.2))
  edge_name x y (edge.Entry slot) is =
      let l = is.1.0 in
      let least : IsLeastLink attaching (named x) (Some y) l = is.1.1 in
      let row = attached_in_row seen s p l (named x) y (is_graph.attaching.among l least.among) least.links_to in
      subst (λ (q : Slot). IsEdgeName s (named x) y (edge.Entry q)) (sym is.1.3)
      (by_entry (λ i at. is.0 i (field_at x i ∙ at)) row.0
      (λ j low attaches. no_lower_row (named x) y l least j low attaches) (row.2 is.1.2))

  -- where neither a field nor a link leads from an object to another, there is no edge
  no_edge : (x y : ℕ) → NoIndex (fields_at g x) (named y) → LinksToNone attaching (named x) (Some (named y))
      → EdgeOf s (named x) (named y) → ⊥
  no_edge x y none never leads =
      ⊎_elim
      (λ (field : Contains (fields_at g x) (Some (named y))).
      let at = at_named (fields_at g x) (named y) field in none at.0 at.1)
      (λ (l : LinkLeads attaching x y). never l.link l.among l.leads) (edge_graph seen s p is_graph x y leads)

  -- the line of a step along an edge is the line of that edge
  pub step_line : (x y : ℕ) (line : List ℕ) → LeadsBy s x y → IsStepLine g x y line → IsEdgeLine s x y line
  step_line x y line leads =
      ⊎_elim (λ none. absurd (no_edge x y none.0 none.1 leads))
      (λ (some : (e : Edge) × EdgeIn (fields_at g x) attaching (named x) (named y) e
      × (line ≡ edge_line (named x) e (named y))). record {
        name = some.0;
        is_name = edge_name x (named y) some.0 some.1;
        is = some.2;
      })
