-- What leads on in a snapshot, and its anchors, are the edges and the anchors of the state that it shows.
use Rattle.std.proofs.Common.{Contains, IsSome, List, None, Option, Some, [], ap, false, inl, inr, is_some, refl, subst, sym, true, true≢false, ℕ, ⊎_elim, ◌++◌, ◌∙◌, ◌≡◌}
use Rattle.std.specs.FinMap.{get}
use Rattle.std.specs.Prelude.{flat_map}
use Rattle.std.proofs.lemmas.List.Elements.{Contains-append_cases, Contains-append_left, Contains-append_right}
use Rattle.hd_model.proofs.MapEntries.{none_from, some_value}
use Rattle.hd_model.proofs.Members.{first_in, member_cases, not_in_none}
use Rattle.hd_model.specs.Anchors.{AnchorOf, EdgeOf, by_handle, in_queue, in_static}
use Rattle.hd_model.specs.declared.data.Id.{Id}
use Rattle.hd_model.specs.Reach.{IsAttached}
use Rattle.hd_model.specs.Scene.{IsField, fields_in, scene_of}
use Rattle.hd_model.specs.State.{Object, State, row_of}
use Rattle.hd_seen.specs.Seen.{Picture, view_seen}
use Rattle.hd_seen.specs.declared.SeenObject.{SeenObject}
use Rattle.hd_seen.specs.declared.Snapshot.{Snapshot}
use Rattle.hd_links.specs.Graph.{FieldLeads, IsGraphOf, LeadsOn, LinkLeads, anchors_of, held_numbers, leads_in, named, numbers_of, object_at, queued_numbers}
use Rattle.hd_links.specs.Links.{links_in}
use Rattle.hd_links.specs.Shown.{IsPictureOf}
use Rattle.hd_links.specs.declared.graph.Graph.{Graph}
use Rattle.hd_links.specs.declared.links.Link.{Link}
use Rattle.hd_links.proofs.Members.{flat_from, flat_in, number_from, number_in, numbers_from, numbers_in}
use Rattle.hd_links.proofs.ObjectIndexes.{object_from, object_there}
use Rattle.hd_links.proofs.SeenStates.{attached_in_row, held_in_row, ids_rise, object_of, object_seen_of, row_is_attached, row_is_held}
use Rattle.hd_links.proofs.SnapshotEdges.{leads_down, leads_up}

module _ (seen : Snapshot) (s : State) (p : IsPictureOf (view_seen seen) s) where
  abbrev links : List Link
  links = links_in seen.handles.items seen.entries.items

  fields_of : (o : SeenObject) → Contains seen.objects.items o
      → fields_in (get s.objects o.id.0) ≡ o.fields.items
  fields_of o has = ap fields_in (object_of seen s p o has)

  -- ---- edges

  field_from : (x y : ℕ) → FieldLeads seen.objects.items x y
      → IsField (scene_of s).object (named x) (named y)
  field_from x y leads =
      subst (λ (fs : List (Option Id)). Contains fs (Some (named y)))
      (sym (ap (λ k. fields_in (get s.objects k)) (sym leads.is) ∙ fields_of leads.object leads.among))
      leads.field

  link_from : (x y : ℕ) → LinkLeads links x y → IsAttached (row_of s) (named x) (named y)
  link_from x y leads =
      let row = (attached_in_row seen s p leads.link (named x) (named y) leads.among leads.leads).0 in record {
        slot = leads.link.slot.0;
        handle = row.handle;
        is_stored = row.is_stored;
        attaches = row.attaches_it;
        target = row.target;
        secondary = row.secondary;
      }

  pub edge_from : (x y : ℕ) → LeadsOn seen x y → EdgeOf s (named x) (named y)
  edge_from x y = ⊎_elim (λ field. inl (field_from x y field)) (λ link. inr (link_from x y link))

  field_seen : (x y : ℕ) (b : Option (Object Id)) → get s.objects x ≡ b
      → Contains (fields_in b) (Some (named y)) → FieldLeads seen.objects.items x y
  field_seen x y None is has = absurd (not_in_none (Some (named y)) has)
  field_seen x y (Some b) is has =
      let o = object_seen_of seen s p x b is in record {
        object = o.0;
        among = o.1;
        is = o.2;
        field = subst (λ (fs : List (Option Id)). Contains fs (Some (named y)))
            (ap fields_in (sym is) ∙ ap (λ k. fields_in (get s.objects k)) (sym o.2) ∙ fields_of o.0 o.1) has;
      }

  pub edge_seen : (x y : ℕ) → EdgeOf s (named x) (named y) → LeadsOn seen x y
  edge_seen x y =
      ⊎_elim (λ field. inl (field_seen x y (get s.objects x) refl field))
      (λ (row : IsAttached (row_of s) (named x) (named y)).
      let l = row_is_attached seen s p row.slot row.handle (named x) (named y) row.is_stored row.attaches
      row.target row.secondary in
      inr (record { link = l.0; among = l.1; leads = l.3 }))

  -- and so in the graph of the snapshot, which has the objects of the state
  module _ {g : Graph} (is : IsGraphOf seen g) where
    pub object_none : (x : ℕ) → is_some (object_at g x) ≡ false → get s.objects x ≡ None
    object_none x none = none_from (get s.objects x) (λ some.
        let b = some_value (get s.objects x) some in
        let o = object_seen_of seen s p x b.0 b.1 in
        let there = object_there seen is o.0 o.1 in
        true≢false (sym (ap is_some (ap (object_at g) (sym o.2) ∙ there.1)) ∙ none))

    pub object_some : (x : ℕ) → is_some (object_at g x) ≡ true → IsSome (get s.objects x)
    object_some x some =
        let o = some_value (object_at g x) some in
        let from = object_from seen is x o.0 o.1 in
        ap is_some (ap (get s.objects) (sym from.1) ∙ object_of seen s p o.0 from.0)

    pub graph_edge : (x y : ℕ) → leads_in g x y → EdgeOf s (named x) (named y)
    graph_edge x y leads = edge_from x y (leads_up is x y leads)

    pub edge_graph : (x y : ℕ) → EdgeOf s (named x) (named y) → leads_in g x y
    edge_graph x y edge = leads_down is (ids_rise seen s p) x y (edge_seen x y edge)

  -- ---- anchors

  statics_are : seen.statics ≡ s.statics
  statics_are = ap (λ (q : Picture). q.statics) p.shows

  queue_is : seen.queue.items ≡ s.queue
  queue_is = ap (λ (q : Picture). q.queue) p.shows

  abbrev statics : List ℕ
  statics = flat_map numbers_of seen.statics

  abbrev queue : List ℕ
  queue = flat_map queued_numbers seen.queue.items

  queued : (x : ℕ) → Contains queue x → Contains seen.queue.items (named x)
  queued x has =
      let q = flat_from queued_numbers seen.queue.items x has in
      ⊎_elim
      (λ (same : q.0.0 ≡ x). subst (λ k. Contains seen.queue.items (named k)) same q.1)
      (λ later. absurd (not_in_none x later)) (member_cases q.0.0 [] x q.2)

  abbrev held : List ℕ
  held = flat_map held_numbers links

  held_anchor : (x : ℕ) → Contains held x → AnchorOf s (named x)
  held_anchor x has =
      let l = flat_from held_numbers links x has in
      let row = held_in_row seen s p l.0 (named x) l.1 (number_from l.0.held x l.2) in
      by_handle (record {
        slot = l.0.slot.0;
        handle = row.handle;
        is_stored = row.is_stored;
        holds = row.holds_it;
        target = row.target;
      })

  pub anchor_from : (x : ℕ) → Contains (anchors_of seen) x → AnchorOf s (named x)
  anchor_from x has =
      ⊎_elim
      (λ left.
      ⊎_elim
      (λ static. in_static (subst (λ (l : List (Option Id)). Contains l (Some (named x))) statics_are
      (numbers_from seen.statics x static)))
      (λ late. in_queue (subst (λ (l : List Id). Contains l (named x)) queue_is (queued x late)))
      (Contains-append_cases statics queue x left))
      (λ right. held_anchor x right) (Contains-append_cases (statics ++ queue) held x has)

  pub anchor_seen : (x : ℕ) → AnchorOf s (named x) → Contains (anchors_of seen) x
  anchor_seen x (in_static has) =
      Contains-append_left (statics ++ queue) held x
      (Contains-append_left statics queue x
      (numbers_in seen.statics x
      (subst (λ (l : List (Option Id)). Contains l (Some (named x))) (sym statics_are) has)))
  anchor_seen x (in_queue has) =
      Contains-append_left (statics ++ queue) held x
      (Contains-append_right statics queue x
      (flat_in queued_numbers seen.queue.items (named x) x
      (subst (λ (l : List Id). Contains l (named x)) (sym queue_is) has) (first_in x [])))
  anchor_seen x (by_handle row) =
      let l = row_is_held seen s p row.slot row.handle (named x) row.is_stored row.holds row.target in
      Contains-append_right (statics ++ queue) held x
      (flat_in held_numbers links l.0 x l.1 (number_in l.0.held x l.3))
