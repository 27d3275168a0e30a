-- What leads on in the graph of a snapshot is what leads on in the snapshot.
use Rattle.std.proofs.Common.{Contains, List, None, Option, Some, ap, refl, subst, sym, ℕ, ⊎_elim, ◌∙◌, ◌≡◌, inl, inr}
use Rattle.hd_model.proofs.Members.{not_in_none}
use Rattle.hd_seen.specs.declared.SeenObject.{SeenObject}
use Rattle.hd_seen.specs.declared.Snapshot.{Snapshot}
use Rattle.hd_links.specs.Graph.{FieldLeads, IsGraphOf, LeadsOn, LinkLeads, Rises, fields_at, fields_in, ids_of, leads_in, named, object_at}
use Rattle.hd_links.specs.Links.{links_in}
use Rattle.hd_links.specs.declared.graph.Graph.{Graph}
use Rattle.hd_links.proofs.ObjectIndexes.{object_from, object_there, one_object}

module _ {seen : Snapshot} {g : Graph} (is : IsGraphOf seen g) where
  field_up : (x y : ℕ) → Contains (fields_at g x) (Some (named y)) → FieldLeads seen.objects.items x y
  field_up x y has = by (object_at g x) refl has
    where
      by : (o : Option SeenObject) → object_at g x ≡ o → Contains (fields_in o) (Some (named y))
          → FieldLeads seen.objects.items x y
      by None at has = absurd (not_in_none (Some (named y)) has)
      by (Some o) at has =
          let from = object_from seen is x o at in
          record { object = o; among = from.0; is = from.1; field = has }

  pub leads_up : (x y : ℕ) → leads_in g x y → LeadsOn seen x y
  leads_up x y =
      ⊎_elim (λ field. inl (field_up x y field))
      (λ (l : LinkLeads g.attaching.items x y).
      inr (record { link = l.link; among = is.attaching.among l.link l.among; leads = l.leads }))

  field_down : Rises (ids_of seen) → (x y : ℕ) → FieldLeads seen.objects.items x y
      → Contains (fields_at g x) (Some (named y))
  field_down rise x y leads =
      let p = object_there seen is leads.object leads.among in
      let from = object_from seen is leads.object.id.0 p.0 p.1 in
      let same : p.0 ≡ leads.object = one_object seen rise p.0 leads.object from.0 leads.among from.1 in
      subst (λ (o : Option SeenObject). Contains (fields_in o) (Some (named y)))
      (sym (ap (object_at g) (sym leads.is) ∙ p.1 ∙ ap Some same)) leads.field

  pub leads_down : Rises (ids_of seen) → (x y : ℕ) → LeadsOn seen x y → leads_in g x y
  leads_down rise x y =
      ⊎_elim (λ field. inl (field_down rise x y field))
      (λ (l : LinkLeads (links_in seen.handles.items seen.entries.items) x y).
      inr (record {
        link = l.link;
        among = is.attaching.all l.link (named x) l.among l.leads.0;
        leads = l.leads;
      }))
