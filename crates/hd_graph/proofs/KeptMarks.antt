-- What two walks find is what is kept.
use Rattle.std.proofs.Common.{Bool, Contains, List, None, Option, [], ap, arith, cond, false, inl, inr, length, length-append, subst, sym, true, true≢false, ℕ, ⊎_elim, ◌++◌, ◌∙◌, ◌∷◌, ◌≡◌, ◌≤◌, ◌⊎◌, refl}
use Rattle.std.specs.Prelude.{flat_map, slice_get}
use Rattle.std.proofs.lemmas.Bool.{cases_Bool, false≢true}
use Rattle.std.proofs.lemmas.List.Elements.{Contains-append_cases, Contains-append_left, Contains-append_right}
use Rattle.hd_model.proofs.EdgeChains.{leads_inside}
use Rattle.hd_model.proofs.Members.{first_in, member_cases, not_in_none}
use Rattle.hd_model.specs.Leads.{IsClosure, Leads}
use Rattle.hd_seen.specs.declared.SeenObject.{SeenObject}
use Rattle.hd_seen.specs.declared.Snapshot.{Snapshot}
use Rattle.hd_links.specs.Graph.{IsGraphOf, IsNode, LeadsOn, Rises, anchors_of, ids_of, in_order, leads_in}
use Rattle.hd_links.specs.declared.graph.Graph.{Graph}
use Rattle.hd_links.proofs.Members.{flat_from, flat_in}
use Rattle.hd_links.proofs.SnapshotEdges.{leads_down, leads_up}
use Rattle.hd_walk.specs.declared.trail.Found.{Found}
use Rattle.hd_walk.specs.Trail.{is_found, with_all}
use Rattle.hd_walk.specs.Walk.{HasEnded}
use Rattle.hd_walk.proofs.Slices.{at_append, at_member, at_old}
use Rattle.hd_walk.proofs.TrailAdds.{HasAdded, added_to, found_at, found_more, spot_of}
use Rattle.hd_walk.proofs.WalkClosures.{IsFollowed, ended_closure, none_followed}
use Rattle.hd_graph.specs.{Kept.AreKept, Kept.IsReached, Kept.IsRegistered, Kept.IsRoot, Kept.row_numbers, Inside.registered_number}

pub leads_as : {A B : ℕ → ℕ → Type 0} → ((x y : ℕ) → A x y → B x y) → {x y : ℕ} → Leads A x y → Leads B x y
leads_as turns Leads.here = Leads.here
leads_as turns (Leads.more {y = y} {z = z} chain edge) = Leads.more (leads_as turns chain) (turns y z edge)

-- ---- a trail to which numbers were added

abbrev Any : ℕ → ℕ → Type 0
Any x y = Unit {0}

module _ (ys : List ℕ) (old new : List Found) (is : new ≡ with_all old ys None) where
  pub added : HasAdded Any ys None old new
  added = added_to Any None is (λ i j d lt l. tt)

  pub added_longer : length old ≤ length new
  added_longer =
      let l = ap length added.extends in
      let m = length-append old added.added in
      omega (arith, l, m)

  pub added_keeps : (x : ℕ) → is_found old x ≡ true → is_found new x ≡ true
  added_keeps x h = subst (λ xs. is_found xs x ≡ true) (sym added.extends) (found_more old added.added x h)

  pub added_cases : (x : ℕ) → is_found new x ≡ true → (is_found old x ≡ true) ⊎ Contains ys x
  added_cases x h =
      let spot = spot_of new x h in
      ⊎_elim
      (λ before. inl (subst (λ y. is_found old y ≡ true) spot.at_is (found_at old spot.index spot.one before)))
      (λ late.
      inr (subst (λ y. Contains ys y) spot.at_is
      (added.only spot.one (at_member added.added late.0 spot.one late.2)).1))
      (at_append old added.added spot.index spot.one
      (ap (λ xs. slice_get xs spot.index) (sym added.extends) ∙ spot.is_one))

-- ---- what is registered

number_from : (o : SeenObject) (x : ℕ) (t : Bool) → o.registered ≡ t → Contains (cond t (o.id.0 ∷ []) []) x
    → (o.id.0 ≡ x) × (o.registered ≡ true)
number_from o x true is has =
    (⊎_elim (λ same. same) (λ later. absurd (not_in_none x later)) (member_cases o.id.0 [] x has), is)
number_from o x false is has = absurd (not_in_none x has)

registered_from : (s : Snapshot) (x : ℕ) → Contains (flat_map registered_number s.objects.items) x
    → IsRegistered s x
registered_from s x has =
    let o = flat_from registered_number s.objects.items x has in
    let both = number_from o.0 x o.0.registered refl o.2 in
    record { object = o.0; among = o.1; is = both.0; registered = both.1 }

registered_in : (s : Snapshot) (x : ℕ) → IsRegistered s x
    → Contains (flat_map registered_number s.objects.items) x
registered_in s x r =
    flat_in registered_number s.objects.items r.object x r.among
    (subst (λ t. Contains (cond t (r.object.id.0 ∷ []) []) x) (sym r.registered)
    (subst (λ y. Contains (y ∷ []) x) (sym r.is) (first_in x [])))

module _ (s : Snapshot) (g : Graph) (is : IsGraphOf s g) (rise : Rises (ids_of s)) (roots registered : List ℕ)
    (begun mid more found : List Found) (end last : Option ℕ)
    (roots_are : roots ≡ anchors_of s ++ flat_map row_numbers s.registers.items)
    (registered_are : registered ≡ flat_map registered_number s.objects.items)
    (begins : begun ≡ with_all [] roots None)
    (first : HasEnded (IsNode g) (leads_in g) in_order None begun 0 mid end)
    (adds : more ≡ with_all mid registered None)
    (second : HasEnded (IsNode g) (leads_in g) in_order None more (length mid) found last) where
  abbrev rows : List ℕ
  rows = flat_map row_numbers s.registers.items

  root_from : (x : ℕ) → is_found begun x ≡ true → IsRoot s x
  root_from x h =
      ⊎_elim (λ none. absurd (false≢true none))
      (λ has. Contains-append_cases (anchors_of s) rows x (subst (λ ys. Contains ys x) roots_are has))
      (added_cases roots [] begun begins x h)

  root_in : (x : ℕ) → IsRoot s x → is_found begun x ≡ true
  root_in x root =
      (added roots [] begun begins).all x
      (subst (λ ys. Contains ys x) (sym roots_are)
      (⊎_elim (λ left. Contains-append_left (anchors_of s) rows x left)
      (λ right. Contains-append_right (anchors_of s) rows x right) root))

  up : {x y : ℕ} → Leads (leads_in g) x y → Leads (LeadsOn s) x y
  up = leads_as (leads_up is)

  down : {x y : ℕ} → Leads (LeadsOn s) x y → Leads (leads_in g) x y
  down = leads_as (leads_down is rise)

  reach : IsClosure (leads_in g) (is_found begun) (is_found mid)
  reach = ended_closure (none_followed (leads_in g) begun) first

  reached_from : (x : ℕ) → is_found mid x ≡ true → IsReached s x
  reached_from x h = let o = reach.only x h in (o.0, (root_from o.0 o.1.0, up o.1.1))

  reached_in : (x : ℕ) → IsReached s x → is_found mid x ≡ true
  reached_in x h =
      leads_inside (leads_in g) (is_found mid) reach.closed (reach.keeps h.0 (root_in h.0 h.1.0)) (down h.1.1)

  -- the first walk followed all that it found
  followed : IsFollowed (leads_in g) more (length mid)
  followed i x y below at leads =
      let v = added registered mid more adds in
      let was = at_old mid v.added i x below (ap (λ xs. slice_get xs i) (sym v.extends) ∙ at) in
      added_keeps registered mid more adds y (reach.closed x.at y (found_at mid i x was) leads)

  keep : IsClosure (leads_in g) (is_found more) (is_found found)
  keep = ended_closure followed second

  -- the starts of the second walk
  start : (x : ℕ) → is_found more x ≡ true → IsReached s x ⊎ (IsRegistered s x × (IsReached s x → ⊥))
  start x h =
      ⊎_elim (λ reached. inl (reached_from x reached))
      (λ lost.
      ⊎_elim (λ reached. inl (reached_from x reached))
      (λ has.
      inr (
        registered_from s x (subst (λ ys. Contains ys x) registered_are has),
        λ reached. true≢false (sym (reached_in x reached) ∙ lost),
      )) (added_cases registered mid more adds x h)) (cases_Bool (is_found mid x))

  started : (x : ℕ) → IsReached s x ⊎ (IsRegistered s x × (IsReached s x → ⊥)) → is_found more x ≡ true
  started x =
      ⊎_elim (λ reached. added_keeps registered mid more adds x (reached_in x reached))
      (λ lost.
      (added registered mid more adds).all x
      (subst (λ ys. Contains ys x) (sym registered_are) (registered_in s x lost.0)))

  pub are_kept : AreKept s (is_found found)
  are_kept o has = (
    λ so. let k = keep.only o.id.0 so in (k.0, (start k.0 k.1.0, up k.1.1)),
    λ h. leads_inside (leads_in g) (is_found found) keep.closed (keep.keeps h.0 (started h.0 h.1.0))
        (down h.1.1),
  )
