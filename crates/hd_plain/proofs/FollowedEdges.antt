-- An object is taken, and its edges are followed to what is of no generation above n: what its fields
-- reference, and what is attached to it.
use Rattle.hd_model.proofs.Basics.{Contains, List, Option, Some, [], ap, inl, inr, length, map, refl, same_Some, subst, sym, true, false, ℕ, ⊎_elim, ◌++◌, ◌+◌, ◌-◌, ◌<◌, ◌^◌, ◌∙◌, ◌∷◌, ◌≡◌, ◌⊎◌}
use Rattle.std.specs.FinMap.{get, len}
use Rattle.hd_model.proofs.Members.{mapped_from, mapped_in}
use Rattle.hd_model.specs.Scene.{fields_in}
use Rattle.hd_model.specs.State.{State}
use Rattle.hd_model.specs.declared.data.Id.{Id}
use Rattle.hd_plain.specs.Attaching.{ListsAttached, secondaries}
use Rattle.hd_plain.specs.Collecting.{id_of}
use Rattle.hd_plain.specs.Marked.{Marked}
use Rattle.hd_plain.specs.Inside.{Gains, YoungEdge, is_older, with_targets, young, young_at}
use Rattle.hd_plain.specs.declared.marks.Attached.{Attached}
use Rattle.hd_plain.proofs.AttachedLists.{edge_from, edge_to}
use Rattle.hd_plain.proofs.MarkedSets.{Closing, IsAmong, closing_step, gains_like, gains_then, nearer, number}
use Rattle.hd_plain.proofs.YoungObjects.{IsYoungOf, gains_young}

-- numbers as what is referenced
abbrev pub named : List ℕ → List (Option Id)
named ids = map (λ k. Some (id_of k)) ids

pub named_in : (ids : List ℕ) (y : ℕ) → Contains ids y → IsAmong (named ids) y
named_in ids y c = mapped_in (λ k. Some (id_of k)) ids y c

pub named_from : (ids : List ℕ) (y : ℕ) → IsAmong (named ids) y → Contains ids y
named_from ids y c =
    let (k, rest) = mapped_from (λ k. Some (id_of k)) ids (Some (number y)) c in
    subst (λ j. Contains ids j) (ap (λ (z : Id). z.0) (same_Some (id_of k) (number y) rest.1)) rest.0

young_named : (n : ℕ) (s : State) (ids : List ℕ)
    → map (young n s.objects) (named ids) ≡ map (young_at n s.objects) ids
young_named n s [] = refl
young_named n s (k ∷ ids) = ap (λ os. young_at n s.objects k ∷ os) (young_named n s ids)

module _ (n : ℕ) (s : State) (a : Attached) (id : ℕ) where
  abbrev fields : List (Option Id)
  fields = fields_in (get s.objects id)

  -- what an edge of the object leads to, where it is of no generation above n
  abbrev pub IsNext : ℕ → Type 0
  IsNext y = (IsAmong fields y ⊎ Contains (secondaries a id) y) × (is_older n s.objects (number y) ≡ false)

  pub gains_next : (m f o : Marked) → f ≡ with_targets m (map (young n s.objects) fields)
      → o ≡ with_targets f (map (young_at n s.objects) (secondaries a id)) → Gains IsNext m o
  gains_next m f o by_fields by_lists =
      let ys = named (secondaries a id) in
      gains_like (λ y. IsYoungOf n s.objects fields y ⊎ IsYoungOf n s.objects ys y) IsNext m o
      (λ y h. ⊎_elim (λ k. (inl k.0, k.1)) (λ k. (inr (named_from (secondaries a id) y k.0), k.1)) h)
      (λ y h. ⊎_elim (λ k. inl (k, h.1)) (λ k. inr (named_in (secondaries a id) y k, h.1)) h.0)
      (gains_then (IsYoungOf n s.objects fields) (IsYoungOf n s.objects ys) m f o
      (subst (λ z. Gains (IsYoungOf n s.objects fields) m z) (sym by_fields)
      (gains_young n s.objects m fields))
      (subst (λ z. Gains (IsYoungOf n s.objects ys) f z)
      (sym (by_lists ∙ ap (with_targets f) (sym (young_named n s (secondaries a id)))))
      (gains_young n s.objects f ys)))

  -- it was the last one that was marked
  module _ {m : Marked} (left : Marked) {f o : Marked}
      (taken : m ≡ record left { left = left.left ++ id ∷ [] })
      (by_fields : f ≡ with_targets left (map (young n s.objects) fields))
      (by_lists : o ≡ with_targets f (map (young_at n s.objects) (secondaries a id))) where
    pub marks_followed : ListsAttached s a → (old : Marked) → Closing (YoungEdge n s) old m
        → Closing (YoungEdge n s) old o
    marks_followed lists old closing =
        closing_step (YoungEdge n s) IsNext old left o id
        (subst (λ z. Closing (YoungEdge n s) old z) taken closing)
        (gains_next left f o by_fields by_lists)
        (λ y e. (edge_to s a lists (number id) y e.0, e.1))
        (λ y e. (edge_from s a lists (number id) y e.0, e.1))

    pub marks_nearer : len m.marked < 2 ^ 63
        → (2 ^ 63 + length o.left) - len o.marked < (2 ^ 63 + length m.left) - len m.marked
    marks_nearer = nearer IsNext m left o id taken (gains_next left f o by_fields by_lists)
