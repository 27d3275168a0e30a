-- The address at which an object is found by its identity.
use Rattle.std.proofs.Common.{Bool, Contains, List, [], ap, false, refl, sym, true, ℕ, ⊎_elim, ◌==◌, ◌∙◌, ◌∷◌, ◌≡◌}
use Rattle.std.proofs.lemmas.Bool.{eq-eqb, eqb-true, false≢true}
use Rattle.std.specs.FinMap.{entries}
use Rattle.std.specs.List.{find as find_in}
use Rattle.std.specs.Option.{option_map_or}
use Rattle.hd_model.proofs.MapEntries.{entry_of, get_entry}
use Rattle.hd_model.proofs.Members.{first_in, later_in, member_cases, not_in_none}
use Rattle.hd_model.specs.declared.data.Addr.{Addr}
use Rattle.hd_model.specs.declared.data.Id.{Id}
use Rattle.hd_model.specs.Heap.{HasIdentities, Heap, Placed, has_object, id_at, placed_at}
use Rattle.hd_seen.specs.Seen.{address_of}
use Rattle.hd_snapshot.proofs.HeapObjects.{id-there, placed-there}

-- the address of the first object with an identity, where it is the only one
first_with : (x : ℕ) (xs : List (ℕ × Placed)) → (a : ℕ) → (p : Placed) → Contains xs (a, p) → p.id.0 ≡ x
    → ((b : ℕ) (q : Placed) → Contains xs (b, q) → q.id.0 ≡ x → b ≡ a)
    → option_map_or (λ (e : ℕ × Placed). e.0) (find_in (λ (e : ℕ × Placed). e.1.id.0 == x) xs) 0 ≡ a
first_with x [] a p among has only = absurd (not_in_none (a, p) among)
first_with x (e ∷ xs) a p among has only =
    by (e.1.id.0 == x) refl (λ later. first_with x xs a p later has
    (λ b q within. only b q (later_in e xs (b, q) within)))
  where
    by : (t : Bool) → (e.1.id.0 == x) ≡ t
        → (Contains xs (a, p)
        → option_map_or (λ (f : ℕ × Placed). f.0) (find_in (λ (f : ℕ × Placed). f.1.id.0 == x) xs) 0 ≡ a)
        → option_map_or (λ (f : ℕ × Placed). f.0)
        (find_in (λ (f : ℕ × Placed). f.1.id.0 == x) (e ∷ xs)) 0 ≡ a
    by true is rest = rw is (only e.0 e.1 (first_in e xs) (eqb-true e.1.id.0 x is))
    by false is rest =
        rw is (rest (⊎_elim (λ same. absurd (false≢true (sym is ∙ eq-eqb e.1.id.0 x
        (ap (λ (f : ℕ × Placed). f.1.id.0) same ∙ has)))) (λ later. later)
        (member_cases e xs (a, p) among)))

module _ (h : Heap) (identities : HasIdentities h) where
  pub address-is : (a : Addr) → has_object h a ≡ true → address_of h (id_at h a).0 ≡ a.0
  address-is a is =
      first_with (id_at h a).0 (entries h.objects) a.0 (placed_at h a)
      (entry_of h.objects a.0 (placed_at h a) (placed-there h a is))
      (ap (λ (i : Id). i.0) (sym (id-there h a is)))
      (λ b q among same. identities b a.0 q (placed_at h a) (get_entry h.objects b q among)
      (placed-there h a is) (λ i. record { 0 = (same ∙ ap (λ (i : Id). i.0) (id-there h a is)) i }))
