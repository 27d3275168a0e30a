-- Ages stay sound where they are lowered, and where a collection raises them with the generations.
use Rattle.hd_model.proofs.Basics.{Collects, Handle, HasSoundAges, IsWhole, List, Objects, Report, Rows, Scene, Some, [], age_of, ap, arith, clump_of, generation_at, generation_in, get_or, grown, le_trans, lowered, map, min, nat_tests, raised, secondary_of, set, subst, suc, sym, true, zero, ℕ, ⊎_elim, ◌∙◌, ◌∷◌, ◌≡◌, ◌≤◌, ◌⊎◌}
use Rattle.hd_model.proofs.MapEntries.{some_value}
use Rattle.hd_model.proofs.SceneCollection.{cleared_target, cleared_secondary, handle_before, target_kept, secondary_kept, object_after, kept_object}

-- raising keeps the order of generations
pub raised_order : (n a b : ℕ) → a ≤ b → raised n a ≤ raised n b
raised_order n a b l = grind (arith, nat_tests)

-- a number lowered in a list
set_lower : (xs : List ℕ) (i j a : ℕ) → a ≤ get_or xs i 0 → get_or (set xs i a) j 0 ≤ get_or xs j 0
set_lower [] i j a l = omega arith
set_lower (x ∷ xs) zero zero a l = l
set_lower (x ∷ xs) zero (suc j) a l = omega arith
set_lower (x ∷ xs) (suc i) zero a l = omega arith
set_lower (x ∷ xs) (suc i) (suc j) a l = set_lower xs i j a l

set_here : (xs : List ℕ) (i a : ℕ) → get_or (set xs i a) i 0 ≤ a
set_here [] i a = omega arith
set_here (x ∷ xs) zero a = omega arith
set_here (x ∷ xs) (suc i) a = set_here xs i a

-- no age rises where one is lowered, and the slot's is at most what it is lowered to
pub lowered_below : (ages : List ℕ) (slot g other : ℕ)
    → age_of (lowered ages slot g) other ≤ age_of ages other
lowered_below ages slot g other =
    set_lower ages (clump_of slot) (clump_of other) (min (age_of ages slot) g) (omega arith)

pub lowered_here : (ages : List ℕ) (slot g : ℕ) → age_of (lowered ages slot g) slot ≤ g
lowered_here ages slot g =
    let here : age_of (lowered ages slot g) slot ≤ min (age_of ages slot) g =
    set_here ages (clump_of slot) (min (age_of ages slot) g) in
    omega arith

-- an age after a collection is that before, raised
pub grown_at : (n : ℕ) (ages : List ℕ) (slot : ℕ) → age_of (grown n ages) slot ≤ raised n (age_of ages slot)
grown_at n ages slot = at ages (clump_of slot)
  where
    at : (xs : List ℕ) (i : ℕ) → get_or (map (raised n) xs) i 0 ≤ raised n (get_or xs i 0)
    at [] i = omega arith
    at (x ∷ xs) zero = omega arith
    at (x ∷ xs) (suc i) = at xs i

-- each row was there before, or is in one slot and references nothing younger than g
module _ {N : Type 0} (o : Objects N) (old new : Rows N) (ages : List ℕ) (slot g : ℕ)
    (sound : HasSoundAges o old ages) where
  pub lowered_sound :
      ((other : ℕ) (h : Handle N) (x : N) → new other ≡ Some h → h.target ≡ Some x → (old other ≡ Some h)
      ⊎ ((other ≡ slot) × (g ≤ generation_at o x)))
      → ((other : ℕ) (h : Handle N) (x : N) → new other ≡ Some h → secondary_of h.extra ≡ Some x
      → (old other ≡ Some h) ⊎ ((other ≡ slot) × (g ≤ generation_at o x)))
      → HasSoundAges o new (lowered ages slot g)
  lowered_sound target second = record {
    targets = λ other h x is_stored e. by other (generation_at o x) (λ k. sound.targets other h x k e)
        (target other h x is_stored e);
    secondaries = λ other h x is_stored e. by other (generation_at o x) (λ k. sound.secondaries other h x k e)
        (second other h x is_stored e);
  }
    where
      by : {P : Type 0} (other young : ℕ) → (P → age_of ages other ≤ young) → P
          ⊎ ((other ≡ slot) × (g ≤ young)) → age_of (lowered ages slot g) other ≤ young
      by other young was h =
          ⊎_elim (λ p. le_trans (lowered_below ages slot g other) (was p))
          (λ here. le_trans (subst (λ k. age_of (lowered ages slot g) k ≤ g) (sym here.0)
          (lowered_here ages slot g)) here.1) h

module _ {N : Type 0} (rank : N → ℕ) (n : ℕ) (s t : Scene N) (r : Report) (w : IsWhole s)
    (c : Collects rank n s t r) where
  -- a kept object's generation is raised
  pub kept_generation : (x : N) → c.kept x ≡ true
      → generation_at t.object x ≡ raised n (generation_at s.object x)
  kept_generation x kept =
      let (p, e) = some_value (s.object x) (kept_object n s w x ((c.kept_is x).0 kept)) in
      ap generation_in (object_after rank n s t r w c x p kept e) ∙ ap (raised n) (sym (ap generation_in e))

  raised_sound : (ages : List ℕ) (slot : ℕ) (x : N) → c.kept x ≡ true
      → age_of ages slot ≤ generation_at s.object x → age_of (grown n ages) slot ≤ generation_at t.object x
  raised_sound ages slot x kept l =
      subst (λ k. age_of (grown n ages) slot ≤ k) (sym (kept_generation x kept))
      (le_trans (grown_at n ages slot) (raised_order n (age_of ages slot) (generation_at s.object x) l))

  pub grown_sound : (ages : List ℕ) → HasSoundAges s.object s.handle ages
      → HasSoundAges t.object t.handle (grown n ages)
  grown_sound ages sound = record {
    targets = λ slot h x is_stored e.
        let (g, both) = handle_before rank n s t r w c slot h is_stored in
        let (stays, before) = cleared_target c.reach c.kept g x
        (ap (λ (q : Handle N). q.target) both.1 ∙ e) in
        raised_sound ages slot x (target_kept rank n s t r w c slot g x both.0 stays before)
        (sound.targets slot g x both.0 before);
    secondaries = λ slot h x is_stored e.
        let (g, both) = handle_before rank n s t r w c slot h is_stored in
        let (stays, before) = cleared_secondary c.reach c.kept g x
        (ap (λ (q : Handle N). secondary_of q.extra) both.1 ∙ e) in
        raised_sound ages slot x (secondary_kept rank n s t r w c slot g x both.0 stays before)
        (sound.secondaries slot g x both.0 before);
  }
