-- The marking from first marks: what it promotes is what is reached.
use Rattle.hd_gc.proofs.Basics.{Addr, Basis, Contains, Grows, Holds, IsClosed, IsClosure, IsCondemned, IsEdge, IsField, IsHeld, IsOldField, IsPinned, IsReady, IsSettled, IsSettledMarks, IsYoungField, MarksOf, MayRevive, Parts, Promotes, Some, Traced, ap, arith, basis_of, first_marks, generation_at, inl, inr, is_carded, lt-ltb, ltb-true, nat_lt, object_at, objects_of, older, or_cases, or_left, pinned_in, promoted_in, root_object, row_at, scene_of, settled_closed, subst, sym, true, true≢false, ℕ, ⊎_elim, ◌<◌, ◌||◌, ◌↔◌, ◌∙◌, ◌≡◌, ◌⊎◌}
use Rattle.std.specs.{FinSet.contains-empty, Ordering.nat_cmp}
use Rattle.hd_gc.proofs.{CardWalk.carded_older, CardWalk.carded_by, MarkParts.Starts, MarkParts.traced, PromoteSteps.Edge, PromoteSteps.grows_after, PromoteSteps.promotes_on}
use Rattle.std.specs.FinSet as set

-- settled marks over an equal basis
pub settled_over : (g : Basis) (m : MarksOf) → m.basis ≡ g → IsSettledMarks m
    → IsSettled (objects_of g) g.condemned (promoted_in m)
settled_over g m e s =
    subst (λ (f : Basis). IsSettled (objects_of f) f.condemned (promoted_in m)) e s.settled

module _ {A : Parts} {n : ℕ} {m0 m1 m2 m3 m4 : MarksOf} (first : m0 ≡ first_marks A.heap n)
    (ready : IsReady A) (a : Promotes (λ x. Contains A.roots (Some x)) m0 m1)
    (b : Promotes (λ x. Contains A.queue.queued x) m1 m2) (c : Holds (row_at A.table) m2 m3)
    (d : Promotes (IsOldField A.heap n) m3 m4) where
  abbrev Start : Basis
  Start = record { heap = A.heap; condemned = n }

  abbrev Named : Addr → Type 0
  Named x = Contains A.roots (Some x) ⊎ Contains A.queue.queued x

  ab : Promotes Named m0 m2
  ab = promotes_on (λ x. Contains A.roots (Some x)) (λ x. Contains A.queue.queued x) m0 m1 m2 a b

  basis2 : m2.basis ≡ Start
  basis2 = ab.basis ∙ ap (λ (m : MarksOf). m.basis) first

  basis4 : m4.basis ≡ Start
  basis4 = d.basis ∙ c.basis ∙ basis2

  grows : Grows (IsYoungField (object_at A.heap) n) (Starts (scene_of A) (IsOldField A.heap n))
      (promoted_in (first_marks A.heap n)) (promoted_in m4)
  grows =
      subst (λ (m : MarksOf). Grows (Edge m) (Starts (scene_of A) (IsOldField A.heap n)) (promoted_in m)
      (promoted_in m4)) first
      (grows_after (λ x. Named x ⊎ IsHeld (row_at A.table) x) (IsOldField A.heap n) m0 m3 m4
      (c.basis ∙ ab.basis)
      (grows_after Named (IsHeld (row_at A.table)) m0 m2 m3 ab.basis ab.grows c.grows) d.grows)

  pub fields_closed : IsClosed (IsField (objects_of m4.basis)) (promoted_in m4)
  fields_closed =
      subst (λ (g : Basis). IsClosed (IsField (objects_of g)) (promoted_in m4)) (sym basis4)
      (settled_closed (object_at A.heap) n (promoted_in m4) (is_carded A.heap)
      (settled_over Start m4 basis4 d.settled) ready.cards_sound
      (λ x y above carded field. grows.joins y (inr (record {
        from = x;
        carded = carded_by A.heap n x (root_object n (scene_of A) ready.whole x (older above)) above carded;
        field = field;
      }))))

  -- of first marks, only what is older is promoted or pinned
  first_older : (x : Addr)
      → (nat_lt n (generation_at (object_at A.heap) x) || set.contains (set.empty {R = nat_cmp}) x.0) ≡ true
      → n < generation_at (object_at A.heap) x
  first_older x e =
      ⊎_elim (λ above. ltb-true _ _ above)
      (λ in_none. absurd (true≢false (sym in_none ∙ contains-empty nat_cmp x.0))) (or_cases _ _ e)

  no_pins : (x : Addr) → IsCondemned (object_at A.heap) n x → pinned_in m2 x ≡ true → ⊥
  no_pins x young e =
      let above = first_older x (subst (λ (m : MarksOf). pinned_in m x ≡ true) first
      (ap (λ p. p x) (sym ab.pinned) ∙ e)) in
      omega (arith, above, young.young)

  pins_over : (x : Addr) → IsCondemned (object_at A.heap) n x
      → (pinned_in m3 x ≡ true) ↔ ((pinned_in m2 x ≡ true) ⊎ IsPinned (row_at A.table) x)
  pins_over =
      subst (λ (g : Basis). (x : Addr) → IsCondemned (objects_of g) g.condemned x
      → (pinned_in m3 x ≡ true) ↔ ((pinned_in m2 x ≡ true) ⊎ IsPinned (row_at A.table) x)) basis2 c.pins

  pub traced_marks : {m5 : MarksOf} → pinned_in m5 ≡ pinned_in m4
      → IsClosure (IsEdge (objects_of m4.basis) (row_at A.table)) (promoted_in m4) (promoted_in m5)
      → Traced A n m5
  traced_marks {m5} pinned closure = record {
    reach_is =
        traced (scene_of A) n (IsOldField A.heap n) (promoted_in (first_marks A.heap n)) (promoted_in m4)
        (promoted_in m5) first_older
        (λ x above. or_left (nat_lt n (generation_at (object_at A.heap) x)) _ (lt-ltb _ _ above))
        (λ y f. (f.from, (carded_older A.heap n f.from f.carded, f.field))) grows
        (subst (λ (g : Basis). IsClosure (IsEdge (objects_of g) (row_at A.table)) (promoted_in m4)
        (promoted_in m5)) basis4 closure);
    pins = λ x young. (
      λ e. ⊎_elim (λ none. absurd (no_pins x young none)) (λ p. p)
          ((pins_over x young).0 (ap (λ p. p x) (sym d.pinned) ∙ ap (λ p. p x) (sym pinned) ∙ e)),
      λ p. ap (λ q. q x) pinned ∙ ap (λ q. q x) d.pinned ∙ (pins_over x young).1 (inr p),
    );
  }

-- what is promoted stays closed under all fields, as more is promoted
pub still_closed : {p : Parts} {n : ℕ} {m k : MarksOf} → MayRevive p m → m.basis ≡ basis_of p n
    → IsSettledMarks m → k.basis ≡ m.basis → IsSettledMarks k
    → ((x : Addr) → promoted_in m x ≡ true → promoted_in k x ≡ true)
    → IsClosed (IsField (objects_of k.basis)) (promoted_in k)
still_closed {p} {n} {m} {k} may first before basis settled keeps =
    let over : k.basis ≡ basis_of p n = basis ∙ first in
    subst (λ (g : Basis). IsClosed (IsField (objects_of g)) (promoted_in k)) (sym over)
    (settled_closed (object_at p.heap) n (promoted_in k) (is_carded p.heap)
    (settled_over (basis_of p n) k over settled) may.cards
    (λ x y above carded field. keeps y (may.edges x y
    ((settled_over (basis_of p n) m first before).older x above) (inl field))))
