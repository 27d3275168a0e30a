-- Marking by condemned objects, set cards and due clumps alone finds all that is reached.
use Rattle.hd_model.proofs.Basics.{Bool, Decides, Extra, Handle, HasSoundAges, HasSoundCards, IsClosed, IsEdge, IsField, IsKept, IsReached, IsRoot, IsToBeFinalized, List, None, Objects, Option, Rows, Scene, Some, age_of, ap, arith, cases_lt, cleared, count, false, generation_at, is_due, leb-false, nothing, option_map, refl, rename_extra, rename_handle, secondary, secondary_of, strength, true, ℕ, ⊎_elim, ◌<◌, ◌≡◌, ◌≤◌}
use Rattle.hd_model.specs.Marking.{IsSettled}
use Rattle.hd_model.proofs.EdgeChains.{leads_inside}
use Rattle.hd_model.proofs.IdleCollection.{cleared_same, kept_target, loses_none, attaching_lost}

module _ {N : Type 0} (o : Objects N) (n : ℕ) where
  -- where cards are sound and what carded older objects reference is promoted, what is promoted is closed
  -- under every field
  pub settled_closed : (p : N → Bool) (carded : N → Bool) → IsSettled o n p → HasSoundCards o carded
      → ((x y : N) → n < generation_at o x → carded x ≡ true → IsField o x y → p y ≡ true)
      → IsClosed (IsField o) p
  settled_closed p carded settled sound follows x y promoted field =
      ⊎_elim
      (λ above. ⊎_elim (λ old. settled.older y old)
      (λ young. follows x y above (sound x y field (omega arith)) field) (cases_lt n (generation_at o y)))
      (λ young. settled.closed x y promoted
      (record { condemned = record { object = settled.objects x promoted; young = young }; field = field }))
      (cases_lt n (generation_at o x))

  -- what a row that is not due references is of an older generation
  undue_above : (ages : List ℕ) (slot g : ℕ) → is_due ages n slot ≡ false → age_of ages slot ≤ g → n < g
  undue_above ages slot g undue low =
      let above : n < age_of ages slot = leb-false (age_of ages slot) n undue in omega arith

  module _ (rows : Rows N) (ages : List ℕ) (sound : HasSoundAges o rows ages) (slot : ℕ) (h : Handle N)
      (is_stored : rows slot ≡ Some h) (undue : is_due ages n slot ≡ false) where
    pub undue_target : (x : N) → h.target ≡ Some x → n < generation_at o x
    undue_target x e = undue_above ages slot (generation_at o x) undue (sound.targets slot h x is_stored e)

    pub undue_secondary : (x : N) → secondary_of h.extra ≡ Some x → n < generation_at o x
    undue_secondary x e = undue_above ages slot (generation_at o x) undue
        (sound.secondaries slot h x is_stored e)

    -- a clearing leaves such a row as it is
    pub undue_stays : (reach kept : N → Bool) → ((x : N) → n < generation_at o x → reach x ≡ true)
        → ((x : N) → n < generation_at o x → kept x ≡ true) → cleared reach kept h ≡ h
    undue_stays reach kept reached stays =
        cleared_same reach kept h
        (loses_none _ reach kept h.target (λ x e. reached x (undue_target x e))
        (λ x e. stays x (undue_target x e)))
        (attaching_lost _ _ (kept_target kept h.target (λ x e. stays x (undue_target x e))))

    -- and so does a relocation
    pub undue_in_place : (forwarding : N → N) → ((x : N) → n < generation_at o x → forwarding x ≡ x)
        → rename_handle forwarding h ≡ h
    undue_in_place forwarding still = λ i. record {
      kind = h.kind;
      target = same_option h.target (λ x e. still x (undue_target x e)) i;
      extra = same_extra h.extra (λ x e. still x (undue_secondary x e)) i;
    }
      where
        same_option : (v : Option N) → ((x : N) → v ≡ Some x → forwarding x ≡ x) → option_map forwarding v ≡ v
        same_option None each = refl
        same_option (Some x) each = ap (λ y. Some y) (each x refl)

        same_extra : (v : Extra N) → ((x : N) → secondary_of v ≡ Some x → forwarding x ≡ x)
            → rename_extra forwarding v ≡ v
        same_extra nothing each = refl
        same_extra (strength given) each = refl
        same_extra (secondary v) each = ap secondary (same_option v each)
        same_extra (count c) each = refl

module _ {N : Type 0} (s : Scene N) (n : ℕ) where
  -- a set that has the roots, is closed under edges and has no more decides what is reached
  pub decides_reached : (p : N → Bool) → ((x : N) → IsRoot s n x → p x ≡ true)
      → IsClosed (IsEdge s.object s.handle) p
      → ((x : N) → p x ≡ true → IsReached s n x) → (x : N) → Decides (p x) (IsReached s n x)
  decides_reached p roots closed only x = (
    only x,
    λ h. leads_inside (IsEdge s.object s.handle) p closed (roots h.0 h.1.0) h.1.1,
  )

  -- and one that has what is reached and resurrected decides what is kept
  pub decides_kept : (p : N → Bool) → ((x : N) → IsReached s n x → p x ≡ true)
      → ((x : N) → IsToBeFinalized s n x → p x ≡ true)
      → IsClosed (IsEdge s.object s.handle) p → ((x : N) → p x ≡ true → IsKept s n x) → (x : N)
      → Decides (p x) (IsKept s n x)
  decides_kept p reached resurrected closed only x = (
    only x,
    λ h. leads_inside (IsEdge s.object s.handle) p closed (⊎_elim (reached h.0) (resurrected h.0) h.1.0)
        h.1.1,
  )
