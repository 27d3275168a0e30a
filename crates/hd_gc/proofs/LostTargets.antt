-- The three parts of the clearing come to the whole, and what each clears is what loses its target.
use Rattle.hd_gc.proofs.Basics.{Bool, Counts, Handle, IsLostAt, LosesAs, None, Option, Role, Rows, Scene, Some, ap, attaches, cleared, counts_like, detached, has_role, is_lost, is_role, long, loses_by, option_map, refl, role, short, swept, sym, true, ℕ, ◌∙◌, ◌≡◌}
use Rattle.hd_scan.specs.Whole.{IsLostAt as IsUnder}
use Rattle.hd_gc.proofs.HandleRoles.{same_role, is_same_role, cleared_by_role}
use Rattle.hd_gc.proofs.KeptObjects.{row_after, row_before}

module _ {N : Type 0} (s : Scene N) (reach kept : N → Bool) {r1 r2 r3 : Rows N}
    (by_short : (slot : ℕ) → r1 slot ≡ option_map (swept true (has_role short) reach) (s.handle slot))
    (by_long : (slot : ℕ) → r2 slot ≡ option_map (swept true (has_role long) kept) (r1 slot))
    (by_dependent : (slot : ℕ) → r3 slot ≡ option_map (detached true kept) (r2 slot)) where
  pub cleared_rows : (slot : ℕ) → r3 slot ≡ option_map (cleared reach kept) (s.handle slot)
  cleared_rows slot =
      by_dependent slot ∙ ap (option_map (detached true kept)) (by_long slot)
      ∙ ap (λ o. option_map (detached true kept) (option_map (swept true (has_role long) kept) o))
      (by_short slot) ∙ by (s.handle slot)
    where
      by : (o : Option (Handle N))
          → option_map (detached true kept) (option_map (swept true (has_role long) kept)
          (option_map (swept true (has_role short) reach) o))
          ≡ option_map (cleared reach kept) o
      by None = refl
      by (Some h) = ap (λ q. Some q) (cleared_by_role reach kept h)

  -- of one role, over rows in which those of the role are as they were
  losses_as : (r : Role) (q : N → Bool) (rows : Rows N) (k : ℕ)
      → ((o : Option N) → loses_by r reach kept o ≡ is_lost q o)
      → ((slot : ℕ) (h : Handle N) → role h ≡ r → rows slot ≡ Some h → s.handle slot ≡ Some h)
      → ((slot : ℕ) (h : Handle N) → role h ≡ r → s.handle slot ≡ Some h → rows slot ≡ Some h)
      → Counts (IsUnder rows (has_role r) q) k → Counts (LosesAs s reach kept r) k
  losses_as r q rows k same before after =
      counts_like (IsUnder rows (has_role r) q) (LosesAs s reach kept r) k
      (λ slot d. let is : role d.handle ≡ r = same_role r (role d.handle) d.passes in
      record {
        handle = d.handle;
        is_stored = before slot d.handle is d.is_stored;
        role_is = is;
        loses = ap (λ j. loses_by j reach kept d.handle.target) is ∙ same d.handle.target ∙ d.lost;
      })
      (λ slot l. record {
        handle = l.handle;
        is_stored = after slot l.handle l.role_is l.is_stored;
        passes = is_same_role r (role l.handle) l.role_is;
        lost =
            sym (same l.handle.target) ∙ sym (ap (λ j. loses_by j reach kept l.handle.target) l.role_is)
            ∙ l.loses;
      })

  pub short_losses : (k : ℕ) → Counts (IsUnder s.handle (has_role short) reach) k
      → Counts (LosesAs s reach kept short) k
  short_losses k = losses_as short reach s.handle k (λ o. refl) (λ slot h is e. e) (λ slot h is e. e)

  long_before : (slot : ℕ) (h : Handle N) → is_role short (role h) ≡ is_role short long → r1 slot ≡ Some h
      → s.handle slot ≡ Some h
  long_before slot h is e = row_before short reach s.handle r1 by_short slot h e is

  pub long_losses : (k : ℕ) → Counts (IsUnder r1 (has_role long) kept) k
      → Counts (LosesAs s reach kept long) k
  long_losses k =
      losses_as long kept r1 k (λ o. refl) (λ slot h is e. long_before slot h (ap (is_role short) is) e)
      (λ slot h is e. row_after short reach s.handle r1 by_short slot h e (ap (is_role short) is))

  pub dependent_losses : (k : ℕ) → Counts (IsLostAt r2 kept) k → Counts (LosesAs s reach kept attaches) k
  dependent_losses k counts =
      losses_as attaches kept r2 k (λ o. refl)
      (λ slot h is e. long_before slot h (ap (is_role short) is)
      (row_before long kept r1 r2 by_long slot h e (ap (is_role long) is)))
      (λ slot h is e. row_after long kept r1 r2 by_long slot h
      (row_after short reach s.handle r1 by_short slot h e (ap (is_role short) is)) (ap (is_role long) is))
      (counts_like (IsLostAt r2 kept) (IsUnder r2 (has_role attaches) kept) k
      (λ slot d. record {
        handle = d.handle;
        is_stored = d.is_stored;
        passes = is_same_role attaches (role d.handle) d.attaches;
        lost = d.lost;
      })
      (λ slot l. record {
        handle = l.handle;
        is_stored = l.is_stored;
        attaches = same_role attaches (role l.handle) l.passes;
        lost = l.lost;
      }) counts)
