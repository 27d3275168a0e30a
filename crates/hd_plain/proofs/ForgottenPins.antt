-- What handles pin is what is marked of their slots, and the other objects lose their pinned addresses.
use Rattle.hd_model.proofs.Basics.{Bool, Contains, Decides, FinMap, Handle, IsPinned, List, None, Option, Some, State, ap, arith, cond, cond-true, false, get, is_pinned, is_some, keys, length, map, nat_cmp, none-some, pins, pinned_by, refl, same_from_decides, subst, sym, true, ℕ, ⊎_elim, [], ◌∙◌, ◌∷◌, ◌≡◌}
use Rattle.hd_model.specs.declared.data.Id.{Id}
use Rattle.hd_model.proofs.MapBuild.{in_keys}
use Rattle.hd_model.proofs.Members.{mapped_from, mapped_in, not_in_none}
use Rattle.hd_model.proofs.PinTest.{pinned_decides}
use Rattle.hd_plain.specs.Collecting.{id_of}
use Rattle.hd_plain.specs.Inside.{pass, without_one, is_marked, with_targets, no_marks, pinned_at}
use Rattle.hd_maps.proofs.ListBuilds.{IsLive, Lists, keys_listed}
use Rattle.hd_plain.specs.Marked.{Marked}
use Rattle.hd_plain.proofs.CollectionPasses.{cond_none, addresses_after}
use Rattle.hd_plain.proofs.MarkedSets.{gains_targets}
use Rattle.hd_plain.proofs.RootMarks.{nothing_marked}

module _ (s : State) (slots : List ℕ) (live : Lists (IsLive s.handles) slots) (a : Marked)
    (is : a ≡ with_targets no_marks (map (pinned_at s.handles) slots)) where
  pinned_by_some : (slot : ℕ) (x : Id) (o : Option (Handle Id)) → get s.handles slot ≡ o
      → pinned_by o ≡ Some x → IsPinned (λ q. get s.handles q) x
  pinned_by_some slot x None e h = absurd (none-some x h)
  pinned_by_some slot x (Some g) e h = by (pins g) refl h
    where
      by : (b : Bool) → pins g ≡ b → cond b g.target None ≡ Some x → IsPinned (λ q. get s.handles q) x
      by true p t = record { slot = slot; handle = g; is_stored = e; pins = p; target = t }
      by false p t = absurd (none-some x t)

  marked_pinned : (x : Id) → Decides (is_marked a x) (IsPinned (λ q. get s.handles q) x)
  marked_pinned x =
      let targets = map (pinned_at s.handles) slots in
      let marks = gains_targets no_marks targets in (
        λ h. ⊎_elim (λ none. absurd (nothing_marked x none))
            (λ among. let (slot, rest) = mapped_from (pinned_at s.handles) slots (Some x) among in
            pinned_by_some slot x (get s.handles slot) refl rest.1)
            (marks.only x (subst (λ m. is_marked m x ≡ true) is h)),
        λ p. subst (λ m. is_marked m x ≡ true) (sym is)
            (marks.joins x.0 (subst (λ o. Contains targets o)
            (ap pinned_by p.is_stored ∙ cond-true (pins p.handle) p.handle.target None p.pins ∙ p.target)
            (mapped_in (pinned_at s.handles) slots p.slot (live.all p.slot (ap is_some p.is_stored))))),
      )

  pinned_is : (k : ℕ) → is_marked a (id_of k) ≡ is_pinned s.handles k
  pinned_is k =
      same_from_decides (is_marked a (id_of k)) (is_pinned s.handles k) (marked_pinned (id_of k))
      (pinned_decides s.handles (id_of k))

  -- the pinned addresses without those of objects that no handle pins
  pub pinned_left : (ids : List ℕ) → ids ≡ keys s.pinned → (after : FinMap nat_cmp ℕ)
      → after ≡ pass (without_one (is_marked a)) s.pinned ids → (k : ℕ)
      → get after k ≡ cond (is_pinned s.handles k) (get s.pinned k) None
  pinned_left ids ids_are after e k =
      ap (λ m. get m k) e ∙ addresses_after (is_marked a) s.pinned ids (keys_listed s.pinned ids ids_are) k
      ∙ ap (λ b. cond b (get s.pinned k) None) (pinned_is k)

-- where no object has one, none loses it
pub none_pinned : (s : State) (ids : List ℕ) → ids ≡ keys s.pinned → length ids ≡ 0 → (k : ℕ)
    → get s.pinned k ≡ cond (is_pinned s.handles k) (get s.pinned k) None
none_pinned s ids ids_are empty k = by (get s.pinned k) refl
  where
    never : (xs : List ℕ) → length xs ≡ 0 → (j : ℕ) → Contains xs j → ⊥
    never [] none j h = not_in_none j h
    never (x ∷ xs) none j h = absurd (omega (arith, none))

    by : (o : Option ℕ) → get s.pinned k ≡ o → o ≡ cond (is_pinned s.handles k) o None
    by None e = sym (cond_none (is_pinned s.handles k))
    by (Some p) e =
        absurd (never ids empty k (subst (λ ks. Contains ks k) (sym ids_are)
        (in_keys s.pinned k (ap is_some e))))
