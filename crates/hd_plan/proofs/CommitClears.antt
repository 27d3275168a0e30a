-- What is removed singly and what is given up with its region come to all that is left.
use Rattle.hd_plan.proofs.Basics.{Addr, AreGivenUp, AreRemovedIn, AreSettledRegions, Bool, HasForwards, HasStay, Heap, IsCondemnedRegion, IsGone, List, None, Option, PlanOf, Some, all_regions, ap, arith, both_ways, cases_Bool, cases_eq, condemned_at, false, false_from_ne_true, first_at, has-get, has_object, inl, inr, is_condemned, is_in_use, is_pinned, is_some, length, move_at, refl, region_of, subst, sym, true, ℕ, ◌-◌, ◌<◌, ◌∙◌, ◌≡◌, ◌≤◌}
use Rattle.hd_plan.proofs.{KeptObjectSteps.left_there, KeptObjectSteps.put_all, CommitShape.AreAtNewAddresses, CommitShape.AreCleared, CommitShape.IsCommitting, CommitShape.listed_at, CommitShape.move_listed, CommitShape.regions_now, CommitShape.shape_condemned, CondemnedAddresses.condemned_of, CommitGenerations.forwards_same}
use Rattle.std.specs.FinMap as fin

none_at : (h : Heap) (a : Addr) → has_object h a ≡ false → fin.get h.objects a.0 ≡ None
none_at h a none = by (fin.get h.objects a.0) (sym (has-get h a) ∙ none)
  where
    by : {A : Type 0} (o : Option A) → is_some o ≡ false → o ≡ None
    by None e = refl
    by (Some x) e = absurd (cc e)

module _ {p : PlanOf} {old h1 h2 h3 : Heap} (c : IsCommitting p old) (m : AreAtNewAddresses p old h1 h2 h3)
    {firsts : List ℕ} {cells : List Addr} (table : HasForwards p.moves p.regions firsts cells) where
  abbrev here : ℕ → Bool
  here = is_pinned p.regions firsts

  here_at : (k : ℕ) → k < length p.regions
      → here (condemned_at p.regions k).region ≡ (condemned_at p.regions k).pinned
  here_at k low =
      let e : first_at firsts (condemned_at p.regions k).region - 1 ≡ k = omega (arith, table.listed k low) in
      ap (λ j. (condemned_at p.regions j).pinned) e

  pub first_within : (j : ℕ) → j < length p.moves
      → (0 < first_at firsts (region_of (move_at p.moves j).from))
      × (first_at firsts (region_of (move_at p.moves j).from) ≤ length p.regions)
  first_within j low =
      let (k, at) = move_listed c j low in
      let first = ap (first_at firsts) (sym at.1) ∙ table.listed k at.0 in
      (omega (arith, first), omega (arith, first, at.0))

  module _ {hr : Heap} (r4 : AreRemovedIn here h3 hr p.moves (length p.moves)) where
    -- condemned regions are in use until then
    pub held_still : (k : ℕ) → k < length p.regions → is_in_use hr (condemned_at p.regions k).region ≡ true
    held_still k low =
        let r = (condemned_at p.regions k).region in
        let held = ((regions_now c).condemned k low).held in
        ap is_some (ap (λ (x : Heap). fin.get x.regions r) (r4.same ∙ ap (λ (x : Heap). record x {
          objects = hr.objects;
          cards = hr.cards;
        }) (forwards_same m)) ∙ (put_all c).room.old r held) ∙ held

    module _ {h5 : Heap} (r5 : AreGivenUp hr h5 p.regions (length p.regions)) where
      same_entry : (j k : ℕ) → j < length p.regions → k < length p.regions
          → (condemned_at p.regions j).region ≡ (condemned_at p.regions k).region → j ≡ k
      same_entry j k low high same =
          let first = sym (table.listed j low) ∙ ap (first_at firsts) same ∙ table.listed k high in omega
          arith

      -- what is in a region that stays, or in one that is not listed, is as before
      -- what is in a region that stays is as before
      stays_as : (a : Addr) (k : ℕ) → k < length p.regions → (condemned_at p.regions k).region ≡ region_of a
          → (condemned_at p.regions k).pinned ≡ true → fin.get h5.objects a.0 ≡ fin.get hr.objects a.0
      stays_as a k low same pinned = r5.left a (λ j within unpinned other.
          both_ways _ unpinned (ap (λ i. (condemned_at p.regions i).pinned)
          (same_entry j k within low (other ∙ sym same)) ∙ pinned))

      gone_all : (a : Addr) → IsGone p a → fin.get h5.objects a.0 ≡ None
      gone_all a (inl e) =
          let (k, at) = move_listed c e.at e.before in
          let inside : (condemned_at p.regions k).region ≡ region_of a = at.1 ∙ ap region_of e.is in
          elim (cases_Bool (condemned_at p.regions k).pinned) [
            | inl pinned ↦ stays_as a k at.0 inside pinned
                ∙ r4.gone a e (ap here (sym inside) ∙ here_at k at.0 ∙ pinned)
            | inr unpinned ↦ r5.gone k at.0 unpinned a (sym inside)
          ]
      gone_all a (inr (gone, none)) =
          let is : is_condemned old p.basis.condemned a ≡ true =
          shape_condemned c.same p.basis.condemned a ∙ gone in
          let (k, at) = listed_at c a (condemned_of old p.basis.condemned a is) in
          let unpinned : (condemned_at p.regions k).pinned ≡ false =
          false_from_ne_true _ (λ pinned. let stay = ((regions_now c).pinned k at.0).0 pinned in
          none stay.at stay.within (stay.region ∙ at.1)) in
          r5.gone k at.0 unpinned a (sym at.1)

      others_all : (a : Addr) → (IsGone p a → ⊥)
          → fin.get h5.objects a.0 ≡ fin.get h3.objects a.0
      others_all a none =
          elim (cases_eq (first_at firsts (region_of a)) 0) [
            | inl zero ↦ r5.left a (λ k low unpinned same.
                let first = ap (first_at firsts) same in
                omega (arith, first, table.listed k low, zero)) ∙ before
            | inr some ↦
                let (k, at) = table.others (region_of a) some in
                elim (cases_Bool (condemned_at p.regions k).pinned) [
                  | inl pinned ↦ stays_as a k at.0 at.1 pinned ∙ before
                  | inr unpinned ↦
                      let young = subst (IsCondemnedRegion old p.basis.condemned) at.1
                      ((regions_now c).condemned k at.0) in
                      let rests : HasStay p.moves (region_of a) → ⊥ = λ stay. both_ways _ unpinned
                      (((regions_now c).pinned k at.0).1 (subst (HasStay p.moves) (sym at.1) stay)) in
                      r5.gone k at.0 unpinned a (sym at.1)
                      ∙ sym (none_at h3 a (false_from_ne_true (has_object h3 a) (λ there.
                      none (left_there c m.copied m.carded m.stayed a there young rests))))
                ]
          ]
        where
          before : fin.get hr.objects a.0 ≡ fin.get h3.objects a.0
          before = r4.others a (λ e. absurd (none (inl e)))

      pub cleared : AreCleared p h3 h5
      cleared = record {
        gone = gone_all;
        others = others_all;
        cards = λ a there. let was = r5.cards a there in was.1 ∙ r4.cards a was.0;
        regions = subst (λ rs. AreSettledRegions rs h5.regions p.regions (length p.regions))
            (ap (λ (x : Heap). x.regions) r4.same) r5.regions;
        limit = r5.limit ∙ ap (λ (x : Heap). x.limit) r4.same;
        number = r5.number ∙ ap {B = ℕ} (λ (x : Heap). all_regions x) r4.same;
      }
