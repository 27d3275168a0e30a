-- What a heap has after a region was given up with its objects.
use Rattle.hd_heap.proofs.Basics.{Addr, CARDS, Heap, IsSound, None, REGION, [], and-false, and-true, ap, arith, card_of, cases_eq, cond, eq-eqb, false, false_from_ne_true, has_object, inl, inr, is_set, nat_eq, ne_eqb, not, region_of, sym, true, without_region, ℕ, ◌&&◌, ◌++◌, ◌/◌, ◌∙◌, ◌∷◌, ◌≡◌, ◌≢◌}
use Rattle.hd_heap.proofs.{HeapValues.not_there, RegionReads.has-get, RegionWrites.same_maps, RegionWrites.same_sets}
use Rattle.std.specs.FinMap as fin
use Rattle.std.specs.FinSet as set_of

kept_there : (n r : ℕ) → n ≡ r → not (nat_eq n r) ≡ false
kept_there n r same = ap not (eq-eqb n r same)

kept_elsewhere : (n r : ℕ) → n ≢ r → not (nat_eq n r) ≡ true
kept_elsewhere n r apart = ap not (ne_eqb n r apart)

module _ (h : Heap) (r : ℕ) where
  -- a number is kept by its region
  pub objects_by : (a : ℕ)
      → fin.get (without_region h r).objects a ≡ cond (not (nat_eq (a / REGION) r)) (fin.get h.objects a) None
  objects_by a = fin.get-retain_keys h.objects (λ n. not (nat_eq (n / REGION) r)) a
      (λ x tie. ap (λ n. not (nat_eq (n / REGION) r)) (sym (fin.nat_cmp-IsAntisymmetric a x tie)))

  pub cards_by : (c : ℕ) → is_set (without_region h r) c ≡ (is_set h c && not (nat_eq (c / CARDS) r))
  cards_by c = set_of.contains-retain h.cards (λ n. not (nat_eq (n / CARDS) r)) c
      (λ x tie. ap (λ n. not (nat_eq (n / CARDS) r)) (sym (fin.nat_cmp-IsAntisymmetric c x tie)))

  -- an object of the region is gone, and one of another region is as before
  pub object_gone : (a : Addr) → region_of a ≡ r → fin.get (without_region h r).objects a.0 ≡ None
  unfolding region_of
  object_gone a is =
      objects_by a.0 ∙ ap (λ b. cond b (fin.get h.objects a.0) None) (kept_there (a.0 / REGION) r is)

  pub object_left : (a : Addr) → region_of a ≢ r
      → fin.get (without_region h r).objects a.0 ≡ fin.get h.objects a.0
  unfolding region_of
  object_left a apart = objects_by a.0
      ∙ ap (λ b. cond b (fin.get h.objects a.0) None) (kept_elsewhere (a.0 / REGION) r apart)

  -- so it is with cards
  pub card_gone : (c : ℕ) → c / CARDS ≡ r → is_set (without_region h r) c ≡ false
  card_gone c is = cards_by c ∙ ap (λ b. is_set h c && b) (kept_there (c / CARDS) r is) ∙ and-false
      (is_set h c)

  pub card_left : (c : ℕ) → c / CARDS ≢ r → is_set (without_region h r) c ≡ is_set h c
  card_left c apart = cards_by c ∙ ap (λ b. is_set h c && b) (kept_elsewhere (c / CARDS) r apart)
      ∙ and-true (is_set h c)

  -- where it had no object, nothing else changes
  pub released : IsSound h → ((a : Addr) → has_object h a ≡ true → region_of a ≢ r)
      → without_region h r ≡ record h { regions = fin.remove h.regions r; free = h.free ++ r ∷ [] }
  unfolding region_of card_of
  released sound none = λ i. record h {
    objects = objects i;
    regions = fin.remove h.regions r;
    free = h.free ++ r ∷ [];
    cards = cards i;
  }
    where
      objects : (without_region h r).objects ≡ h.objects
      objects = same_maps (λ q. elim (cases_eq (q / REGION) r) [
        | inl same ↦ object_gone (record { 0 = q }) same
            ∙ sym (not_there (fin.get h.objects q) (false_from_ne_true _
            (λ is. none (record { 0 = q }) (has-get h (record { 0 = q }) ∙ is) same)))
        | inr apart ↦ object_left (record { 0 = q }) apart
      ])

      cards : (without_region h r).cards ≡ h.cards
      cards = same_sets (λ c. elim (cases_eq (c / CARDS) r) [
        | inl same ↦ card_gone c same ∙ sym (false_from_ne_true (is_set h c) (λ set.
            let s = sound.cards c set in none s.at s.object (omega (arith, s.in_card, same))))
        | inr apart ↦ card_left c apart
      ])
