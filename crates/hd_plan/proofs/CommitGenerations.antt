-- The regions and the cards after the moving: what its last steps leave.
use Rattle.hd_heap.proofs.NextObjects.{generation_is}
use Rattle.hd_plan.proofs.Basics.{Addr, HasStay, Heap, IsCondemnedRegion, None, Option, PlanOf, Region, Some, ap, arith, both_ways, cases_lt, condemned_at, drop, false, false_from_ne_true, generation_at, inl, inr, is_in_use, is_staying, kept_in, length, move_at, object_at, forwarding_in, raised, raised_older, refl, region_at, region_generation, region_of, room_at, subst, sym, true, unwrap_or, young_raised, ℕ, ◌<◌, ◌∙◌, ◌≡◌, ◌≤◌}
use Rattle.hd_plan.proofs.{KeptMoves.moving_or_staying, KeptMoves.raised_most, CondemnedAddresses.region_young, CommitCopies.no_region, CommitShape.AreAtNewAddresses, CommitShape.AreMoved, CommitShape.IsCommitting, CommitShape.moves_now, CommitShape.regions_now, KeptObjectSteps.kept_by, KeptObjectSteps.forwarding_older, KeptObjectSteps.kept_object, KeptObjectSteps.from_condemned, KeptObjectSteps.stays_there, KeptObjectSteps.put_all}
use Rattle.std.specs.FinMap as fin

pub raised_above : (n g : ℕ) → g ≤ 2 → g ≤ raised n g
raised_above n g low = elim (cases_lt n g) [
  | inl older ↦ omega (arith, raised_older n g older)
  | inr young ↦ omega (arith, young_raised n g young, low)
]

-- what is older has a generation no younger one gets more than
pub raised_within : (n g f : ℕ) → g ≤ n → n < f → raised n g ≤ raised n f
raised_within n g f young older = omega (arith, young_raised n g young, raised_older n f older, young, older)

pub raised_some : (n g : ℕ) → 0 < raised n g
raised_some n g = elim (cases_lt n g) [
  | inl older ↦ omega (arith, raised_older n g older, older)
  | inr young ↦ (raised_most n g young).0
]

-- what the first steps leave as it was
pub forwards_same : {p : PlanOf} {old h1 h2 h3 : Heap} → AreAtNewAddresses p old h1 h2 h3
    → h3 ≡ record old {
      objects = h3.objects;
      regions = (room_at old p.moves (length p.moves)).regions;
      free = drop (room_at old p.moves (length p.moves)).cursors.opened old.free;
    }
forwards_same {p} {old} {h1} {h2} {h3} m =
    m.stayed.same ∙ ap (λ (k : Heap). record k { objects = h3.objects }) m.carded.same
    ∙ ap (λ (k : Heap). record k { objects = h3.objects }) m.copied.same

-- the next generation of a region is one
pub settled_generations : {p : PlanOf} {old : Heap} → IsCommitting p old → (k : ℕ) → k < length p.regions
    → (condemned_at p.regions k).generation ≤ 2
settled_generations {p} c k within =
    let most = raised_most p.basis.condemned _ ((regions_now c).condemned k within).young in
    omega (arith, (regions_now c).generations k within, most.1)

module _ {p : PlanOf} {old h1 h2 h3 h5 : Heap} (m : AreMoved p old h1 h2 h3 h5) where
  c : IsCommitting p old
  c = m.committing

  -- the regions were those of the room
  region_room : (r : ℕ) → fin.get h3.regions r ≡ fin.get (room_at old p.moves (length p.moves)).regions r
  region_room r = ap (λ (x : Heap). fin.get x.regions r) (forwards_same m.forwards)

  region_kept : (r : ℕ) → is_in_use old r ≡ true → fin.get h3.regions r ≡ fin.get old.regions r
  region_kept r held = region_room r ∙ (put_all c).room.old r held

  -- a region that is not condemned, one that was not in use, one that stays, and one that is freed
  region_older : (r : ℕ) → (IsCondemnedRegion old p.basis.condemned r → ⊥)
      → fin.get h5.regions r ≡ fin.get h3.regions r
  region_older r other =
      m.cleared.regions.others r (λ k within same.
      other (subst (IsCondemnedRegion old p.basis.condemned) same ((regions_now c).condemned k within)))

  pub region_still : (r : ℕ) → is_in_use old r ≡ true → (IsCondemnedRegion old p.basis.condemned r → ⊥)
      → fin.get h5.regions r ≡ fin.get old.regions r
  region_still r held other = region_older r other ∙ region_kept r held

  pub region_new : (r : ℕ) → is_in_use old r ≡ false
      → fin.get h5.regions r ≡ fin.get (room_at old p.moves (length p.moves)).regions r
  region_new r new = region_older r (λ is. both_ways _ new is.held) ∙ region_room r

  pub region_raised : (r : ℕ) → IsCondemnedRegion old p.basis.condemned r → HasStay p.moves r
      → fin.get h5.regions r ≡ Some
      (record {
        generation = raised p.basis.condemned (region_at old r).generation;
        fill = (region_at old r).fill;
      })
  region_raised r young stay =
      let (k, listed) = (regions_now c).all r young in
      let n = (condemned_at p.regions k).region in
      let pinned = ((regions_now c).pinned k listed.0).1 (subst (HasStay p.moves) (sym listed.1) stay) in
      let was : region_at h3 n ≡ region_at old n = ap (λ (o : Option Region). unwrap_or o no_region)
      (region_kept n ((regions_now c).condemned k listed.0).held) in
      ap (fin.get h5.regions) (sym listed.1) ∙ m.cleared.regions.raised k listed.0 pinned
      ∙ (λ i. Some (record { generation = (regions_now c).generations k listed.0 i; fill = (was i).fill }))
      ∙ ap (λ q. Some (record {
        generation = raised p.basis.condemned (region_at old q).generation;
        fill = (region_at old q).fill;
      })) listed.1

  pub region_given_up : (r : ℕ) → IsCondemnedRegion old p.basis.condemned r → (HasStay p.moves r → ⊥)
      → fin.get h5.regions r ≡ None
  region_given_up r young none =
      let (k, listed) = (regions_now c).all r young in
      let unpinned : (condemned_at p.regions k).pinned ≡ false =
      false_from_ne_true _
      (λ pinned. none (subst (HasStay p.moves) listed.1 (((regions_now c).pinned k listed.0).0 pinned))) in
      ap (fin.get h5.regions) (sym listed.1) ∙ m.cleared.regions.given_up k listed.0 unpinned

  -- each kept object has its generation raised
  pub forwarding_generation : (a : Addr) → kept_in p a ≡ true
      → region_generation h5 (region_of (forwarding_in p a)) ≡ raised p.basis.condemned
      (generation_at (object_at old) a)
  forwarding_generation a kept = elim (kept_by c a kept) [
    | inl older ↦
        let there = kept_object c a kept in
        let same = generation_is old a there in
        ap (λ (x : Addr). region_generation h5 (region_of x)) (forwarding_older c a older)
        ∙ ap (λ (o : Option Region). (unwrap_or o no_region).generation)
        (region_still (region_of a) (c.sound.held a there) (λ is. omega (arith, is.young, same, older)))
        ∙ sym same ∙ sym (raised_older p.basis.condemned (generation_at (object_at old) a) older)
    | inr (k, by) ↦
        ap (λ (x : Addr). region_generation h5 (region_of x)) by.to
        ∙ elim (moving_or_staying (move_at p.moves k).fate by.kept) [
          | inl moving ↦
              let put = ((put_all c).put k by.within moving).fresh in
              ap (λ (o : Option Region). (unwrap_or o no_region).generation) (region_new _ put.new)
              ∙ put.generation ∙ (moves_now c).generations k by.within
          | inr pinned ↦
              let is = from_condemned c k by.within in
              let stay : HasStay p.moves (region_of (move_at p.moves k).from) =
              record { at = k; within = by.within; stays = ap is_staying pinned; region = refl } in
              ap (λ (x : Addr). region_generation h5 (region_of x)) (stays_there c k by.within pinned)
              ∙ ap (λ (o : Option Region). (unwrap_or o no_region).generation)
              (region_raised _ (region_young c.sound _ is) stay)
              ∙ ap (raised p.basis.condemned) (sym (generation_is old (move_at p.moves k).from is.object))
        ]
        ∙ ap (λ (x : Addr). raised p.basis.condemned (generation_at (object_at old) x)) by.from
  ]
