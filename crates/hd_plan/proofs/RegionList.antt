-- Condemned regions are laid one after another: each is listed, and its objects have their new addresses in
-- the table.
use Rattle.hd_plan.proofs.Basics.{Addr, AllocCursors, AreRegionsOf, Bool, Condemned, Contains, Counts, HasCondemned, HasForwards, HasStay, Heap, IsCondemnedRegion, IsLaying, IsSound, List, Move, REGION, [], ap, arith, cases_eq, cases_lt, cell_at, condemned_at, false, first_at, fewer, get_or-map, get_or-set_other, get_or-set_same, inl, inr, is_condemned, length, length-map, map, member_cases, move_at, pairs_cons, raised, refl, region_generation, set, slice_index_or, spot_in, subst, sym, true, ℕ, ⊎_elim, ◌*◌, ◌++◌, ◌+◌, ◌<◌, ◌∙◌, ◌∷◌, ◌≡◌, ◌≢◌, ◌≤◌, ◌↔◌}
use Rattle.std.proofs.Common.{replicate}
use Rattle.hd_model.proofs.ReadAfterWrite.{replicate_cases}
use Rattle.hd_model.specs.{Heap.region_of, declared.limits.TheConstants.REGIONS}
use Rattle.hd_heap.proofs.NextObjects.{condemned_has}
use Rattle.hd_plan.specs.{Layout.room_at, Inside.AreLaidIn, Inside.AreRegionsTo, Inside.IsLaidTo}
use Rattle.hd_plan.proofs.{CondemnedAddresses.condemned_of, CondemnedAddresses.region_young, LayStep.address_low, LayStep.laying_past, LayStep.laying_start, LayStep.push_each, LayStep.push_found, LayStep.push_length, LayStep.push_rising}

-- no region is listed in a new table
pub forwards_none : (end : ℕ) (firsts : List ℕ) (cells : List Addr) → firsts ≡ replicate end 0
    → HasForwards [] [] firsts cells
forwards_none end firsts cells new = record {
  listed = λ k low. absurd (omega arith);
  others = λ r some. absurd (some (ap (λ ns. first_at ns r) new
      ∙ replicate_cases (λ x. x ≡ 0) end r 0 0 refl refl));
  spots = omega arith;
  forwards = λ j k low high. absurd (omega arith);
}

abbrev no_region : Condemned
no_region = record { region = 0; generation = 0; pinned = false }

-- regions of a property are those of another where these are the same
pub regions_like : {P Q : ℕ → Type 0} {h : Heap} {n : ℕ} {ms : List Move} {cs : List Condemned}
    → AreRegionsOf P h n ms cs → ((r : ℕ) → P r → Q r) → ((r : ℕ) → Q r → P r) → AreRegionsOf Q h n ms cs
regions_like is on back = record {
  condemned = λ k low. on _ (is.condemned k low);
  rising = is.rising;
  all = λ r has. is.all r (back r has);
  generations = is.generations;
  pinned = is.pinned;
}

module _ {h : Heap} (sound : IsSound h) {n : ℕ} where
  -- a region with a condemned object is a condemned one
  pub region_condemned : {r : ℕ} → HasCondemned h n r → IsCondemnedRegion h n r
  region_condemned (a, (is, region)) =
      subst (IsCondemnedRegion h n) region (region_young sound a (condemned_of h n a is))

  -- there are fewer regions listed than have condemned objects, where one is not listed
  pub regions_few : (r : ℕ) {ms : List Move} {cs : List Condemned} {count : ℕ} → AreRegionsTo h n ms cs r
      → HasCondemned h n r → Counts (HasCondemned h n) count → length cs < count
  regions_few r {ms} {cs} {count} is next counts =
      let numbers : List ℕ = map (λ (x : Condemned). x.region) cs in
      let at : (k : ℕ) (d : ℕ) → k < length cs → slice_index_or numbers k d ≡ (condemned_at cs k).region =
      λ k d low. get_or-map (λ (x : Condemned). x.region) cs k no_region d low in
      let short : length numbers ≡ length cs = length-map cs (λ (x : Condemned). x.region) in
      let found : (q : ℕ) → Contains numbers q
      → (k : ℕ) × ((k < length cs) × ((condemned_at cs k).region ≡ q)) =
      λ q c. (c.0, (omega (arith, c.1, short), sym (at c.0 q (omega (arith, c.1, short))) ∙ c.2)) in
      let fit = fewer (r ∷ numbers) counts.members
      (pairs_cons (λ x y. x ≢ y) r _ (λ q c same. let (k, is2) = found q c in
      omega (arith, (is.condemned k is2.0).1, is2.1, same))
      (λ i j d less high same.
      let up = is.rising i j less (omega (arith, high, short)) in
      let first = at i d (omega (arith, less, high, short)) in
      omega (arith, up, first, at j d (omega (arith, high, short)), same)))
      (λ q c. counts.all q (elim (member_cases r _ q c) [
        | inl same ↦ subst (HasCondemned h n) same next
        | inr later ↦
            let (k, is2) = found q later in subst (HasCondemned h n) is2.1 (is.condemned k is2.0).0
      ])) in
      omega (arith, fit, short, counts.number)

  module _ {promoted pinned : Addr → Bool} where
    -- before the first region
    pub laid_start : (firsts : List ℕ) (cells : List Addr) → HasForwards [] [] firsts cells
        → IsLaidTo h n promoted pinned [] [] firsts cells
        (record { first = record { region = 0; fill = 0 }; second = record { region = 0; fill = 0 }; opened = 0 })
        1
    laid_start firsts cells forwards = record {
      laying = laying_past sound (laying_start h n promoted pinned) (1 * REGION) (omega arith)
          (λ a is low. omega (arith, (address_low h sound a (condemned_has h n a is)).0));
      regions = record {
        condemned = λ k low. absurd (omega arith);
        rising = λ j k less low. absurd (omega arith);
        all = λ r is. absurd (omega (arith, (sound.numbers r (region_condemned is.0).held).0, is.1));
        generations = λ k low. absurd (omega arith);
        pinned = λ k low. absurd (omega arith);
      };
      forwards = forwards;
    }

    -- no condemned object is in the regions between two numbers
    pub laid_past : {ms : List Move} {cs : List Condemned} {firsts : List ℕ} {cells : List Addr}
        {cursors : AllocCursors} {low : ℕ} (high : ℕ)
        → IsLaidTo h n promoted pinned ms cs firsts cells cursors low → low ≤ high
        → ((a : Addr) → is_condemned h n a ≡ true → low ≤ region_of a → high ≤ region_of a)
        → IsLaidTo h n promoted pinned ms cs firsts cells cursors high
    unfolding region_of
    laid_past {ms} {cs} {firsts} {cells} {cursors} {low} high is up none = record {
      laying = laying_past sound is.laying (high * REGION)
          (omega (arith, up)) (λ a of from. omega (arith, none a of (omega (arith, from))));
      regions = regions_like is.regions (λ r has. (has.0, omega (arith, has.1, up))) (λ r has. (
        has.0,
        elim (cases_lt r low) [
          | inl before ↦ before
          | inr from ↦
              let up = none has.0.0 has.0.1.0 (omega (arith, from, has.0.1.1)) in
              absurd (omega (arith, up, has.0.1.1, has.1))
        ],
      ));
      forwards = is.forwards;
    }

    -- none is left
    pub laid_done : {ms : List Move} {cs : List Condemned} {firsts : List ℕ} {cells : List Addr}
        {cursors : AllocCursors} {low : ℕ} → IsLaidTo h n promoted pinned ms cs firsts cells cursors low
        → low ≤ REGIONS → ((a : Addr) → is_condemned h n a ≡ true → region_of a < low)
        → IsLaidTo h n promoted pinned ms cs firsts cells (room_at h ms (length ms)).cursors REGIONS
    laid_done {ms} {cs} {firsts} {cells} is up none =
        subst (λ (s : AllocCursors). IsLaidTo h n promoted pinned ms cs firsts cells s REGIONS)
        (sym is.laying.cursors_are)
        (laid_past REGIONS is up (λ a of from. absurd (omega (arith, none a of, from))))

    -- one region more is laid
    module _ {ms new : List Move} {cs : List Condemned} {firsts : List ℕ} {cells after : List Addr}
        {old : AllocCursors} (x : Condemned)
        (so_far : IsLaidTo h n promoted pinned ms cs firsts cells old x.region)
        (some : HasCondemned h n x.region)
        (these : AreLaidIn ms new x.region (length cs) x.pinned cells after) where
      -- no object of the region has a move before
      none_before : HasStay ms x.region → ⊥
      unfolding region_of
      none_before is = omega (arith, (so_far.laying.to.condemned is.at is.within).1, is.region)

      below : (k : ℕ) → k < length cs → (condemned_at cs k).region < x.region
      below k low = (so_far.regions.condemned k low).1

      regions_more : x.generation ≡ raised n (region_generation h x.region)
          → AreRegionsTo h n new (cs ++ x ∷ []) (x.region + 1)
      regions_more generation =
          let is = so_far.regions in
          record {
            condemned = push_each no_region cs x
                (λ k y. HasCondemned h n y.region × (y.region < x.region + 1))
                (λ k low. ((is.condemned k low).0, omega (arith, below k low))) (some, omega arith);
            rising = push_rising no_region cs x (λ y. y.region) is.rising below;
            all = λ q has. push_found no_region cs x (λ y. y.region ≡ q) (elim (cases_eq q x.region) [
              | inl same ↦ inl (sym same)
              | inr other ↦ inr (is.all q (has.0, omega (arith, has.1, other)))
            ]);
            generations = push_each no_region cs x
                (λ k y. y.generation ≡ raised n (region_generation h y.region)) is.generations generation;
            pinned = push_each no_region cs x (λ k y. (y.pinned ≡ true) ↔ HasStay new y.region)
                (λ k low. (
                  λ e. (these.stays _).1 (inl ((is.pinned k low).0 e)),
                  λ stay. ⊎_elim (λ was. (is.pinned k low).1 was)
                      (λ now. absurd (omega (arith, below k low, now.1))) ((these.stays _).0 stay),
                )) (
                  λ e. (these.stays x.region).1 (inr (e, refl)),
                  λ stay. ⊎_elim (λ was. absurd (none_before was)) (λ now. now.0) ((these.stays x.region).0 stay),
                );
          }

      forwards_more : x.region < length firsts → REGION * (length cs + 1) ≤ length cells
          → HasForwards new (cs ++ x ∷ []) (set firsts x.region (length cs + 1)) after
      forwards_more span room =
          let is = so_far.forwards in
          let there : (q : ℕ) → q ≢ x.region → first_at (set firsts x.region (length cs + 1)) q ≡ first_at firsts q =
          λ q apart. get_or-set_other firsts x.region q (length cs + 1) 0 apart in
          record {
            listed = push_each no_region cs x
                (λ k y. first_at (set firsts x.region (length cs + 1)) y.region ≡ k + 1)
                (λ k low. there _ (λ e. omega (arith, below k low, e)) ∙ is.listed k low)
                (get_or-set_same firsts x.region (length cs + 1) 0 span);
            others = λ q first. push_found no_region cs x (λ y. y.region ≡ q) (elim (cases_eq q x.region) [
              | inl same ↦ inl (sym same)
              | inr other ↦ inr (is.others q (λ e. first (there q other ∙ e)))
            ]);
            spots = omega (arith, room, push_length no_region cs x, these.long);
            forwards = λ j k low high. push_each no_region cs x
                (λ i y. y.region ≡ region_of (move_at new j).from
                → cell_at after (spot_in i (move_at new j).from) ≡ (move_at new j).to)
                (λ i inside same. ⊎_elim (λ here. absurd (omega (arith, below i inside, same, here)))
                (λ was. subst (λ (m : Move). cell_at after (spot_in i m.from) ≡ m.to) (sym was.1)
                (these.same _ (omega (arith, inside))
                ∙ is.forwards j i was.0 inside (same ∙ ap (λ (m : Move). region_of m.from) was.1))) (these.each j low))
                (λ same. these.placed j low (sym same)) k high;
          }

      pub laid_region : {cursors : AllocCursors}
          → IsLaying h n promoted pinned new cursors ((x.region + 1) * REGION)
          → x.generation ≡ raised n (region_generation h x.region) → x.region < length firsts
          → REGION * (length cs + 1) ≤ length cells
          → IsLaidTo h n promoted pinned new (cs ++ x ∷ []) (set firsts x.region (length cs + 1)) after cursors
          (x.region + 1)
      laid_region laying generation span room = record {
        laying = laying;
        regions = regions_more generation;
        forwards = forwards_more span room;
      }
