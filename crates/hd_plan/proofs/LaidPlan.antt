-- All that is kept has a move, and all regions are listed: the plan is laid.
use Rattle.hd_heap.proofs.NextObjects.{condemned_has, generation_is}
use Rattle.hd_model.proofs.PropertyCounts.{counts_join, counts_once}
use Rattle.hd_model.specs.declared.limits.TheConstants.{REGIONS}
use Rattle.hd_plan.specs.{Inside.HasForwards, Inside.IsLaidTo, Inside.forwarding_from, Layout.HasMove}
use Rattle.hd_plan.proofs.Basics.{Addr, AllocCursors, AreMoves, Bool, Counts, Extent, HasNoEmptyCondemned, Heap, IsClosed, IsCondemned, IsExtent, IsField, IsLaid, IsSettled, IsSound, List, PlanOf, REGION, and_from, and_parts, ap, arith, both_ways, cases_Bool, cases_eq, count_by, counts_le, counts_like, counts_where, false, first_at, has_object, inl, inr, is_condemned, is_kept_fate, is_staying, kept_in, length, move_at, not, not-true, object_at, objects_of, forwarding_among, forwarding_in, region_generation, region_of, stays_in, subst, suc, sym, true, true≢false, zero, ℕ, ⊎_elim, ◌+◌, ◌-◌, ◌<◌, ◌^◌, ◌∙◌, ◌≡◌, ◌≤◌, ◌⊎◌}
use Rattle.hd_plan.proofs.{CondemnedAddresses.condemned_is, CondemnedAddresses.condemned_of, CondemnedAddresses.older_or_young, CondemnedAddresses.region_young, CondemnedAddresses.same_tests, KeptMoves.IsKeptBy, KeptMoves.is_condemned_at, KeptMoves.older_kept, KeptMoves.older_forwarding, KeptMoves.move_kept, KeptMoves.move_forwarding, KeptMoves.kept_cases, KeptMoves.keeping, KeptMoves.pinned_address, KeptMoves.staying_is, MoveWeights.counts_moves, LayStep.address_low, LayStep.moves_like, RegionList.region_condemned, RegionList.regions_like}

-- what a plan that was laid promises
pub record IsLaidFrom (p : PlanOf) (promoted pinned : Addr → Bool) : Type 0 where
  pub laid : IsLaid p
  pub kept : (a : Addr) → kept_in p a ≡ promoted a
  pub in_place : (a : Addr) → promoted a ≡ true → pinned a ≡ true → forwarding_in p a ≡ a
  pub stays : Counts
      (λ a. IsCondemned (objects_of p.basis) p.basis.condemned a × (promoted a ≡ true) × (pinned a ≡ true))
      (stays_in p)

module _ {p : PlanOf} {promoted pinned : Addr → Bool} {firsts : List ℕ} {cells : List Addr}
    {cursors : AllocCursors} (sound : IsSound p.basis.heap)
    (laid : IsLaidTo p.basis.heap p.basis.condemned promoted pinned p.moves p.regions firsts cells cursors
    REGIONS)
    (settled : IsSettled (objects_of p.basis) p.basis.condemned promoted) where
  abbrev h : Heap
  h = p.basis.heap

  abbrev n : ℕ
  n = p.basis.condemned

  moves : AreMoves h n p.moves
  moves = moves_like laid.laying.to (λ a is. is.0)
      (λ a of. (of, let low = (address_low h sound a (condemned_has h n a of)).1 in omega arith))
      (λ a passed. passed.none)

  -- a condemned object that is promoted has a move
  moved : (a : Addr) → is_condemned h n a ≡ true → promoted a ≡ true → HasMove p.moves a
  moved a is e =
      ⊎_elim (λ at. at) (λ passed. absurd (both_ways _ passed.unkept e))
      (laid.laying.to.all a (is, (let low = (address_low h sound a (condemned_has h n a is)).1 in omega arith)))

  kept_promoted : (a : Addr) → kept_in p a ≡ true → promoted a ≡ true
  kept_promoted a e = elim (kept_cases sound moves a e) [
    | inl older ↦ settled.older a older
    | inr (k, by) ↦ subst (λ (x : Addr). promoted x ≡ true) by.from
        (sym (laid.laying.chosen.kept k by.within) ∙ by.kept)
  ]

  promoted_kept : (a : Addr) → promoted a ≡ true → kept_in p a ≡ true
  promoted_kept a e = elim (older_or_young h n a (settled.objects a e)) [
    | inl older ↦ older_kept sound moves a older
    | inr young ↦
        let (k, at) = moved a young e in
        subst (λ (x : Addr). kept_in p x ≡ true) at.1
        (move_kept sound moves k at.0 ∙ laid.laying.chosen.kept k at.0 ∙ ap promoted at.1 ∙ e)
  ]

  stays_at : (k : ℕ) → k < length p.moves → (a : Addr) → (move_at p.moves k).from ≡ a → promoted a ≡ true
      → pinned a ≡ true → is_staying (move_at p.moves k).fate ≡ true
  stays_at k low a at e f =
      laid.laying.chosen.stays k low ∙ and_from _ _ (ap promoted at ∙ e) (ap pinned at ∙ f)

  pub laid_from : n ≤ 2 → IsClosed (IsField (objects_of p.basis)) promoted → HasNoEmptyCondemned h n
      → IsLaidFrom p promoted pinned
  laid_from generation closed full =
      let is : (a : Addr) → kept_in p a ≡ promoted a =
      λ a. same_tests (kept_in p a) (promoted a) (kept_promoted a) (promoted_kept a) in
      record {
        laid = record {
          sound = sound;
          generation = generation;
          moves = moves;
          regions = regions_like laid.regions (λ r has. region_condemned sound has.0) (λ r at.
              let start = full r at in
              let young = at.young in
              let same = generation_is h start.at start.object in
              let condemned = condemned_is h n start.at (record {
                object = start.object;
                young = omega (arith, same, ap (region_generation h) start.region);
              }) in
              ((start.at, (condemned, start.region)), (sound.numbers r at.held).1));
          keeping = keeping sound moves;
          closed = λ a y kept field. is y ∙ closed a y (sym (is a) ∙ kept) field;
        };
        kept = is;
        in_place = λ a e f. elim (older_or_young h n a (settled.objects a e)) [
          | inl older ↦ older_forwarding sound moves a older
          | inr young ↦
              let (k, at) = moved a young e in
              subst (λ (x : Addr). forwarding_in p x ≡ x) at.1 (move_forwarding sound moves k at.0
              ∙ pinned_address sound moves k at.0 (staying_is _ (stays_at k at.0 a at.1 e f)))
        ];
        stays = counts_moves p.moves moves.rising (λ m. is_staying m.fate)
            (λ a. IsCondemned (object_at h) n a × (promoted a ≡ true) × (pinned a ≡ true))
            (λ k low stays. let both = and_parts _ _ (sym (laid.laying.chosen.stays k low) ∙ stays) in
            (is_condemned_at sound moves k low, both.0, both.1))
            (λ a is. let (k, at) = moved a (condemned_is h n a is.0) is.1 in
            (k, (at.0, (at.1, stays_at k at.0 a at.1 is.1 is.2))));
      }

-- the new address of a kept object is found in the table
pub forwarding_found : {p : PlanOf} {firsts : List ℕ} {cells : List Addr} → IsLaid p
    → HasForwards p.moves p.regions firsts cells → (a : Addr) → kept_in p a ≡ true
    → forwarding_among firsts cells a ≡ forwarding_in p a
forwarding_found {p} {firsts} {cells} laid is a kept_is =
    let h : Heap = p.basis.heap in
    elim (kept_cases laid.sound laid.moves a kept_is) [
      | inl older ↦
          let none : first_at firsts (region_of a) ≡ 0 =
          elim (cases_eq (first_at firsts (region_of a)) 0) [
            | inl none ↦ none
            | inr some ↦
                let (k, at) = is.others (region_of a) some in
                let young = (laid.regions.condemned k at.0).young in
                absurd (let known = generation_is h a (laid.keeping.objects a kept_is) in
                omega (arith, known, ap (region_generation h) at.1))
          ] in
          ap (λ x. forwarding_from x cells a) none ∙ sym (older_forwarding laid.sound laid.moves a older)
      | inr (j, by) ↦
          subst (λ (x : Addr). forwarding_among firsts cells x ≡ forwarding_in p x) by.from (
          let from : Addr = (move_at p.moves j).from in
          let (k, at) = laid.regions.all (region_of from)
          (region_young laid.sound from (is_condemned_at laid.sound laid.moves j by.within)) in
          let first : first_at firsts (region_of from) ≡ suc k =
          ap (first_at firsts) (sym at.1) ∙ is.listed k at.0 ∙ omega arith in
          ap (λ x. forwarding_from x cells from) first
          ∙ is.forwards j k by.within at.0 at.1
          ∙ sym (move_forwarding laid.sound laid.moves j by.within))
    ]
