-- The kept objects at their new addresses: what each step leaves for the next.
use Rattle.hd_heap.proofs.NextObjects.{generation_is}
use Rattle.hd_plan.proofs.Basics.{Addr, AreCopied, ArePut, AreRewritten, Contains, HasStay, Heap, IsCondemned, IsCondemnedRegion, IsField, IsGone, IsStayedAt, List, None, Option, Pinned, PlanOf, Region, Some, [], and_from, and_parts, ap, arith, both_ways, cases_Bool, cases_lt, false, fields_at, fields_placed, first_in, forwarded, generation_at, has-get, has_object, inl, inr, is_carded, is_condemned, is_in_use, is_kept_fate, is_moving, is_old_carded, is_set, is_some, is_staying, kept_in, later_in, length, lt-ltb, ltb-true, map, member_same, move_at, not, object_at, option_map, forwarding_in, placed_at, refl, region_generation, subst, sym, true, true≢false, unwrap_or, ℕ, ◌<◌, ◌∙◌, ◌∷◌, ◌≡◌, ◌≢◌, ◌⊎◌}
use Rattle.hd_model.specs.Heap.{region_of, card_of}
use Rattle.hd_plan.proofs.{LayStep.address_low, RoomSteps.region_low, MoveWeights.froms_apart, CondemnedAddresses.older_or_young, CondemnedAddresses.condemned_is, CondemnedAddresses.condemned_of, KeptMoves.IsKeptBy, KeptMoves.moving_or_staying, KeptMoves.moving_kept, KeptMoves.staying_is, KeptMoves.kept_cases, KeptMoves.older_kept, KeptMoves.older_forwarding, KeptMoves.move_kept, KeptMoves.move_forwarding, KeptMoves.pinned_address, KeptMoves.put_new, KeptMoves.all_put, KeptMoves.is_condemned_at, KeptMoves.rests, KeptMoves.moves_by, KeptMoves.rests_or_moves, CommitCopies.get_placed, CommitCopies.has_alike, CommitCopies.field_alike, CommitCopies.generation_alike, CommitCopies.no_region, CommitShape.AreCleared, CommitShape.IsCommitting, CommitShape.moves_now, CommitShape.kept_now, CommitShape.closed_now, CommitShape.shape_condemned}
use Rattle.hd_plan.specs.Inside.{IsCopiedTo}
use Rattle.std.specs.FinMap as fin

-- fields that reference what stays in place are as they were
unchanged : (forwarding : Addr → Addr) (fs : List (Option Addr))
    → ((y : Addr) → Contains fs (Some y) → forwarding y ≡ y) → map (option_map forwarding) fs ≡ fs
unchanged forwarding [] still = refl
unchanged forwarding (None ∷ fs) still =
    ap (λ xs. None ∷ xs) (unchanged forwarding fs (λ y f. still y (later_in None fs (Some y) f)))
unchanged forwarding (Some x ∷ fs) still =
    λ i. Some (still x (first_in (Some x) fs) i) ∷ unchanged forwarding fs
    (λ y f. still y (later_in (Some x) fs (Some y) f)) i

region_by_card : (a b : Addr) → card_of a ≡ card_of b → region_of a ≡ region_of b
unfolding region_of card_of
region_by_card a b e = omega arith

module _ {p : PlanOf} {old : Heap} (c : IsCommitting p old) where
  -- a kept object is older, or a move keeps it
  pub kept_by : (a : Addr) → kept_in p a ≡ true
      → (p.basis.condemned < generation_at (object_at old) a) ⊎ ((k : ℕ) × IsKeptBy p.moves a k)
  kept_by a kept = kept_cases c.sound (moves_now c) a (sym (kept_now c a) ∙ kept)

  pub kept_older : (a : Addr) → p.basis.condemned < generation_at (object_at old) a → kept_in p a ≡ true
  kept_older a older = kept_now c a ∙ older_kept c.sound (moves_now c) a older

  pub forwarding_older : (a : Addr) → p.basis.condemned < generation_at (object_at old) a
      → forwarding_in p a ≡ a
  forwarding_older = older_forwarding c.sound (moves_now c)

  pub kept_move : (k : ℕ) → k < length p.moves → is_kept_fate (move_at p.moves k).fate ≡ true
      → kept_in p (move_at p.moves k).from ≡ true
  kept_move k within kept =
      kept_now c (move_at p.moves k).from ∙ move_kept c.sound (moves_now c) k within ∙ kept

  pub forwarding_move : (k : ℕ) → k < length p.moves → forwarding_in p (move_at p.moves k).from
      ≡ (move_at p.moves k).to
  forwarding_move = move_forwarding c.sound (moves_now c)

  pub from_condemned : (k : ℕ) → k < length p.moves
      → IsCondemned (object_at old) p.basis.condemned (move_at p.moves k).from
  from_condemned = is_condemned_at c.sound (moves_now c)

  pub stays_there : (k : ℕ) → k < length p.moves → (move_at p.moves k).fate ≡ Pinned
      → (move_at p.moves k).to ≡ (move_at p.moves k).from
  stays_there = pinned_address c.sound (moves_now c)

  pub put_all : ArePut old p.moves (length p.moves)
  put_all = all_put c.sound (moves_now c)

  -- what is kept is an object
  pub kept_object : (a : Addr) → kept_in p a ≡ true → has_object old a ≡ true
  kept_object a kept = c.same.objects a ∙ c.laid.keeping.objects a kept

  -- no address is 0
  pub forwarding_some : (a : Addr) → kept_in p a ≡ true → (forwarding_in p a).0 ≢ 0
  forwarding_some a kept zero = elim (rests_or_moves c.sound (moves_now c) a (sym (kept_now c a) ∙ kept)) [
    | rests object rest ↦
        omega (arith, (address_low old c.sound a object).0, ap {B = ℕ} (λ (x : Addr). x.0) rest, zero)
    | moves_by k within from moving to ↦
        let r = region_of (move_at p.moves k).to in
        let low = region_low (move_at p.moves k).to in
        let at = ap {B = ℕ} (λ (x : Addr). x.0) to in
        elim (put_all.room.held r (put_all.put k within moving).fresh.held) [
          | inl used ↦ omega (arith, (c.sound.numbers r used).0, low, at, zero)
          | inr free ↦
              omega (arith, (c.sound.free_numbers free.at free.within).0, free.number, low, at, zero)
        ]
  ]

  -- what the objects of kept moves reference is kept
  pub fields_kept : (k : ℕ) → k < length p.moves → is_kept_fate (move_at p.moves k).fate ≡ true
      → (y : Addr) → IsField (object_at old) (move_at p.moves k).from y → kept_in p y ≡ true
  fields_kept k within kept y field =
      closed_now c (move_at p.moves k).from y (kept_move k within kept) field

  -- an object that stays is condemned, and none is copied to it
  stayed_young : (a : Addr) → IsStayedAt p.moves (length p.moves) a
      → IsCondemned (object_at old) p.basis.condemned a
  stayed_young a e = subst (IsCondemned (object_at old) p.basis.condemned) e.is (from_condemned e.at e.before)

  module _ {h1 : Heap} (c1 : AreCopied (forwarding_in p) old h1 p.moves (length p.moves)) where
    has_still : (a : Addr) → has_object old a ≡ true → has_object h1 a ≡ true
    has_still a there = has_alike old h1 a (c1.objects a there) ∙ there

    generation_still : (a : Addr) → has_object old a ≡ true
        → generation_at (object_at h1) a ≡ generation_at (object_at old) a
    generation_still a there =
        generation_alike old h1 a (has_still a there ∙ sym there)
        (ap (λ (x : Heap). region_generation x (region_of a)) c1.same
        ∙ ap (λ (o : Option Region). (unwrap_or o no_region).generation)
        (put_all.room.old (region_of a) (c.sound.held a there)))

    -- an object in a set card was there before
    was_there : (b : Addr) → has_object h1 b ≡ true → is_carded h1 b ≡ true → has_object old b ≡ true
    was_there b there set = elim (c1.only b there) [
      | inl was ↦ was
      | inr e ↦
          let s = c.sound.cards (card_of b) (sym (ap (λ (x : Heap). is_set x (card_of b)) c1.same) ∙ set) in
          let region : region_of s.at ≡ region_of (move_at p.moves e.at).to =
          region_by_card s.at (move_at p.moves e.at).to (s.in_card ∙ ap card_of (sym e.is)) in
          absurd (both_ways _ (put_all.put e.at e.before e.goes).fresh.new
          (subst (λ r. is_in_use old r ≡ true) region (c.sound.held s.at s.object)))
    ]

    was_carded : (b : Addr) → is_old_carded h1 p.basis.condemned b ≡ true
        → (has_object old b ≡ true) × (p.basis.condemned < generation_at (object_at old) b) ×
        (is_carded old b ≡ true)
    was_carded b carded =
        let parts = and_parts _ _ carded in
        let more = and_parts _ _ parts.0 in
        let there = was_there b more.0 parts.1 in
        let above = subst (λ g. p.basis.condemned < g) (generation_still b there) (ltb-true _ _ more.1) in
        (there, above, sym (ap (λ (x : Heap). is_set x (card_of b)) c1.same) ∙ parts.1)

    pub carded_kept : (x y : Addr) → is_old_carded h1 p.basis.condemned x ≡ true → IsField (object_at h1) x y
        → kept_in p y ≡ true
    carded_kept x y carded field =
        let was = was_carded x carded in
        closed_now c x y (kept_older x was.1) (field_alike old h1 x x y (c1.objects x was.0) field)

    -- the older objects in set cards were rewritten
    module _ {h2 : Heap}
        (r2 : AreRewritten (λ a. is_old_carded h1 p.basis.condemned a ≡ true) (forwarding_in p) h1 h2) where
      -- what is put or was condemned is not among them
      uncarded : (a : Addr) →
          (p.basis.condemned < generation_at (object_at old) a → has_object old a ≡ true → ⊥)
          → is_old_carded h1 p.basis.condemned a ≡ true → ⊥
      uncarded a none carded = (let was = was_carded a carded in none was.1 was.0)

      young_same : (a : Addr) → IsCondemned (object_at old) p.basis.condemned a
          → fin.get h2.objects a.0 ≡ fin.get old.objects a.0
      young_same a young =
          r2.others a (uncarded a (λ older there. let low = young.young in omega arith))
          ∙ c1.objects a young.object

      pub from_second : (k : ℕ) → k < length p.moves → has_object h2 (move_at p.moves k).from ≡ true
      from_second k within =
          let young = from_condemned k within in
          has_alike old h2 (move_at p.moves k).from (young_same (move_at p.moves k).from young) ∙ young.object

      pub stayed_fields : (k : ℕ) → k < length p.moves → is_staying (move_at p.moves k).fate ≡ true
          → (y : Addr) → IsField (object_at h2) (move_at p.moves k).from y → kept_in p y ≡ true
      stayed_fields k within stays y field =
          let from = (move_at p.moves k).from in
          fields_kept k within (ap is_kept_fate (staying_is _ stays)) y
          (field_alike old h2 from from y (young_same from (from_condemned k within)) field)

      -- and so were those that stay
      module _ {h3 : Heap} (r3 : AreRewritten (IsStayedAt p.moves (length p.moves))
          (forwarding_in p) h2 h3) where
        pub from_there : (k : ℕ) → k < length p.moves → has_object h3 (move_at p.moves k).from ≡ true
        from_there k within = r3.there (move_at p.moves k).from ∙ from_second k within

        -- an object was one before, or was copied
        third_only : (a : Addr) → has_object h3 a ≡ true
            → (has_object old a ≡ true) ⊎ IsCopiedTo p.moves (length p.moves) a
        third_only a there =
            c1.only a (sym (r2.there a) ∙ sym (r3.there a) ∙ there)

        -- a condemned object is left, or it stays
        young_left : (a : Addr) → IsCondemned (object_at old) p.basis.condemned a
            → IsGone p a
            ⊎ ((k : ℕ) × ((k < length p.moves) × (((move_at p.moves k).from ≡ a)
            × (is_staying (move_at p.moves k).fate ≡ true))))
        young_left a young =
            let is = condemned_is old p.basis.condemned a young in
            elim ((moves_now c).all a is) [
              | inl (k, listed) ↦ elim (cases_Bool (is_staying (move_at p.moves k).fate)) [
                | inl stays ↦ inr (k, (listed.0, (listed.1, stays)))
                | inr goes ↦
                    inl (inl (record { at = k; before = listed.0; goes = ap not goes; is = listed.1 }))
              ]
              | inr none ↦ inl (inr (sym (shape_condemned c.same p.basis.condemned a) ∙ is, none))
            ]

        -- all in a condemned region in which nothing stays is left
        pub left_there : (a : Addr) → has_object h3 a ≡ true
            → IsCondemnedRegion old p.basis.condemned (region_of a) → (HasStay p.moves (region_of a) → ⊥)
            → IsGone p a
        left_there a there young none = elim (third_only a there) [
          | inl was ↦ elim (young_left a (record {
            object = was;
            young = omega (arith, generation_is old a was, young.young);
          })) [
            | inl left ↦ left
            | inr (k, w) ↦ absurd (none (record {
              at = k;
              within = w.0;
              stays = w.1.1;
              region = ap region_of w.1.0;
            }))
          ]
          | inr e ↦ absurd (both_ways _ (put_all.put e.at e.before e.goes).fresh.new
              (ap (λ (x : Addr). is_in_use old (region_of x)) e.is ∙ young.held))
        ]

        -- an older object whose card is clear references no object that moves
        older_same : (a : Addr) → has_object old a ≡ true
            → p.basis.condemned < generation_at (object_at old) a → is_carded old a ≡ false
            → option_map (forwarded (forwarding_in p)) (fin.get old.objects a.0) ≡ fin.get old.objects a.0
        older_same a there older clear =
            let q = placed_at old a in
            let got = get_placed old a there in
            let still : (y : Addr) → Contains q.fields (Some y) → forwarding_in p y ≡ y = λ y field.
            let named : IsField (object_at old) a y =
            member_same q.fields (fields_at (object_at old) a) (sym (fields_placed old a there))
            (Some y) field in
            elim (cases_lt (generation_at (object_at old) y) (generation_at (object_at old) a)) [
              | inl younger ↦ absurd (both_ways _ clear (c.cards a y named younger))
              | inr not_younger ↦ forwarding_older y (omega arith)
            ] in
            ap (option_map (forwarded (forwarding_in p))) got
            ∙ ap (λ fs. Some (record q { fields = fs })) (unchanged (forwarding_in p) q.fields still)
            ∙ sym got

        -- what moves is copied, and neither older nor one that stays
        third_moved : (k : ℕ) → k < length p.moves → is_moving (move_at p.moves k).fate ≡ true
            → fin.get h3.objects (move_at p.moves k).to.0
            ≡ option_map (forwarded (forwarding_in p)) (fin.get old.objects (move_at p.moves k).from.0)
        third_moved k within moving =
            let to = (move_at p.moves k).to in
            let free = put_new c.sound (moves_now c) k within moving in
            r3.others to (λ e. both_ways _ free (stayed_young to e).object)
            ∙ r2.others to (uncarded to (λ older there. both_ways _ free there))
            ∙ c1.copies k within moving

        third_stayed : (k : ℕ) → k < length p.moves → (move_at p.moves k).fate ≡ Pinned
            → fin.get h3.objects (move_at p.moves k).to.0
            ≡ option_map (forwarded (forwarding_in p)) (fin.get old.objects (move_at p.moves k).from.0)
        third_stayed k within pinned =
            let from = (move_at p.moves k).from in
            ap (λ (x : Addr). fin.get h3.objects x.0) (stays_there k within pinned)
            ∙ r3.done from (record { at = k; before = within; goes = ap is_staying pinned; is = refl })
            ∙ ap (option_map (forwarded (forwarding_in p))) (young_same from (from_condemned k within))

        third_older : (a : Addr) → has_object old a ≡ true
            → p.basis.condemned < generation_at (object_at old) a
            → fin.get h3.objects a.0 ≡ option_map (forwarded (forwarding_in p)) (fin.get old.objects a.0)
        third_older a there older = r3.others a (λ e. let low = (stayed_young a e).young in omega arith)
            ∙ elim (cases_Bool (is_carded old a)) [
              | inl set ↦
                  let above = subst (λ g. p.basis.condemned < g) (sym (generation_still a there)) older in
                  r2.done a (and_from _ _ (and_from _ _ (has_still a there) (lt-ltb _ _ above))
                  (ap (λ (k : Heap). is_set k (card_of a)) c1.same ∙ set))
                  ∙ ap (option_map (forwarded (forwarding_in p))) (c1.objects a there)
              | inr clear ↦ r2.others a (λ carded. both_ways _ clear (was_carded a carded).2)
                  ∙ c1.objects a there ∙ sym (older_same a there older clear)
            ]

        third_at : (a : Addr) → kept_in p a ≡ true
            → fin.get h3.objects (forwarding_in p a).0 ≡ option_map (forwarded (forwarding_in p))
            (fin.get old.objects a.0)
        third_at a kept = elim (kept_by a kept) [
          | inl older ↦ ap (λ (x : Addr). fin.get h3.objects x.0) (forwarding_older a older)
              ∙ third_older a (kept_object a kept) older
          | inr (k, by) ↦ ap (λ (x : Addr). fin.get h3.objects x.0) by.to
              ∙ elim (moving_or_staying (move_at p.moves k).fate by.kept) [
                | inl moving ↦ third_moved k by.within moving
                | inr pinned ↦ third_stayed k by.within pinned
              ]
              ∙ ap (λ (x : Addr). option_map (forwarded (forwarding_in p)) (fin.get old.objects x.0)) by.from
        ]

        -- and what does not stay is gone from its old address
        module _ {h5 : Heap} (r5 : AreCleared p h3 h5) where
          forwarding_left : (a : Addr) → kept_in p a ≡ true
              → IsGone p (forwarding_in p a) → ⊥
          forwarding_left a kept (inl e) =
              let young = from_condemned e.at e.before in
              elim (kept_by a kept) [
                | inl older ↦
                    let same = ap (generation_at (object_at old)) (e.is ∙ forwarding_older a older) in
                    omega (arith, same, young.young, older)
                | inr (k, by) ↦ elim (moving_or_staying (move_at p.moves k).fate by.kept) [
                  | inl moving ↦ both_ways _ (put_new c.sound (moves_now c) k by.within moving)
                      (ap (has_object old) (sym (e.is ∙ by.to)) ∙ young.object)
                  | inr pinned ↦
                      let one : e.at ≡ k =
                      froms_apart p.moves (moves_now c).rising e.at k e.before by.within
                      (e.is ∙ by.to ∙ stays_there k by.within pinned) in
                      true≢false (sym e.goes ∙ ap (λ j. not (is_staying (move_at p.moves j).fate)) one
                      ∙ ap (λ w. not (is_staying w)) pinned)
                ]
              ]
          forwarding_left a kept (inr (gone, none)) =
              let is : is_condemned old p.basis.condemned (forwarding_in p a) ≡ true =
              shape_condemned c.same p.basis.condemned (forwarding_in p a) ∙ gone in
              let young = condemned_of old p.basis.condemned (forwarding_in p a) is in
              elim (kept_by a kept) [
                | inl older ↦
                    let same = ap (generation_at (object_at old)) (forwarding_older a older) in
                    omega (arith, same, young.young, older)
                | inr (k, by) ↦ elim (moving_or_staying (move_at p.moves k).fate by.kept) [
                  | inl moving ↦ both_ways _ (put_new c.sound (moves_now c) k by.within moving)
                      (ap (has_object old) (sym by.to) ∙ young.object)
                  | inr pinned ↦
                      none k by.within (ap region_of (sym (by.to ∙ stays_there k by.within pinned)))
                ]
              ]

          pub image_at : (a : Addr) → kept_in p a ≡ true
              → fin.get h5.objects (forwarding_in p a).0 ≡ option_map (forwarded (forwarding_in p))
              (fin.get old.objects a.0)
          image_at a kept = r5.others (forwarding_in p a) (forwarding_left a kept) ∙ third_at a kept

          pub image_only : (b : Addr) → has_object h5 b ≡ true
              → (a : Addr) × ((kept_in p a ≡ true) × (forwarding_in p a ≡ b))
          image_only b there =
              let stays : IsGone p b → ⊥ =
              λ left. true≢false (sym there ∙ has-get h5 b ∙ ap is_some (r5.gone b left)) in
              elim (third_only b (sym (has_alike h3 h5 b (r5.others b stays)) ∙ there)) [
                | inl was ↦ elim (older_or_young old p.basis.condemned b was) [
                  | inl older ↦ (b, (kept_older b older, forwarding_older b older))
                  | inr young ↦ elim (young_left b (condemned_of old p.basis.condemned b young)) [
                    | inl left ↦ absurd (stays left)
                    | inr (k, w) ↦
                        let pinned = staying_is _ w.1.1 in
                        let forwarding = forwarding_move k w.0 ∙ stays_there k w.0 pinned ∙ w.1.0 in
                        ((move_at p.moves k).from, (kept_move k w.0 (ap is_kept_fate pinned), forwarding))
                  ]
                ]
                | inr e ↦
                    let kept = kept_move e.at e.before (moving_kept _ e.goes) in
                    ((move_at p.moves e.at).from, (kept, forwarding_move e.at e.before ∙ e.is))
              ]
