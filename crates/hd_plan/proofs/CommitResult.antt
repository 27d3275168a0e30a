-- The heap after the moving.
use Rattle.hd_heap.proofs.NextObjects.{generation_is}
use Rattle.hd_plan.proofs.Basics.{Addr, AreAlike, AreCarded, ChangesRegions, Commits, Contains, HEADER, HasClosedFields, HasNoEmptyRegion, HasSoundCards, HasStay, Heap, IsCondemned, IsCondemnedRegion, IsField, IsKeptAt, IsPacked, List, NamesYounger, NeedsCard, None, Option, Placed, PlanOf, Region, Some, all_regions, and_from, and_parts, ap, arith, both_ways, card_of, cases_Bool, cases_lt, cells_of, condemned_at, false, false_from_ne_true, fields_at, fields_in, fields_placed, forwarded, generation_at, has_object, has_region, id_in, inl, inr, is_carded, is_in_use, is_kept_fate, is_moving, is_older_region, is_set, is_some, kept_in, length, length-drop, length-map, lt-ltb, ltb-false, ltb-true, map, mapped_from, may_card, member_same, move_at, moved_object, nat_lt, object_at, object_in, option_map, forwarding_in, placed_at, raised, raised_older, refl, region_generation, region_of, room_at, same_Some, same_address, share, stays_in, subst, sym, true, unwrap_or, used_of, ℕ, ◌&&◌, ◌+◌, ◌<◌, ◌↔◌, ◌∙◌, ◌≡◌, ◌≤◌}
use Rattle.hd_plan.proofs.{CommitCards.has_from, CommitCards.names_alike, MoveWeights.sum-coming, KeptMoves.moving_kept, KeptMoves.staying_is, PackedRegions.IsTaken, PackedRegions.packed, PackedRegions.compact, CommitCopies.get_placed, CommitCopies.has_got, CommitCopies.no_placed, CommitCopies.no_region, CommitShape.AreMoved, CommitShape.IsCommitting, CommitShape.listed_at, CommitShape.moves_now, CommitShape.regions_now, CommitShape.closed_now, KeptObjectSteps.kept_by, KeptObjectSteps.kept_older, KeptObjectSteps.forwarding_older, KeptObjectSteps.kept_move, KeptObjectSteps.forwarding_move, KeptObjectSteps.put_all, KeptObjectSteps.kept_object, KeptObjectSteps.from_condemned, KeptObjectSteps.stays_there, KeptObjectSteps.image_at, KeptObjectSteps.image_only, CommitGenerations.forwards_same, CommitGenerations.raised_above, CommitGenerations.raised_within, CommitGenerations.raised_some, CommitGenerations.forwarding_generation, CommitGenerations.region_still, CommitGenerations.region_new, CommitGenerations.region_raised, CommitGenerations.region_given_up}
use Rattle.hd_plan.specs.Plan.{StartsInRegion}
use Rattle.std.specs.FinMap as fin

-- a field that was rewritten
pub record IsRenamed (forwarding : Addr → Addr) (fs : List (Option Addr)) (y : Addr) : Type 0 where
  pub was : Addr
  pub field : Contains fs (Some was)
  pub is : forwarding was ≡ y

renamed : (forwarding : Addr → Addr) (fs : List (Option Addr)) (y : Addr)
    → Contains (map (option_map forwarding) fs) (Some y) → IsRenamed forwarding fs y
renamed forwarding fs y field = let f =
    mapped_from (option_map forwarding) fs (Some y) field in by f.0 f.1.0 f.1.1
  where
    by : (o : Option Addr) → Contains fs o → option_map forwarding o ≡ Some y → IsRenamed forwarding fs y
    by None f e = absurd (cc e)
    by (Some z) f e = record { was = z; field = f; is = same_Some (forwarding z) y e }

fields_of_rewritten : (forwarding : Addr → Addr) (g f : ℕ) (o : Option Placed)
    → fields_in (option_map (object_in g) (option_map (forwarded forwarding) o)) ≡ map (option_map forwarding)
    (fields_in (option_map (object_in f) o))
fields_of_rewritten forwarding g f None = refl
fields_of_rewritten forwarding g f (Some q) = refl

object_of_rewritten : (forwarding : Addr → Addr) (n g f : ℕ) (o : Option Placed) → g ≡ raised n f
    → option_map (object_in g) (option_map (forwarded forwarding) o) ≡ option_map (moved_object forwarding n)
    (option_map (object_in f) o)
object_of_rewritten forwarding n g f None e = refl
object_of_rewritten forwarding n g f (Some q) e =
    ap (λ x. Some (record {
      fields = map (option_map forwarding) q.fields;
      value = q.value;
      generation = x;
      registered = q.registered;
    })) e

id_of_rewritten : (forwarding : Addr → Addr) (o : Option Placed) → id_in (option_map (forwarded forwarding) o)
    ≡ id_in o
id_of_rewritten forwarding None = refl
id_of_rewritten forwarding (Some q) = refl

module _ {p : PlanOf} {old h1 h2 h3 h5 : Heap} (m : AreMoved p old h1 h2 h3 h5) where
  c : IsCommitting p old
  c = m.committing

  settled_object : (a : Addr) → kept_in p a ≡ true → has_object h5 (forwarding_in p a) ≡ true
  settled_object a kept =
      has_got h5 (forwarding_in p a) (forwarded (forwarding_in p) (placed_at old a))
      (image_at c m.forwards.copied m.forwards.carded m.forwards.stayed m.cleared a kept
      ∙ ap (option_map (forwarded (forwarding_in p))) (get_placed old a (kept_object c a kept)))

  pub settled_there : (a : Addr) → IsKeptAt p.moves (length p.moves) a → has_object h5 a ≡ true
  settled_there a e =
      ap (has_object h5) (sym e.is ∙ sym (forwarding_move c e.at e.before))
      ∙ settled_object (move_at p.moves e.at).from (kept_move c e.at e.before e.goes)

  -- heaps with other cards
  module _ (h6 : Heap) (same6 : h6 ≡ record h5 { cards = h6.cards }) where
    ending_at : (a : Addr) → kept_in p a ≡ true → fin.get h6.objects (forwarding_in p a).0
        ≡ option_map (forwarded (forwarding_in p)) (fin.get old.objects a.0)
    ending_at a kept = ap (λ (x : Heap). fin.get x.objects (forwarding_in p a).0) same6
        ∙ image_at c m.forwards.copied m.forwards.carded m.forwards.stayed m.cleared a kept

    ending_object : (a : Addr) → kept_in p a ≡ true → has_object h6 (forwarding_in p a) ≡ true
    ending_object a kept = ap (λ (x : Heap). has_object x (forwarding_in p a)) same6 ∙ settled_object a kept

    ending_only : (b : Addr) → has_object h6 b ≡ true
        → (a : Addr) × ((kept_in p a ≡ true) × (forwarding_in p a ≡ b))
    ending_only b there = image_only c m.forwards.copied m.forwards.carded m.forwards.stayed m.cleared b
        (sym (ap (λ (x : Heap). has_object x b) same6) ∙ there)

    ending_region : (a : Addr) → kept_in p a ≡ true → region_generation h6 (region_of (forwarding_in p a))
        ≡ raised p.basis.condemned (generation_at (object_at old) a)
    ending_region a kept = ap (λ (x : Heap). region_generation x (region_of (forwarding_in p a))) same6
        ∙ forwarding_generation m a kept

    ending_generation : (a : Addr) → kept_in p a ≡ true → generation_at (object_at h6) (forwarding_in p a)
        ≡ raised p.basis.condemned (generation_at (object_at old) a)
    ending_generation a kept = generation_is h6 (forwarding_in p a) (ending_object a kept)
        ∙ ending_region a kept

    pub ending_grown : (b : Addr) → has_object h6 b ≡ true → 0 < generation_at (object_at h6) b
    ending_grown b there =
        let (a, is) = ending_only b there in
        let some = raised_some p.basis.condemned (generation_at (object_at old) a) in
        subst (λ (x : Addr). 0 < generation_at (object_at h6) x) is.1
        (omega (arith, ending_generation a is.0, some))

    -- a field of an object holds the new address of what it referenced, which is kept
    ending_field : (a x y : Addr) → kept_in p a ≡ true → forwarding_in p a ≡ x → IsField (object_at h6) x y
        → IsRenamed (forwarding_in p) (fields_at (object_at old) a) y
    ending_field a x y kept is field =
        let fields : fields_at (object_at h6) (forwarding_in p a) ≡ map (option_map (forwarding_in p))
        (fields_at (object_at old) a) =
        ap (λ o. fields_in (option_map (object_in (region_generation h6 (region_of (forwarding_in p a)))) o))
        (ending_at a kept)
        ∙ fields_of_rewritten (forwarding_in p) (region_generation h6 (region_of (forwarding_in p a)))
        (region_generation old (region_of a)) (fin.get old.objects a.0) in
        renamed (forwarding_in p) (fields_at (object_at old) a) y
        (member_same _ _ fields (Some y) (subst (λ (z : Addr). IsField (object_at h6) z y) (sym is) field))

    pub ending_closed : HasClosedFields (object_at h6)
    ending_closed x y field =
        let (a, is) = ending_only x (has_from h6 x y field) in
        let f = ending_field a x y is.0 is.1 field in
        ap (has_object h6) (sym f.is) ∙ ending_object f.was (closed_now c a f.was is.0 f.field)

    -- the generation of what a move keeps
    moved_generation : (k : ℕ) → k < length p.moves → is_kept_fate (move_at p.moves k).fate ≡ true
        → generation_at (object_at h6) (move_at p.moves k).to
        ≡ raised p.basis.condemned (generation_at (object_at old) (move_at p.moves k).from)
    moved_generation k within kept = ap (generation_at (object_at h6)) (sym (forwarding_move c k within))
        ∙ ending_generation (move_at p.moves k).from (kept_move c k within kept)

    -- what may need no card references no younger object: its generation is the youngest, or it has no field
    pub ending_with_free : (k : ℕ) → k < length p.moves → may_card (move_at p.moves k) ≡ false
        → is_kept_fate (move_at p.moves k).fate ≡ true → NamesYounger h6 (move_at p.moves k).to → ⊥
    ending_with_free k within with_free kept names =
        let m = move_at p.moves k in
        let from_kept = kept_move c k within kept in
        let generation : generation_at (object_at h6) m.to ≡ m.generation =
        moved_generation k within kept ∙ sym ((moves_now c).generations k within) in
        let field = ending_field m.from m.to names.target from_kept (forwarding_move c k within)
        names.field in
        elim (cases_lt 1 m.generation) [
          | inl old_one ↦ elim (cases_lt 0 m.fields) [
            | inl some ↦ both_ways _ with_free
                (and_from _ _ (and_from _ _ kept (lt-ltb 1 m.generation old_one)) (lt-ltb 0 m.fields some))
            | inr none ↦
                let few = field.field.1 in
                let there = kept_object c m.from from_kept in
                let fields = ap {B = ℕ} (λ fs. length fs) (fields_placed old m.from there) in
                let count = (moves_now c).fields k within in
                absurd (omega arith)
          ]
          | inr young ↦
              let grown = ending_grown names.target (ending_closed m.to names.target names.field) in
              let younger = names.younger in
              absurd (omega arith)
        ]

    -- where all condemned regions have one next generation none that is kept references a younger object:
    -- what is older has no lower one
    listed_generation : (a : Addr) → IsCondemned (object_at old) p.basis.condemned a → (k : ℕ)
        × ((k < length p.regions)
        × ((condemned_at p.regions k).generation ≡ raised p.basis.condemned (generation_at (object_at old) a)))
    listed_generation a is =
        let (k, at) = listed_at c a is in
        let raised_at = ap (λ r. raised p.basis.condemned (region_generation old r)) at.1 in
        let same = ap (raised p.basis.condemned) (sym (generation_is old a is.object)) in
        (k, (at.0, (regions_now c).generations k at.0 ∙ raised_at ∙ same))

    pub ending_alike : AreAlike p.regions → (k : ℕ) → k < length p.moves
        → is_kept_fate (move_at p.moves k).fate ≡ true → NamesYounger h6 (move_at p.moves k).to → ⊥
    ending_alike alike k within kept names =
        let n = p.basis.condemned in
        let from = (move_at p.moves k).from in
        let is_young = from_condemned c k within in
        let (j, listed) = listed_generation from is_young in
        let here = moved_generation k within kept in
        let (a, is) = ending_only names.target (ending_closed _ names.target names.field) in
        let there : generation_at (object_at h6) names.target ≡ raised n (generation_at (object_at old) a) =
        ap (generation_at (object_at h6)) (sym is.1) ∙ ending_generation a is.0 in
        let younger = names.younger in
        elim (cases_lt n (generation_at (object_at old) a)) [
          | inl older ↦
              let most = raised_within n (generation_at (object_at old) from) (generation_at (object_at old) a)
              is_young.young older in
              absurd (omega arith)
          | inr young ↦
              let (i, also) = listed_generation a (record { object = kept_object c a is.0; young = young }) in
              omega (arith, here, there, younger, alike i j also.0 listed.0, also.1, listed.1)
        ]

  -- the cards of kept objects are set
  module _ (h6 : Heap) (r6 : AreCarded h5 h6 p.moves (length p.moves)) where
    pub ending_cards : HasSoundCards (object_at h6) (is_carded h6)
    ending_cards x y field younger =
        let there = has_from h6 x y field in
        let (a, is) = ending_only h6 r6.same x there in
        elim (kept_by c a is.0) [
          | inl older ↦
              let here : x ≡ a = sym is.1 ∙ forwarding_older c a older in
              let f = ending_field h6 r6.same a x y is.0 is.1 field in
              let kept = closed_now c a f.was is.0 f.field in
              let from = ap (generation_at (object_at h6)) (sym is.1) ∙ ending_generation h6 r6.same a is.0 in
              let to = ap (generation_at (object_at h6)) (sym f.is)
              ∙ ending_generation h6 r6.same f.was kept in
              let same = raised_older p.basis.condemned (generation_at (object_at old) a) older in
              let fits : generation_at (object_at old) f.was ≤ 2 =
              (let g = generation_is old f.was (kept_object c f.was kept) in
              let most = c.sound.generations (region_of f.was)
              (c.sound.held f.was (kept_object c f.was kept)) in omega arith) in
              let above = raised_above p.basis.condemned (generation_at (object_at old) f.was) fits in
              ap (is_carded h6) here ∙ carded_still a (sym (ap (has_object h6) here) ∙ there)
              (c.cards a f.was f.field (omega (arith, younger, from, to, same, above)))
          | inr (k, by) ↦
              r6.done x (record { at = k; before = by.within; goes = by.kept; is = sym by.to ∙ is.1 })
              (names_alike {h = h6} (ap object_at r6.same)
              (record { target = y; field = field; younger = younger }))
        ]
      where
        carded_still : (a : Addr) → has_object h6 a ≡ true → is_carded old a ≡ true → is_carded h6 a ≡ true
        carded_still a there set =
            r6.more (card_of a) (m.cleared.cards a (sym (ap (λ (x : Heap). has_object x a) r6.same) ∙ there)
            ∙ ap (λ (x : Heap). is_set x (card_of a)) (forwards_same m.forwards) ∙ set)

  -- and so the whole
  module _ (h7 : Heap) (same7 : h7 ≡ record h5 { cards = h7.cards }) where
    region_now : (r : ℕ) → fin.get h7.regions r ≡ fin.get h5.regions r
    region_now r = ap (λ (x : Heap). fin.get x.regions r) same7

    changes : ChangesRegions p old h7
    changes = record {
      older = λ r held older.
          let same = region_now r ∙ region_still m r held (λ is. omega (arith, is.young, older)) in
          (ap is_some same ∙ held, ap (λ (o : Option Region). unwrap_or o no_region) same);
      stays = λ r young stay.
          let got = region_now r ∙ region_raised m r young stay in
          (ap is_some got, ap (λ (o : Option Region). unwrap_or o no_region) got);
      given_up = λ r young none. ap is_some (region_now r ∙ region_given_up m r young none);
    }

    -- a region in use has an object that stays, or was opened, or is older
    held_stays : (r : ℕ) → is_in_use h7 r ≡ true → IsCondemnedRegion old p.basis.condemned r
        → HasStay p.moves r
    held_stays r held young =
        let (k, listed) = (regions_now c).all r young in
        let pinned = (regions_now c).pinned k listed.0 in
        elim (cases_Bool (condemned_at p.regions k).pinned) [
          | inl is ↦ subst (HasStay p.moves) listed.1 (pinned.0 is)
          | inr is ↦ absurd (both_ways _ (changes.given_up r young
              (λ stay. both_ways _ is (pinned.1 (subst (HasStay p.moves) (sym listed.1) stay)))) held)
        ]

    -- one that was not in use is one of the room
    held_room : (r : ℕ) → is_in_use h7 r ≡ true → is_in_use old r ≡ false
        → has_region (room_at old p.moves (length p.moves)).regions r ≡ true
    held_room r held new = sym (ap is_some (region_now r ∙ region_new m r new)) ∙ held

    held_taken : (r : ℕ) → is_in_use h7 r ≡ true → is_older_region old p.basis.condemned r ≡ false
        → IsTaken old p.moves r
    held_taken r held young = elim (cases_Bool (is_in_use old r)) [
      | inl was ↦ inl (held_stays r held (record {
        held = was;
        young = ltb-false _ _ (sym (ap (λ b. b && nat_lt p.basis.condemned (region_generation old r)) was)
            ∙ young);
      }))
      | inr new ↦ elim ((put_all c).room.held r (held_room r held new)) [
        | inl was ↦ absurd (both_ways _ new was)
        | inr opened ↦ inr opened
      ]
    ]

    -- the new address of a kept object is in a region that has an object
    starts_at : (a b : Addr) (r : ℕ) → kept_in p a ≡ true → forwarding_in p a ≡ b → region_of b ≡ r
        → StartsInRegion h7 r
    starts_at a b r kept forwarding region =
        let object = ap (has_object h7) (sym forwarding) ∙ ending_object h7 same7 a kept in
        record { at = b; object = object; region = region }

    full : HasNoEmptyRegion old → HasNoEmptyRegion h7
    full some r held = elim (cases_Bool (is_in_use old r)) [
      | inl was ↦ elim (cases_lt p.basis.condemned (region_generation old r)) [
        | inl older ↦
            let s = some r was in
            let above : p.basis.condemned < generation_at (object_at old) s.at =
            omega (arith, generation_is old s.at s.object, ap (region_generation old) s.region, older) in
            starts_at s.at s.at r (kept_older c s.at above) (forwarding_older c s.at above) s.region
        | inr young ↦
            let s = held_stays r held (record { held = was; young = young }) in
            let pinned = staying_is _ s.stays in
            starts_at _ _ r (kept_move c s.at s.within (ap is_kept_fate pinned))
            (forwarding_move c s.at s.within ∙ stays_there c s.at s.within pinned) s.region
      ]
      | inr new ↦ elim ((put_all c).held r (held_room r held new)) [
        | inl was ↦ absurd (both_ways _ new was)
        | inr (k, o) ↦ starts_at _ _ r (kept_move c k o.0 (moving_kept _ o.1.0))
            (forwarding_move c k o.0) o.1.1
      ]
    ]

    -- what is at the new address of a kept object
    placed_now : (a b : Addr) → kept_in p a ≡ true → forwarding_in p a ≡ b
        → fin.get h7.objects b.0 ≡ Some (forwarded (forwarding_in p) (placed_at old a))
    placed_now a b kept is = ap (λ (x : Addr). fin.get h7.objects x.0) (sym is) ∙ ending_at h7 same7 a kept
        ∙ ap (option_map (forwarded (forwarding_in p))) (get_placed old a (kept_object c a kept))

    same_cells : (a : Addr) → cells_of (forwarded (forwarding_in p) (placed_at old a))
        ≡ cells_of (placed_at old a)
    same_cells a = ap (λ n. n + HEADER) (length-map (placed_at old a).fields (option_map (forwarding_in p)))

    -- a new object comes from the one that it was
    record ComesFrom (q r : ℕ) : Type 0 where
      was : Addr
      number : was.0 ≡ r
      forwarding : (forwarding_in p was).0 ≡ q

    used : used_of h7 ≤ used_of old
    used = sum-coming cells_of ComesFrom
        (λ q s r a b. sym a.forwarding
        ∙ ap (λ (x : Addr). (forwarding_in p x).0) (same_address a.was b.was (a.number ∙ sym b.number))
        ∙ b.forwarding) h7.objects old.objects
        (λ q v got.
        let b : Addr = record { 0 = q } in
        let (a, is) = ending_only h7 same7 b (has_got h7 b v got) in
        let cells : cells_of (forwarded (forwarding_in p) (placed_at old a)) ≡ cells_of v =
        ap cells_of (same_Some _ _ (sym (placed_now a b is.0 is.1) ∙ got)) in
        let comes : ComesFrom q a.0 =
        record { was = a; number = refl; forwarding = ap (λ (x : Addr). x.0) is.1 } in
        let size : share cells_of (fin.get old.objects a.0) ≡ cells_of (placed_at old a) =
        ap (share cells_of) (get_placed old a (kept_object c a is.0)) in
        (a.0, (comes, omega (arith, cells, size, same_cells a))))

    -- what moves is at its new address with as many cells
    moved_there : (j : ℕ) → j < length p.moves → is_moving (move_at p.moves j).fate ≡ true
        → (has_object h7 (move_at p.moves j).to ≡ true)
        × (cells_of (placed_at h7 (move_at p.moves j).to) ≡ cells_of (placed_at old (move_at p.moves j).from))
    moved_there j within moving =
        let o = move_at p.moves j in
        let kept = kept_move c j within (moving_kept o.fate moving) in
        let now = placed_now o.from o.to kept (forwarding_move c j within) in
        let cells = ap (λ (x : Option Placed). cells_of (unwrap_or x no_placed)) now in
        (has_got h7 o.to _ now, cells ∙ same_cells o.from)

    packed_now : IsPacked old h7 p.basis.condemned (stays_in p)
    packed_now =
        packed old c.sound p.basis.condemned p.moves (moves_now c) h7
        (λ r is.
        let both = and_parts _ _ is in changes.older r both.0 (ltb-true _ _ both.1))
        moved_there held_taken

    number : all_regions h7 ≡ all_regions old
    number =
        let opened = (room_at old p.moves (length p.moves)).cursors.opened in
        let now = ap {B = ℕ} (λ (x : Heap). all_regions x) same7 ∙ m.cleared.number
        ∙ ap {B = ℕ} (λ (x : Heap). all_regions x) (forwards_same m.forwards) in
        let room = (put_all c).room in
        omega (arith, now, room.number, room.few, length-drop opened old.free)

    pub ended : ((card : ℕ) → (is_set h7 card ≡ true) ↔ NeedsCard h7 card) → Commits p old h7
    ended exact = record {
      objects = λ a kept. ap (option_map (object_in (region_generation h7 (region_of (forwarding_in p a)))))
          (ending_at h7 same7 a kept) ∙ object_of_rewritten (forwarding_in p) p.basis.condemned
          (region_generation h7 (region_of (forwarding_in p a))) (region_generation old (region_of a))
          (fin.get old.objects a.0) (ending_region h7 same7 a kept
          ∙ ap (raised p.basis.condemned) (generation_is old a (kept_object c a kept)));
      ids = λ a kept. ap id_in (ending_at h7 same7 a kept)
          ∙ id_of_rewritten (forwarding_in p) (fin.get old.objects a.0);
      only = ending_only h7 same7;
      regions = changes;
      cards = exact;
      number = number;
      limit = ap (λ (x : Heap). x.limit) same7 ∙ m.cleared.limit
          ∙ ap (λ (x : Heap). x.limit) (forwards_same m.forwards);
      used = used;
      full = full;
      packed = packed_now;
      compact = λ all. compact old h7 p.basis.condemned (stays_in p) (λ r. false_from_ne_true _ (λ is.
          let both = and_parts (is_in_use old r) (nat_lt p.basis.condemned (region_generation old r)) is in
          omega (arith, c.sound.generations r both.0, ltb-true _ _ both.1, all))) packed_now;
    }
