-- A plan is valid for each heap of the same shape as the one for which it was laid.
use Rattle.hd_plan.proofs.Basics.{Addr, AllocCursors, AreMoves, AreCopied, AreRegions, AreRewritten, AreSettledRegions, CanCopy, Condemned, Fits, HEADER, HasSoundCards, HasStay, Heap, IsCondemned, IsField, IsGone, IsLaid, IsSameShape, IsStayedAt, IsSound, List, Move, None, PlanOf, Room, Some, all_regions, ap, arith, cells_of, condemned_at, fields_at, fields_placed, find_move, generation_at, is_carded, is_condemned, is_in_use, is_old_carded, is_kept_by, is_staying, has_object, kept_in, length, member_same, move_at, nat_le, nat_lt, object_at, forwarding_in, placed_at, put_fate, raised, region_generation, region_of, room_of, subst, suc, sym, true, zero, ℕ, ◌&&◌, ◌+◌, ◌<◌, ◌||◌, ◌∙◌, ◌≡◌}
use Rattle.hd_plan.specs.Layout.{room_at}
use Rattle.hd_plan.proofs.{CommitCopies.generation_alike, CommitCards.has_from, KeptMoves.generation_some, KeptMoves.are_put, KeptMoves.is_condemned_at, KeptMoves.kept, CondemnedAddresses.region_young}
use Rattle.std.specs.FinMap as fin

-- the steps up to the removal
pub record AreAtNewAddresses (p : PlanOf) (old h1 h2 h3 : Heap) : Type 0 where
  pub copied : AreCopied (forwarding_in p) old h1 p.moves (length p.moves)
  pub carded : AreRewritten (λ a. is_old_carded h1 p.basis.condemned a ≡ true) (forwarding_in p) h1 h2
  pub stayed : AreRewritten (IsStayedAt p.moves (length p.moves)) (forwarding_in p) h2 h3

-- the objects that no move leaves in place are gone from their old addresses, and the condemned regions are
-- settled; cards of objects are as before
pub record AreCleared (p : PlanOf) (old h : Heap) : Type 0 where
  pub gone : (a : Addr) → IsGone p a → fin.get h.objects a.0 ≡ None
  pub others : (a : Addr) → (IsGone p a → ⊥)
      → fin.get h.objects a.0 ≡ fin.get old.objects a.0
  pub cards : (a : Addr) → has_object h a ≡ true → is_carded h a ≡ is_carded old a
  pub regions : AreSettledRegions old.regions h.regions p.regions (length p.regions)
  pub limit : h.limit ≡ old.limit
  pub number : all_regions h ≡ all_regions old

module _ {h k : Heap} (s : IsSameShape h k) where
  pub shape_generation : (a : Addr) → generation_at (object_at k) a ≡ generation_at (object_at h) a
  shape_generation a =
      generation_alike h k a (s.objects a)
      (ap (λ rs. region_generation (record h { regions = rs }) (region_of a)) s.regions)

  pub shape_condemned : (n : ℕ) (a : Addr) → is_condemned k n a ≡ is_condemned h n a
  shape_condemned n a =
      (let there = s.objects a in let generation = shape_generation a in
      λ i. there i && nat_le (generation i) n)

  shape_cells : (a : Addr) → cells_of (placed_at k a) ≡ cells_of (placed_at h a)
  shape_cells a = ap (λ fs. length fs + HEADER) (s.fields a)

  shape_room : (ms : List Move) (i : ℕ) → room_at k ms i ≡ room_at h ms i
  unfolding room_at
  shape_room ms zero = λ i. record (room_of h) { regions = s.regions i }
  shape_room ms (suc i) =
      let m = move_at ms i in
      λ j. put_fate m.fate (s.free j) (shape_room ms i j) m.generation (shape_cells m.from j)

  shape_moves : (n : ℕ) (ms : List Move) → AreMoves h n ms → AreMoves k n ms
  shape_moves n ms moves = record {
    condemned = λ j within. shape_condemned n (move_at ms j).from ∙ moves.condemned j within;
    rising = moves.rising;
    all = λ a is. moves.all a (sym (shape_condemned n a) ∙ is);
    generations = λ j within. moves.generations j within
        ∙ ap (raised n) (sym (shape_generation (move_at ms j).from));
    fields = λ j within. moves.fields j within
        ∙ ap {B = ℕ} (λ fs. length fs) (sym (s.fields (move_at ms j).from));
    fits = λ j within.
        let m = move_at ms j in
        let P : List ℕ → AllocCursors → ℕ → Type 0 =
        λ ns c cells. Fits m.fate ns c m.from m.to m.generation cells in
        subst (λ ns. P ns (room_at k ms j).cursors (cells_of (placed_at k m.from))) (sym s.free)
        (subst (λ c. P h.free c (cells_of (placed_at k m.from)))
        (ap (λ (q : Room). q.cursors) (sym (shape_room ms j)))
        (subst (λ cells. P h.free (room_at h ms j).cursors cells) (sym (shape_cells m.from))
        (moves.fits j within)));
  }

  region_alike : (r : ℕ) → region_generation k r ≡ region_generation h r
  region_alike r = ap (λ rs. region_generation (record h { regions = rs }) r) s.regions

  held_alike : (r : ℕ) → is_in_use k r ≡ is_in_use h r
  held_alike r = ap (λ rs. fin.contains_key rs r) s.regions

  shape_regions : (n : ℕ) (ms : List Move) (cs : List Condemned) → AreRegions h n ms cs → AreRegions k n ms cs
  shape_regions n ms cs regions = record {
    condemned = λ j within. let is = regions.condemned j within in record {
      held = held_alike _ ∙ is.held;
      young = omega (arith, region_alike (condemned_at cs j).region, is.young);
    };
    rising = regions.rising;
    all = λ r is. regions.all r
        (record { held = sym (held_alike r) ∙ is.held; young = omega (arith, region_alike r, is.young) });
    generations = λ j within. regions.generations j within
        ∙ ap (raised n) (sym (region_alike (condemned_at cs j).region));
    pinned = regions.pinned;
  }

  shape_field : (a y : Addr) → IsField (object_at k) a y → IsField (object_at h) a y
  shape_field a y field =
      let there = has_from k a y field in
      member_same (fields_at (object_at k) a) (fields_at (object_at h) a)
      (fields_placed k a there ∙ s.fields a ∙ sym (fields_placed h a (sym (s.objects a) ∙ there)))
      (Some y) field

-- a plan is carried out on a heap
pub record IsCommitting (p : PlanOf) (old : Heap) : Type 0 where
  pub laid : IsLaid p
  pub same : IsSameShape p.basis.heap old
  pub cards : HasSoundCards (object_at old) (is_carded old)
  pub sound : IsSound old

-- a plan is carried out on a heap, one step after another
pub record AreMoved (p : PlanOf) (old h1 h2 h3 h5 : Heap) : Type 0 where
  pub committing : IsCommitting p old
  pub forwards : AreAtNewAddresses p old h1 h2 h3
  pub cleared : AreCleared p h3 h5

module _ {p : PlanOf} {old : Heap} (c : IsCommitting p old) where
  pub moves_now : AreMoves old p.basis.condemned p.moves
  moves_now = shape_moves c.same p.basis.condemned p.moves c.laid.moves

  pub regions_now : AreRegions old p.basis.condemned p.moves p.regions
  regions_now = shape_regions c.same p.basis.condemned p.moves p.regions c.laid.regions

  -- what is kept, read in this heap
  pub kept_now : (a : Addr) → kept_in p a ≡ kept old p.basis.condemned p.moves a
  kept_now a = ap (λ g. nat_lt p.basis.condemned g || is_kept_by (find_move p.moves a))
      (sym (shape_generation c.same a))

  pub closed_now : (a y : Addr) → kept_in p a ≡ true → IsField (object_at old) a y → kept_in p y ≡ true
  closed_now a y kept field = c.laid.closed a y kept (shape_field c.same a y field)

  -- the region of what is condemned is listed, and as one that stays where its object does
  pub listed_at : (a : Addr) → IsCondemned (object_at old) p.basis.condemned a → (k : ℕ)
      × ((k < length p.regions) × ((condemned_at p.regions k).region ≡ region_of a))
  listed_at a is = regions_now.all (region_of a) (region_young c.sound a is)

  pub move_listed : (j : ℕ) → j < length p.moves → (k : ℕ)
      × ((k < length p.regions) × ((condemned_at p.regions k).region ≡ region_of (move_at p.moves j).from))
  move_listed j low = listed_at (move_at p.moves j).from (is_condemned_at c.sound moves_now j low)

  pub stays_listed : (j : ℕ) → j < length p.moves → is_staying (move_at p.moves j).fate ≡ true → (k : ℕ)
      × ((k < length p.regions) × ((condemned_at p.regions k).pinned ≡ true))
  stays_listed j low stays =
      let (k, at) = move_listed j low in
      let stay : HasStay p.moves (condemned_at p.regions k).region =
      record { at = j; within = low; stays = stays; region = sym at.1 } in
      (k, (at.0, (regions_now.pinned k at.0).1 stay))

  pub can_copy : CanCopy old p.moves
  can_copy = record {
    sound = c.sound;
    objects = λ k within. (is_condemned_at c.sound moves_now k within).object;
    generations = generation_some c.sound moves_now;
    fits = moves_now.fits;
    put = are_put c.sound moves_now;
  }
