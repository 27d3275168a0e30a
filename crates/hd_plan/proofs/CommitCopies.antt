-- Lemmas on the copying of objects.
use Rattle.hd_plan.proofs.Basics.{Addr, AreCopied, Bool, CanCopy, Dead, Fate, Fits, HEADER, HasKeptFields, HaveGone, Heap, IsField, IsRun, List, MayOpen, MayRun, Move, Moves, MovesToNewRegion, None, Option, Pinned, Placed, REGION, Region, Room, Some, [], add-one, and_parts, ap, arith, both_ways, cases_Bool, cases_eq, cells_of, cursor_of, drop, drop-drop, eqb-true, false, fields_in, filled, forwarded, generation_at, get_or-drop, get_other, get_same, goes_with, has-get, has_object, inl, inr, is_following, is_in_use, is_moving, is_opening, is_some, length, length-drop, length-map, member_same, move_at, object_at, object_in, opened_for, option_map, placed_at, put_fate, put_move, refl, region_at, region_generation, region_in, region_of, same_address, slice_index, subst, suc, sym, true, unwrap_or, with_fresh, with_moved, zero, ℕ, ⊎_elim, ◌*◌, ◌+◌, ◌<◌, ◌∙◌, ◌≡◌, ◌≢◌, ◌≤◌}
use Rattle.std.specs.Prelude.{MatchBool, if◌then◌else◌, ◌-◌}
use Rattle.hd_heap.specs.Runs.{run_copied}
use Rattle.hd_heap.proofs.{NextObjects.generation_is, Areas.some_of, RunCopies.run_part}
use Rattle.hd_plan.specs.Layout.{room_at}
use Rattle.hd_plan.proofs.{MoveEnds.up_to, MoveEnds.ends_more, MoveEnds.ends_here, RoomSteps.region_is, RoomSteps.room_cursor, RoomSteps.room_rests, KeptMoves.no_generation}
use Rattle.std.specs.FinMap as fin

abbrev pub no_placed : Placed
no_placed = record { id = record { 0 = 0 }; fields = []; value = 0; registered = false }

abbrev pub no_region : Region
no_region = record { generation = 0; fill = 0 }

-- what is stored at the address of an object
pub get_placed : (h : Heap) (a : Addr) → has_object h a ≡ true → fin.get h.objects a.0 ≡ Some (placed_at h a)
get_placed h a is =
    let some = some_of (fin.get h.objects a.0) (sym (has-get h a) ∙ is) in
    some.1 ∙ ap Some (sym (ap (λ o. unwrap_or o no_placed) some.1))

pub has_got : (h : Heap) (a : Addr) (p : Placed) → fin.get h.objects a.0 ≡ Some p → has_object h a ≡ true
has_got h a p got = has-get h a ∙ ap is_some got

-- two heaps with the same at an address
pub has_alike : (h k : Heap) (a : Addr) → fin.get k.objects a.0 ≡ fin.get h.objects a.0
    → has_object k a ≡ has_object h a
has_alike h k a same = has-get k a ∙ ap is_some same ∙ sym (has-get h a)

pub placed_alike : (h k : Heap) (a : Addr) → fin.get k.objects a.0 ≡ fin.get h.objects a.0
    → placed_at k a ≡ placed_at h a
placed_alike h k a same = ap (λ o. unwrap_or o no_placed) same

-- what an object has, read at its address
pub field_alike : (h k : Heap) (a b y : Addr) → fin.get k.objects b.0 ≡ fin.get h.objects a.0
    → IsField (object_at k) b y → IsField (object_at h) a y
field_alike h k a b y same field =
    member_same _ _ (fields_of (region_generation k (region_of b)) (region_generation h (region_of a))
    (fin.get k.objects b.0)
    ∙ ap (λ o. fields_in (option_map (object_in (region_generation h (region_of a))) o)) same) (Some y) field
  where
    fields_of : (g f : ℕ) (o : Option Placed)
        → fields_in (option_map (object_in g) o) ≡ fields_in (option_map (object_in f) o)
    fields_of g f None = refl
    fields_of g f (Some p) = refl

-- the generation of an address depends on its region, where there is an object
pub generation_alike : (h k : Heap) (a : Addr) → has_object k a ≡ has_object h a
    → region_generation k (region_of a) ≡ region_generation h (region_of a)
    → generation_at (object_at k) a ≡ generation_at (object_at h) a
generation_alike h k a there region = elim (cases_Bool (has_object h a)) [
  | inl is ↦ generation_is k a (there ∙ is) ∙ region ∙ sym (generation_is h a is)
  | inr none ↦ no_generation (object_at k a) (there ∙ none) ∙ sym (no_generation (object_at h a) none)
]

-- a region that has come into use
module _ (h : Heap) (r g : ℕ) where
  region_fresh : region_at (with_fresh h r g) r ≡ record { generation = g; fill = 0 }
  region_fresh = ap (λ o. unwrap_or o no_region) (get_same h.regions r r _ refl)

-- one step of the room
room_step : (h : Heap) (ms : List Move) (k : ℕ)
    → room_at h ms (k + 1) ≡ put_move h (room_at h ms k) (move_at ms k)
unfolding room_at
room_step h ms k = ap (room_at h ms) (add-one k)

pub copied_starts : (forwarding : Addr → Addr) (h : Heap) (ms : List Move) → AreCopied forwarding h h ms 0
unfolding room_at
copied_starts forwarding h ms = record {
  objects = λ a is. refl;
  copies = λ k low moves. absurd (omega arith);
  only = λ b is. inl is;
  same = refl;
}

-- what the fate of the i-th move asks
abbrev MayHave : Heap → List Move → ℕ → Fate → Type 0
MayHave old ms i w = Fits w old.free (room_at old ms i).cursors (move_at ms i).from (move_at ms i).to
    (move_at ms i).generation (cells_of (placed_at old (move_at ms i).from))

module _ {forwarding : Addr → Addr} {old h : Heap} {ms : List Move} {i : ℕ} (can : CanCopy old ms)
    (low : i < length ms) (r : AreCopied forwarding old h ms i) where
  abbrev m : Move
  m = move_at ms i

  abbrev q : Room
  q = room_at old ms i

  regions_now : h.regions ≡ q.regions
  regions_now = ap (λ (x : Heap). x.regions) r.same

  free_now : h.free ≡ drop q.cursors.opened old.free
  free_now = ap (λ (x : Heap). x.free) r.same

  first_free : slice_index h.free 0 ≡ slice_index old.free q.cursors.opened
  first_free = ap (λ ns. slice_index ns 0) free_now ∙ get_or-drop q.cursors.opened old.free 0 0
      ∙ ap (slice_index old.free) (omega arith)

  fresh_address : MayHave old ms i MovesToNewRegion → region_of m.to ≡ slice_index old.free q.cursors.opened
  fresh_address f = region_is m.to _ 0 (omega (arith, f.address)) (omega arith)

  from_same : fin.get h.objects m.from.0 ≡ fin.get old.objects m.from.0
  from_same = r.objects m.from (can.objects i low)

  cells_same : cells_of (placed_at h m.from) ≡ cells_of (placed_at old m.from)
  cells_same = ap cells_of (placed_alike old h m.from from_same)

  region_at_cursor : MayHave old ms i Moves → region_of m.to ≡ (cursor_of q.cursors m.generation).region
  region_at_cursor f = let fits = f.room in region_is m.to _ _ f.address (omega arith)

  forwarding_now : MayHave old ms i Moves → (is_in_use h (region_of m.to) ≡ true)
      × (m.to.0 ≡ region_of m.to * REGION + (region_at h (region_of m.to)).fill)
      × ((region_at h (region_of m.to)).fill + cells_of (placed_at h m.from) ≤ REGION)
      × (is_in_use old (region_of m.to) ≡ false)
  forwarding_now f =
      let s = cursor_of q.cursors m.generation in
      let at = (room_cursor old q (can.put i (omega arith)).room m.generation (can.generations i low)).fresh
      f.begun in
      let P : ℕ → Type 0 =
      λ n. (is_in_use h n ≡ true) × (m.to.0 ≡ n * REGION + (region_at h n).fill) ×
      ((region_at h n).fill + cells_of (placed_at h m.from) ≤ REGION) × (is_in_use old n ≡ false) in
      let fill : (region_at h s.region).fill ≡ s.fill = ap (λ rs. (region_in rs s.region).fill) regions_now
      ∙ at.1 in
      subst P (sym (region_at_cursor f)) (
        ap (λ rs. fin.contains_key rs s.region) regions_now ∙ at.0.held,
        f.address ∙ ap (λ n. s.region * REGION + n) (sym fill),
        omega (arith, cells_same, fill, f.room),
        at.0.new,
      )

  -- the region of the object was in use
  apart_from : (n : ℕ) → is_in_use old n ≡ false → region_of m.from ≢ n
  apart_from n free same =
      both_ways _ free (ap (is_in_use old) (sym same) ∙ can.sound.held m.from (can.objects i low))

  -- there is room for the object where it goes, which was not in use
  room_now : (w : Fate) → MayHave old ms i w → is_moving w ≡ true
      → let x = if is_opening w then with_fresh h (slice_index h.free 0) m.generation else h in
      (is_in_use x (region_of m.to) ≡ true)
      × ((region_at x (region_of m.to)).fill + cells_of (placed_at x m.from) ≤ REGION)
      × (is_in_use old (region_of m.to) ≡ false)
  room_now Dead f e = absurd (cc e)
  room_now Pinned f e = absurd (cc e)
  room_now MovesToNewRegion f e =
      let n = slice_index h.free 0 in
      let x = with_fresh h n m.generation in
      let few = can.sound.few_fields m.from (can.objects i low) in
      let empty = ap {B = ℕ} (λ (y : Region). y.fill) (region_fresh h n m.generation) in
      subst (λ r. (is_in_use x r ≡ true) × ((region_at x r).fill + cells_of (placed_at x m.from) ≤ REGION)
      × (is_in_use old r ≡ false)) (sym (fresh_address f ∙ sym first_free)) (
        ap is_some (get_same h.regions n n (record { generation = m.generation; fill = 0 }) refl),
        omega (arith, empty, cells_same),
        ap (is_in_use old) first_free ∙ can.sound.free_unused _ f.free,
      )
  room_now Moves f e = let now = forwarding_now f in (now.0, now.2, now.3)

  opens_now : (w : Fate) → MayHave old ms i w → is_opening w ≡ true → 0 < length h.free
  opens_now Dead f e = absurd (cc e)
  opens_now Pinned f e = absurd (cc e)
  opens_now MovesToNewRegion f e =
      let known = length-drop q.cursors.opened old.free in
      omega (arith, f.free, ap {B = ℕ} (λ (ns : List ℕ). length ns) free_now, known)
  opens_now Moves f e = absurd (cc e)

  -- an object that does not move
  stays_on : is_moving m.fate ≡ false → AreCopied forwarding old h ms (i + 1)
  stays_on not_moving = record {
    objects = r.objects;
    copies = λ k before. up_to (λ j. is_moving (move_at ms j).fate ≡ true
        → fin.get h.objects (move_at ms j).to.0 ≡ option_map (forwarded forwarding)
        (fin.get old.objects (move_at ms j).from.0)) i r.copies
        (λ moves. absurd (both_ways _ not_moving moves)) k (omega arith);
    only = λ b is. ⊎_elim (λ was. inl was)
        (λ e. inr (ends_more i (i + 1) (omega arith) e)) (r.only b is);
    same = r.same ∙ (λ j. record old {
      objects = h.objects;
      regions = (room j).regions;
      free = drop (room j).cursors.opened old.free;
    });
  }
    where
      room : q ≡ room_at old ms (i + 1)
      room = sym (room_step old ms i
          ∙ room_rests m.fate not_moving old.free q m.generation (cells_of (placed_at old m.from)))

  -- an object that moves is at a second address too
  moves_on : (new : Heap) → is_moving m.fate ≡ true
      → new ≡ record h {
        objects = fin.insert h.objects m.to.0 (forwarded forwarding (placed_at old m.from));
        regions = (room_at old ms (i + 1)).regions;
        free = drop (room_at old ms (i + 1)).cursors.opened old.free;
      }
      → AreCopied forwarding old new ms (i + 1)
  moves_on new moves step =
      let p = forwarded forwarding (placed_at old m.from) in
      let put = can.put (i + 1) (omega arith) in
      let fresh = (put.put i (omega arith) moves).fresh in
      let same_at : (a : Addr) → a.0 ≡ m.to.0 → fin.get new.objects a.0 ≡ Some p =
      λ a e. ap (λ (x : Heap). fin.get x.objects a.0) step ∙ get_same h.objects m.to.0 a.0 p e in
      let kept_at : (a : Addr) → a.0 ≢ m.to.0 → fin.get new.objects a.0 ≡ fin.get h.objects a.0 =
      λ a apart. ap (λ (x : Heap). fin.get x.objects a.0) step ∙ get_other h.objects m.to.0 a.0 p apart in
      record {
        objects = λ a is. kept_at a
            (λ e. both_ways _ fresh.new (ap (λ (x : Addr). is_in_use old (region_of x))
            (sym (same_address a m.to e)) ∙ can.sound.held a is))
            ∙ r.objects a is;
        copies = λ k before. up_to (λ j. is_moving (move_at ms j).fate ≡ true
            → fin.get new.objects (move_at ms j).to.0 ≡ option_map (forwarded forwarding)
            (fin.get old.objects (move_at ms j).from.0)) i
            (λ j below moving. kept_at (move_at ms j).to
            (λ e. put.apart j i below (omega arith) moving moves (same_address (move_at ms j).to m.to e))
            ∙ r.copies j below moving)
            (λ moving. same_at m.to refl ∙ ap (option_map (forwarded forwarding))
            (sym (get_placed old m.from (can.objects i low)))) k (omega arith);
        only = λ b is. elim (cases_eq b.0 m.to.0) [
          | inl same ↦ inr (ends_here i moves (sym (same_address b m.to same)))
          | inr apart ↦ ⊎_elim (λ was. inl was)
              (λ e. inr (ends_more i (i + 1) (omega arith) e))
              (r.only b (sym (has_alike h new b (kept_at b apart)) ∙ is))
        ];
        same = step ∙ (λ j. record (r.same j) {
          objects = sym (ap (λ (x : Heap). x.objects) step) j;
          regions = (room_at old ms (i + 1)).regions;
          free = drop (room_at old ms (i + 1)).cursors.opened old.free;
        });
      }

  -- the heap with the object at its new address, where the regions are those of a room
  abbrev moved_with : Room → Heap
  moved_with x = record h {
    objects = fin.insert h.objects m.to.0 (forwarded forwarding (placed_at old m.from));
    regions = x.regions;
    free = drop x.cursors.opened old.free;
  }

  moved_room : (w : Fate) → m.fate ≡ w
      → moved_with (put_fate w old.free q m.generation (cells_of (placed_at old m.from)))
      ≡ moved_with (room_at old ms (i + 1))
  moved_room w is = ap moved_with (sym (room_step old ms i
      ∙ ap (λ v. put_fate v old.free q m.generation (cells_of (placed_at old m.from))) is))

  copy_cells : cells_of (forwarded forwarding (placed_at h m.from)) ≡ cells_of (placed_at old m.from)
  copy_cells = ap (λ n. n + HEADER) (length-map (placed_at h m.from).fields (option_map forwarding))
      ∙ cells_same

  gone_by : (w : Fate) (new : Heap) → m.fate ≡ w → MayHave old ms i w → is_moving w ≡ true
      → new ≡ with_moved (if is_opening w then with_fresh h (slice_index h.free 0) m.generation else h)
      m.from (region_of m.to) forwarding → AreCopied forwarding old new ms (i + 1)
  gone_by Dead new is fits moves gone = absurd (cc moves)
  gone_by Pinned new is fits moves gone = absurd (cc moves)
  gone_by MovesToNewRegion new is fits moves gone =
      let n = slice_index old.free q.cursors.opened in
      let start : Region = record { generation = m.generation; fill = 0 } in
      let empty = ap {B = ℕ} (λ (x : Region). x.fill) (region_fresh h n m.generation) in
      let key : n * REGION + (region_at (with_fresh h n m.generation) n).fill ≡ m.to.0 =
      omega (arith, empty, fits.address) in
      let placed = placed_alike old h m.from from_same in
      let free : drop 1 h.free ≡ drop (q.cursors.opened + 1) old.free = ap (drop 1) free_now
      ∙ drop-drop 1 q.cursors.opened old.free in
      moves_on new (ap is_moving is) (gone
      ∙ (λ j. with_moved (with_fresh h (first_free j) m.generation) m.from (fresh_address fits j) forwarding)
      ∙ (λ j. record h {
        objects = fin.insert h.objects (key j) (forwarded forwarding (placed j));
        regions = filled (fin.insert (regions_now j) n start) n (copy_cells j);
        free = free j;
      })
      ∙ moved_room MovesToNewRegion is)
  gone_by Moves new is fits moves gone =
      let at : m.to.0 ≡ region_of m.to * REGION + (region_at h (region_of m.to)).fill =
      (forwarding_now fits).1 in
      let placed = placed_alike old h m.from from_same in
      moves_on new (ap is_moving is) (gone
      ∙ (λ j. record h {
        objects = fin.insert h.objects (sym at j) (forwarded forwarding (placed j));
        regions = filled (regions_now j) (region_at_cursor fits j) (copy_cells j);
        free = free_now j;
      }) ∙ moved_room Moves is)

  -- an object that moves is copied
  gone_on : (new : Heap) → is_moving m.fate ≡ true
      → new ≡ with_moved (opened_for h m) m.from (region_of m.to) forwarding
      → AreCopied forwarding old new ms (i + 1)
  gone_on new moves gone = gone_by m.fate new refl (can.fits i low) moves gone

-- a heap where a region was opened, or not, has the same objects
opened_objects : (h : Heap) (m : Move) → (opened_for h m).objects ≡ h.objects
opened_objects h m = by (is_opening m.fate)
  where
    by : (b : Bool) → (if b then with_fresh h (slice_index h.free 0) m.generation else h).objects ≡ h.objects
    by true = refl
    by false = refl

-- an object that follows another one moves, and opens no region
following : (w : Fate) → is_following w ≡ true → w ≡ Moves
following Dead e = absurd (cc e)
following Pinned e = absurd (cc e)
following MovesToNewRegion e = absurd (cc e)
following Moves e = refl

-- a move that goes with the first of its run
module _ {ms : List Move} {i : ℕ} (k : ℕ) (run : IsRun ms i (k + 1)) (after : i < k) where
  goes : goes_with ms k (move_at ms i) ≡ true
  goes = run.with_first k after (omega arith)

  follows : (move_at ms k).fate ≡ Moves
  follows = following _ (and_parts _ _ (and_parts _ _ (and_parts _ _ goes).0).0).1

  goes_there : region_of (move_at ms k).to ≡ region_of (move_at ms i).to
  goes_there = eqb-true _ _ (and_parts _ _ goes).1

-- the objects of a run are copied one after another
module _ {forwarding : Addr → Addr} {old h : Heap} {ms : List Move} {i : ℕ} (can : CanCopy old ms)
    (r : AreCopied forwarding old h ms i) (moves : is_moving (move_at ms i).fate ≡ true) where
  abbrev first : Heap
  first = opened_for h (move_at ms i)

  run_goes : (n end : ℕ) → end ≡ i + suc n → IsRun ms i end
      → AreCopied forwarding old (run_copied forwarding first ms i (suc n)) ms end
  unfolding run_copied
  run_goes zero end is run =
      let e : i + 0 ≡ i = omega arith in
      subst (AreCopied forwarding old (run_copied forwarding first ms i 1) ms) {x = i + 1} {y = end}
      (omega (arith, is)) (gone_on can (let w = run.within in omega arith) r _ moves
      (λ j. with_moved first (move_at ms (e j)).from (region_of (move_at ms (e j)).to) forwarding))
  run_goes (suc p) end is run =
      let k = i + suc p in
      let low = run.within in
      let at : end ≡ k + 1 = omega (arith, is) in
      let before = run_goes p k refl (run_part ms i k end run (omega arith) (omega arith)) in
      let mid = run_copied forwarding first ms i (suc p) in
      let f = follows k (subst (IsRun ms i) at run) (omega arith) in
      subst (AreCopied forwarding old (run_copied forwarding first ms i (suc (suc p))) ms) (sym at)
      (gone_on can (omega arith) before _ (ap is_moving f)
      (ap (λ b. with_moved (if b then with_fresh mid (slice_index mid.free 0) (move_at ms k).generation else mid)
      (move_at ms k).from (region_of (move_at ms k).to) forwarding) (sym (ap is_opening f))))

  module _ {kept : Addr → Bool} (keeps : (k : ℕ) → k < length ms → is_moving (move_at ms k).fate ≡ true
      → HasKeptFields kept old (move_at ms k).from) (low : i < length ms) where
    first_same : (a : Addr) → has_object old a ≡ true → fin.get first.objects a.0 ≡ fin.get old.objects a.0
    first_same a is = ap (λ m. fin.get m a.0) (opened_objects h (move_at ms i)) ∙ r.objects a is

    run_low : (k : ℕ) → IsRun ms i (k + 1) → k < length ms
    run_low k run = let w = run.within in omega arith

    run_moves : (k : ℕ) → IsRun ms i (k + 1) → is_moving (move_at ms k).fate ≡ true
    run_moves k run = elim (cases_eq k i) [
      | inl same ↦ ap (λ j. is_moving (move_at ms j).fate) same ∙ moves
      | inr other ↦ ap is_moving (follows k run (let s = run.some in omega arith))
    ]

    room_run : (n : ℕ) → IsRun ms i (i + n + 1)
        → (region_at (run_copied forwarding first ms i n) (region_of (move_at ms i).to)).fill
        + cells_of (placed_at first (move_at ms (i + n)).from) ≤ REGION
    unfolding run_copied
    room_run zero run =
        let e : i ≡ i + 0 = omega arith in
        subst (λ j. (region_at first (region_of (move_at ms i).to)).fill + cells_of (placed_at first (move_at ms j).from)
        ≤ REGION) e (room_now can low r (move_at ms i).fate (can.fits i low) moves).1
    room_run (suc p) run =
        let k = i + suc p in
        let mid = run_copied forwarding first ms i (suc p) in
        let before = run_goes p k refl (run_part ms i k (k + 1) run (omega arith) (omega arith)) in
        let from = (move_at ms k).from in
        let there = can.objects k (run_low k run) in
        let now = forwarding_now can (run_low k run) before
        (subst (MayHave old ms k) (follows k run (omega arith)) (can.fits k (run_low k run))) in
        let same = ap cells_of (placed_alike old mid from (before.objects from there)
        ∙ sym (placed_alike old first from (first_same from there))) in
        let fill = ap (λ q. (region_at mid q).fill) (goes_there k run (omega arith)) in
        omega (arith, now.2, fill, same)

    pub may_run : MayRun kept forwarding first ms i
    may_run =
        let room = room_now can low r (move_at ms i).fate (can.fits i low) moves in
        record {
          within = low;
          apart = apart_from can low r (region_of (move_at ms i).to) room.2;
          held = room.0;
          objects = λ k run.
              let there = can.objects k (run_low k run) in
              has_alike old first (move_at ms k).from (first_same (move_at ms k).from there) ∙ there;
          kept_fields = λ k run y field.
              let from = (move_at ms k).from in
              keeps k (run_low k run) (run_moves k run) y
              (field_alike old first from from y (first_same from (can.objects k (run_low k run))) field);
          room = room_run;
        }

    pub may_open : MayOpen h (move_at ms i)
    may_open opening =
        ((can.generations i low).1, opens_now can low r (move_at ms i).fate (can.fits i low) opening)

-- the objects of a run of moves are copied, or the object of one move does not move
pub have_gone : {forwarding : Addr → Addr} {old h new : Heap} {ms : List Move} {i end : ℕ} → CanCopy old ms
    → i < length ms → AreCopied forwarding old h ms i → i < end → HaveGone forwarding h new ms i end
    → AreCopied forwarding old new ms end
have_gone {forwarding} {old} {h} {new} {ms} {i} {end} can low r after gone =
    by (is_moving (move_at ms i).fate) refl gone
  where
    by : (b : Bool) → is_moving (move_at ms i).fate ≡ b
        → MatchBool b (IsRun ms i end × (new ≡ run_copied forwarding (opened_for h (move_at ms i)) ms i
        (end - i))) ((end ≡ i + 1) × (new ≡ h)) → AreCopied forwarding old new ms end
    by true moves is =
        let n : end - i ≡ suc (end - i - 1) = omega arith in
        subst (λ (x : Heap). AreCopied forwarding old x ms end)
        (sym (is.1 ∙ ap (run_copied forwarding (opened_for h (move_at ms i)) ms i) n))
        (run_goes can r moves (end - i - 1) end (omega arith) is.0)
    by false rests is = subst (AreCopied forwarding old new ms) (sym is.0)
        (subst (λ (x : Heap). AreCopied forwarding old x ms (i + 1)) (sym is.1) (stays_on can low r rests))
