-- One object more is laid, and at the end all are.
use Rattle.hd_plan.proofs.Basics.{Addr, AllocCursors, AreMovesOf, AreMovesTo, Bool, CanPutAt, Dead, Fits, FitsMove, HasFreeRegions, Heap, IsCondemned, IsLaying, IsMoveOf, IsNext, IsPassed, IsRoom, IsSound, List, Move, None, Option, REGION, Room, Some, [], ap, arith, cases_Bool, cases_eq, cases_lt, cells_of, cond, cursor_of, false, generation_at, get_or_append_left, get_or_at, has_object, inl, inr, is_after, is_condemned, is_kept_fate, is_moving, is_staying, length, length-append, ltb-false, ltb-true, move_at, object_at, placed_at, put_cursors, put_move, raised, refl, region_of, same_address, slice_index_or, subst, suc, sum_by_push, sym, true, true≢false, zero, ℕ, ⊎_elim, ◌&&◌, ◌*◌, ◌++◌, ◌+◌, ◌<◌, ◌^◌, ◌∙◌, ◌∷◌, ◌≡◌, ◌≢◌, ◌≤◌, ◌⊎◌}
use Rattle.hd_plan.specs.Layout.{room_at}
use Rattle.hd_heap.proofs.NextObjects.{IsNextFrom}
use Rattle.hd_plan.proofs.{CondemnedAddresses.condemned_of, KeptMoves.raised_most, KeptMoves.cells_some, MoveWeights.cells_fit, RoomSteps.region_low, RoomSteps.region_high, RoomSteps.goes, RoomSteps.can_put, RoomSteps.room_start}

-- what is read in a list with one more, what holds of each and of one more, and what rises
module _ {A : Type 0} (d : A) (xs : List A) (x : A) where
  pub push_before : (k : ℕ) → k < length xs → slice_index_or (xs ++ x ∷ []) k d ≡ slice_index_or xs k d
  push_before k low = get_or_append_left xs (x ∷ []) d k low

  pub push_last : (k : ℕ) → k ≡ length xs → slice_index_or (xs ++ x ∷ []) k d ≡ x
  push_last k e = get_or_at xs x [] d k (sym e)

  pub push_length : length (xs ++ x ∷ []) ≡ suc (length xs)
  push_length = length-append xs (x ∷ []) ∙ omega arith

  pub push_each : (P : ℕ → A → Type 0) → ((k : ℕ) → k < length xs → P k (slice_index_or xs k d))
      → P (length xs) x → (k : ℕ) → k < length (xs ++ x ∷ []) → P k (slice_index_or (xs ++ x ∷ []) k d)
  push_each P each last k low = elim (cases_eq k (length xs)) [
    | inl same ↦ subst (P k) (sym (push_last k same)) (subst (λ j. P j x) (sym same) last)
    | inr other ↦
        let inside : k < length xs = omega (arith, push_length, low, other) in
        subst (P k) (sym (push_before k inside)) (each k inside)
  ]

  -- what is found there: the last, or what was found before
  pub push_found : (P : A → Type 0) → P x ⊎ ((k : ℕ) × ((k < length xs) × P (slice_index_or xs k d)))
      → (k : ℕ) × ((k < length (xs ++ x ∷ [])) × P (slice_index_or (xs ++ x ∷ []) k d))
  push_found P (inl last) =
      (length xs, (omega (arith, push_length), subst P (sym (push_last (length xs) refl)) last))
  push_found P (inr w) =
      (w.0, (omega (arith, push_length, w.1.0), subst P (sym (push_before w.0 w.1.0)) w.1.1))

  pub push_rising : (f : A → ℕ)
      → ((j k : ℕ) → j < k → k < length xs → f (slice_index_or xs j d) < f (slice_index_or xs k d))
      → ((j : ℕ) → j < length xs → f (slice_index_or xs j d) < f x) → (j k : ℕ) → j < k
      → k < length (xs ++ x ∷ [])
      → f (slice_index_or (xs ++ x ∷ []) j d) < f (slice_index_or (xs ++ x ∷ []) k d)
  push_rising f rising below j k less low =
      push_each (λ i y. j < i → f (slice_index_or (xs ++ x ∷ []) j d) < f y)
      (λ i high after. omega (arith, rising j i after high, ap f (push_before j (omega arith))))
      (λ before. omega (arith, below j before, ap f (push_before j before))) k low less

abbrev pub no_move : Move
no_move = record { from = record { 0 = 0 }; to = record { 0 = 0 }; generation = 0; fields = 0; fate = Dead }

-- the room does not look at later moves
pub push_room : (h : Heap) (ms : List Move) (m : Move) (k : ℕ) → k ≤ length ms
    → room_at h (ms ++ m ∷ []) k ≡ room_at h ms k
unfolding room_at
push_room h ms m zero le = refl
push_room h ms m (suc k) le =
    λ i. put_move h (push_room h ms m k (omega arith) i) (push_before no_move ms m k (omega arith) i)

-- the room after one move more
pub room_pushed : (h : Heap) (ms : List Move) (m : Move)
    → room_at h (ms ++ m ∷ []) (length (ms ++ m ∷ [])) ≡ put_move h (room_at h ms (length ms)) m
unfolding room_at
room_pushed h ms m =
    ap (room_at h (ms ++ m ∷ [])) (push_length no_move ms m)
    ∙ (λ i. put_move h (push_room h ms m (length ms) (omega arith) i) (push_last no_move ms m (length ms) refl i))

-- an address after another, and one that was reached
pub after_past : (after : Option Addr) (at : Addr) → is_after after at ≡ true → (a : Addr)
    → is_after after a ≡ false → a.0 < at.0
after_past None at e a reached = absurd (true≢false reached)
after_past (Some b) at e a reached = let l = ltb-true b.0 at.0 e in let r = ltb-false b.0 a.0 reached in
    omega arith

-- what was reached up to the next is the next itself, or was reached before
pub reached_cases : (p : Addr → Bool) (after : Option Addr) (at x : Addr) → IsNext p after at → p x ≡ true
    → is_after (Some at) x ≡ false → (is_after after x ≡ false) ⊎ (x ≡ at)
reached_cases p after at x next is reached = elim (cases_Bool (is_after after x)) [
  | inl later ↦
      inr (same_address x at (let low = next.least x is later in let up = ltb-false at.0 x.0 reached in
      omega arith))
  | inr before ↦ inl before
]

-- how far a walk is: the first address that it has not passed
abbrev pub reach_of : Option Addr → ℕ
reach_of None = 0
reach_of (Some a) = a.0 + 1

pub reach_on : (after : Option Addr) (at : Addr) → is_after after at ≡ true → reach_of after ≤ at.0
reach_on None at e = omega arith
reach_on (Some b) at e = let l = ltb-true b.0 at.0 e in omega arith

-- moves of some objects are moves of others where these are the same
pub moves_like : {P Q U V : Addr → Type 0} {h : Heap} {n : ℕ} {ms : List Move} → AreMovesOf P U h n ms
    → ((a : Addr) → P a → Q a) → ((a : Addr) → Q a → P a) → ((a : Addr) → U a → V a) → AreMovesOf Q V h n ms
moves_like to on back also = record {
  condemned = λ k low. on _ (to.condemned k low);
  rising = to.rising;
  all = λ a is. ⊎_elim (λ moved. inl moved) (λ not_moved. inr (also a not_moved)) (to.all a (back a is));
  generations = to.generations;
  fields = to.fields;
  fits = to.fits;
}

module _ (h : Heap) (n : ℕ) (promoted : Addr → Bool) where
  to_start : AreMovesTo h n promoted [] 0
  to_start = record {
    condemned = λ k low. absurd (omega arith);
    rising = λ j k less low. absurd (omega arith);
    all = λ a is. absurd (omega (arith, is.1));
    generations = λ k low. absurd (omega arith);
    fields = λ k low. absurd (omega arith);
    fits = λ k low. absurd (omega arith);
  }

  -- a region that was passed has no move of a later object
  passed_still : (ms : List Move) (bound : ℕ) (m : Move) (a : Addr) → IsPassed promoted ms bound a
      → bound ≤ m.from.0
      → IsPassed promoted (ms ++ m ∷ []) (m.from.0 + 1) a
  passed_still ms bound m a is from = record {
    none = push_each no_move ms m (λ k x. region_of x.from ≢ region_of a) is.none
        (λ same. omega (arith, same, is.whole, from, region_high m.from));
    whole = omega (arith, is.whole, from);
    unkept = is.unkept;
  }

  -- the next object has a move too
  to_next : (ms : List Move) (bound : ℕ) (m : Move) → AreMovesTo h n promoted ms bound
      → IsNextFrom h n bound m.from → m.generation ≡ raised n (generation_at (object_at h) m.from)
      → m.fields ≡ length (placed_at h m.from).fields
      → FitsMove h (room_at h ms (length ms)) m → AreMovesTo h n promoted (ms ++ m ∷ []) (m.from.0 + 1)
  to_next ms bound m to next generation fields fits = record {
    condemned = push_each _ ms m (λ k x. (is_condemned h n x.from ≡ true) × (x.from.0 < m.from.0 + 1))
        (λ k low. let was = to.condemned k low in (was.0, omega (arith, was.1, next.from)))
        (next.member, omega arith);
    rising = push_rising _ ms m (λ x. x.from.0) to.rising
        (λ j low. omega (arith, (to.condemned j low).1, next.from));
    all = λ a is. elim (cases_lt a.0 bound) [
      | inl before ↦ ⊎_elim (λ was. inl (push_found no_move ms m (λ x. x.from ≡ a) (inr was)))
          (λ passed. inr (passed_still ms bound m a passed next.from)) (to.all a (is.0, before))
      | inr from ↦ inl (push_found no_move ms m (λ x. x.from ≡ a)
          (inl (same_address m.from a (omega (arith, next.least a is.0 from, is.1)))))
    ];
    generations = push_each _ ms m (λ k x. x.generation ≡ raised n (generation_at (object_at h) x.from))
        to.generations generation;
    fields = push_each _ ms m (λ k x. x.fields ≡ length (placed_at h x.from).fields) to.fields fields;
    fits = push_each _ ms m (λ k x. FitsMove h (room_at h (ms ++ m ∷ []) k) x)
        (λ k low. subst (λ (q : Room). FitsMove h q (move_at ms k)) (sym (push_room h ms m k (omega arith)))
        (to.fits k low))
        (subst (λ (q : Room). FitsMove h q m) (sym (push_room h ms m (length ms) (omega arith))) fits);
  }

pub laying_start : (h : Heap) (n : ℕ) (promoted pinned : Addr → Bool) → IsLaying h n promoted pinned []
    (record { first = record { region = 0; fill = 0 }; second = record { region = 0; fill = 0 }; opened = 0 })
    0
unfolding room_at
laying_start h n promoted pinned = record {
  to = to_start h n promoted;
  chosen = record { kept = λ k low. absurd (omega arith); stays = λ k low. absurd (omega arith) };
  room = room_start h;
  cursors_are = refl;
  laid = omega arith;
}

-- addresses of objects have 32 bits
pub address_low : (h : Heap) → IsSound h → (a : Addr) → has_object h a ≡ true → (REGION ≤ a.0) ×
    (a.0 < 2 ^ 32)
address_low h sound a is =
    let number = sound.numbers (region_of a) (sound.held a is) in
    (let some = number.0 in omega (arith, region_low a), let low = number.1 in omega (arith, region_high a))

module _ {h : Heap} {n : ℕ} (sound : IsSound h) {promoted pinned : Addr → Bool} {ms : List Move}
    {cursors : AllocCursors} {bound : ℕ} (laying : IsLaying h n promoted pinned ms cursors bound) where
  pub may_put : (g : ℕ) → HasFreeRegions h n → (0 < g) × (g ≤ 2)
      → CanPutAt h (cursor_of cursors g) cursors.opened
  may_put g free young =
      let fit = cells_fit ms laying.to.rising h n (λ k low.
      condemned_of h n (move_at ms k).from (laying.to.condemned k low).0) free.cells free.cells_are in
      let laid = laying.laid in
      subst (λ (s : AllocCursors). CanPutAt h (cursor_of s g) s.opened) laying.cursors_are
      (can_put h sound (room_at h ms (length ms)) laying.room g young free.cells (omega arith)
      free.small free.enough)

  pub laying_next : (new : AllocCursors) (m : Move) → IsNextFrom h n bound m.from
      → IsMoveOf h n (promoted m.from) (pinned m.from) cursors new m
      → IsLaying h n promoted pinned (ms ++ m ∷ []) new (m.from.0 + 1)
  laying_next new m next is =
      let q : Room = room_at h ms (length ms) in
      let cells : ℕ = cells_of (placed_at h m.from) in
      let condemned : IsCondemned (object_at h) n m.from = condemned_of h n m.from next.member in
      let young : (0 < m.generation) × (m.generation ≤ 2) =
      subst (λ (x : ℕ). (0 < x) × (x ≤ 2)) (sym is.generation) (raised_most n _ condemned.young) in
      let fits : FitsMove h q m = subst (λ (s : AllocCursors).
      Fits m.fate h.free s m.from m.to m.generation cells) (sym laying.cursors_are) is.fits in
      let more = room_pushed h ms m in
      record {
        to = to_next h n promoted ms bound m laying.to next is.generation is.fields fits;
        chosen = record {
          kept = push_each _ ms m (λ k x. is_kept_fate x.fate ≡ promoted x.from) laying.chosen.kept is.kept;
          stays = push_each _ ms m (λ k x. is_staying x.fate ≡ (promoted x.from && pinned x.from))
              laying.chosen.stays is.stays;
        };
        room = subst (IsRoom h) (sym more) (goes h sound q laying.room m.from m.to m.generation cells young
            (cells_some sound m.from condemned.object) m.fate fits).room;
        cursors_are = ap (λ (r : Room). r.cursors) more
            ∙ ap (λ (s : AllocCursors). put_cursors m.fate h.free s m.generation cells) laying.cursors_are
            ∙ sym is.cursors;
        laid = (let known = ap (λ (r : Room). r.cells) more in
            let also = sum_by_push (λ (x : Move). cells_of (placed_at h x.from)) ms m in
            omega (arith, laying.laid, known, part (is_moving m.fate) cells, also));
      }
    where
      part : (b : Bool) (x : ℕ) → cond b x 0 ≤ x
      part true x = omega arith
      part false x = omega arith

  -- a region in which nothing is kept is passed
  pub laying_passed : (r : ℕ) → bound ≡ r * REGION → ((a : Addr) → region_of a ≡ r → promoted a ≡ false)
      → IsLaying h n promoted pinned ms cursors ((r + 1) * REGION)
  laying_passed r at unkept = record {
    to = record {
      condemned = λ k low. let was = laying.to.condemned k low in (was.0, omega (arith, was.1, at));
      rising = laying.to.rising;
      all = λ a is. elim (cases_lt a.0 bound) [
        | inl before ↦ ⊎_elim (λ moved. inl moved) (λ passed. inr (record {
          none = passed.none;
          whole = omega (arith, passed.whole, at);
          unkept = passed.unkept;
        })) (laying.to.all a (is.0, before))
        | inr from ↦
            let here : region_of a ≡ r = omega (arith, from, is.1, at, region_low a, region_high a) in
            inr (record {
              none = λ k low same. omega (
                arith,
                (laying.to.condemned k low).1,
                at,
                same,
                here,
                region_low (move_at ms k).from,
              );
              whole = omega (arith, here);
              unkept = unkept a here;
            })
      ];
      generations = laying.to.generations;
      fields = laying.to.fields;
      fits = laying.to.fits;
    };
    chosen = laying.chosen;
    room = laying.room;
    cursors_are = laying.cursors_are;
    laid = laying.laid;
  }

  pub laying_past : (high : ℕ) → bound ≤ high
      → ((a : Addr) → is_condemned h n a ≡ true → bound ≤ a.0 → high ≤ a.0)
      → IsLaying h n promoted pinned ms cursors high
  laying_past high up none = record {
    to = moves_like laying.to (λ a is. (is.0, omega (arith, is.1, up))) (λ a is. (
      is.0,
      elim (cases_lt a.0 bound) [
        | inl before ↦ before
        | inr from ↦ absurd (omega (arith, none a is.0 from, is.1))
      ],
    )) (λ a passed. record {
      none = passed.none;
      whole = omega (arith, passed.whole, up);
      unkept = passed.unkept;
    });
    chosen = laying.chosen;
    room = laying.room;
    cursors_are = laying.cursors_are;
    laid = laying.laid;
  }
