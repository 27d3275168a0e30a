-- What is kept by moves, and where it goes: objects alone, all that is older and in place, and no two to one
-- address.
use Rattle.hd_plan.proofs.Basics.{Addr, AreMoves, ArePut, Bool, Dead, FIELDS, Fate, Fits, HEADER, Heap, IsCondemned, IsKeeping, IsPut, IsSound, List, Move, Moves, MovesToNewRegion, None, Object, Option, Pinned, Some, ap, arith, both_ways, cases_Bool, cases_eq, cases_order, cells_of, false, find_move, generation_at, generation_in, has_object, inl, inr, is_condemned, is_kept_by, is_kept_fate, is_moving, is_some, is_staying, le-ltb, length, lt-ltb, ltb-true, move_at, nat_lt, object_at, or_cases, or_left, forwarding_by, placed_at, raised, refl, region_of, subst, suc, sym, true, true≢false, young_raised, zero, ℕ, ◌+◌, ◌<◌, ◌||◌, ◌∙◌, ◌≡◌, ◌≢◌, ◌≤◌, ◌⊎◌}
use Rattle.hd_plan.specs.Layout.{room_at}
use Rattle.hd_plan.proofs.{CondemnedAddresses.condemned_of, MoveEnds.find_at, MoveEnds.find_none, RoomSteps.room_start, RoomSteps.goes}

pub no_generation : (o : Option (Object Addr)) → is_some o ≡ false → generation_in o ≡ 0
no_generation None e = refl
no_generation (Some x) e = absurd (true≢false e)

-- a kept fate moves or stays
pub moving_or_staying : (w : Fate) → is_kept_fate w ≡ true → (is_moving w ≡ true) ⊎ (w ≡ Pinned)
moving_or_staying Dead e = absurd (true≢false (sym e))
moving_or_staying Pinned e = inr refl
moving_or_staying MovesToNewRegion e = inl refl
moving_or_staying Moves e = inl refl

pub moving_kept : (w : Fate) → is_moving w ≡ true → is_kept_fate w ≡ true
moving_kept Dead e = absurd (true≢false (sym e))
moving_kept Pinned e = refl
moving_kept MovesToNewRegion e = refl
moving_kept Moves e = refl

-- what stays is pinned
pub staying_is : (w : Fate) → is_staying w ≡ true → w ≡ Pinned
staying_is Dead e = absurd (true≢false (sym e))
staying_is Pinned e = refl
staying_is MovesToNewRegion e = absurd (true≢false (sym e))
staying_is Moves e = absurd (true≢false (sym e))

-- whether moves keep what is at an address, and where they put it
abbrev pub kept : Heap → ℕ → List Move → Addr → Bool
kept h n ms a = nat_lt n (generation_at (object_at h) a) || is_kept_by (find_move ms a)

abbrev pub forwarding : List Move → Addr → Addr
forwarding ms a = forwarding_by (find_move ms a) a

-- move k is of a, which it keeps
pub record IsKeptBy (ms : List Move) (a : Addr) (k : ℕ) : Type 0 where
  pub within : k < length ms
  pub from : (move_at ms k).from ≡ a
  pub kept : is_kept_fate (move_at ms k).fate ≡ true
  pub to : forwarding ms a ≡ (move_at ms k).to

-- a kept object stays in place, or a move puts it at another address
pub data RestsOrMoves (h : Heap) (ms : List Move) (a : Addr) : Type 0 where
  rests : has_object h a ≡ true → forwarding ms a ≡ a → RestsOrMoves h ms a
  moves_by : (k : ℕ) → k < length ms → (move_at ms k).from ≡ a → is_moving (move_at ms k).fate ≡ true
      → forwarding ms a ≡ (move_at ms k).to → RestsOrMoves h ms a

pub cells_some : {h : Heap} → IsSound h → (a : Addr) → has_object h a ≡ true → (0 < cells_of (placed_at h a))
    × (cells_of (placed_at h a) ≤ FIELDS + HEADER)
cells_some sound a is = (omega arith, omega (arith, sound.few_fields a is))

-- the next generation of what is condemned
pub raised_most : (n g : ℕ) → g ≤ n → (0 < raised n g) × (raised n g ≤ 2)
raised_most n g young = let e = young_raised n g young in (omega (arith, e), omega (arith, e))

module _ {h : Heap} {n : ℕ} (sound : IsSound h) {ms : List Move} (moves : AreMoves h n ms) where
  pub is_condemned_at : (k : ℕ) → k < length ms → IsCondemned (object_at h) n (move_at ms k).from
  is_condemned_at k within = condemned_of h n (move_at ms k).from (moves.condemned k within)

  pub generation_some : (k : ℕ) → k < length ms → (0 < (move_at ms k).generation)
      × ((move_at ms k).generation ≤ 2)
  generation_some k within =
      subst (λ (x : ℕ). (0 < x) × (x ≤ 2)) (sym (moves.generations k within))
      (raised_most n _ (is_condemned_at k within).young)

  -- what moves is put, and no two to one address
  pub are_put : (i : ℕ) → i ≤ length ms → ArePut h ms i
  unfolding room_at
  are_put zero le = record {
    room = room_start h;
    put = λ k less. absurd (omega arith);
    apart = λ j k low less. absurd (omega arith);
    held = λ r has. inl has;
  }
  are_put (suc i) le =
      let low : i < length ms = omega arith in
      let before : ArePut h ms i = are_put i (omega arith) in
      let m = move_at ms i in
      let some = cells_some sound m.from (is_condemned_at i low).object in
      let on = goes h sound (room_at h ms i) before.room m.from m.to m.generation
      (cells_of (placed_at h m.from)) (generation_some i low) some m.fate (moves.fits i low) in
      record {
        room = on.room;
        put = λ k less is. elim (cases_eq k i) [
          | inl same ↦ subst (λ (x : ℕ). is_moving (move_at ms x).fate ≡ true
              → IsPut h (room_at h ms (suc i)).regions (move_at ms x).to (move_at ms x).generation
              (cells_of (placed_at h (move_at ms x).from))) (sym same) on.puts is
          | inr apart ↦ on.stays _ _ _ (before.put k (omega arith) is)
        ];
        apart = λ j k low less is too. elim (cases_eq k i) [
          | inl same ↦ subst (λ (x : ℕ). is_moving (move_at ms x).fate ≡ true
              → (move_at ms j).to ≢ (move_at ms x).to) (sym same)
              (λ e. on.apart e (move_at ms j).to _ _ (before.put j (omega arith) is)
              (cells_some sound (move_at ms j).from (is_condemned_at j (omega arith)).object).0) too
          | inr other ↦ before.apart j k low (omega arith) is too
        ];
        held = λ r has. elim (on.since r has) [
          | inl was ↦ elim (before.held r was) [
            | inl old ↦ inl old
            | inr (k, by) ↦ inr (k, (let low = by.0 in omega arith, by.1))
          ]
          | inr new ↦ inr (i, (omega arith, new))
        ];
      }

  -- the room of all moves
  pub all_put : ArePut h ms (length ms)
  all_put = are_put (length ms) (omega arith)

  -- an older object has no move
  pub older_none : (a : Addr) → n < generation_at (object_at h) a → find_move ms a ≡ None
  older_none a older = find_none ms a (λ k within same. let young = (is_condemned_at k within).young in
      absurd (omega (arith, ap (generation_at (object_at h)) same, young, older)))

  pub older_kept : (a : Addr) → n < generation_at (object_at h) a → kept h n ms a ≡ true
  older_kept a older = or_left _ _ (lt-ltb n (generation_at (object_at h) a) older)

  pub older_forwarding : (a : Addr) → n < generation_at (object_at h) a → forwarding ms a ≡ a
  older_forwarding a older = ap (λ o. forwarding_by o a) (older_none a older)

  pub move_kept : (k : ℕ) → k < length ms → kept h n ms (move_at ms k).from ≡ is_kept_fate (move_at ms k).fate
  move_kept k within =
      (λ i. le-ltb n (generation_at (object_at h) (move_at ms k).from) (is_condemned_at k within).young
      i || is_kept_by (find_move ms (move_at ms k).from))
      ∙ ap is_kept_by (find_at ms k moves.rising within)

  pub move_forwarding : (k : ℕ) → k < length ms → forwarding ms (move_at ms k).from ≡ (move_at ms k).to
  move_forwarding k within = ap (λ o. forwarding_by o (move_at ms k).from) (find_at ms k moves.rising within)

  -- what is pinned stays in place
  pub pinned_address : (k : ℕ) → k < length ms → (move_at ms k).fate ≡ Pinned
      → (move_at ms k).to ≡ (move_at ms k).from
  pinned_address k within pinned =
      subst (λ w. Fits w h.free (room_at h ms k).cursors (move_at ms k).from (move_at ms k).to
      (move_at ms k).generation (cells_of (placed_at h (move_at ms k).from))) pinned (moves.fits k within)

  pub kept_cases : (a : Addr) → kept h n ms a ≡ true → (n < generation_at (object_at h) a)
      ⊎ ((k : ℕ) × IsKeptBy ms a k)
  kept_cases a e = elim (cases_Bool (is_condemned h n a)) [
    | inl is ↦ elim (moves.all a is) [
      | inl (k, at) ↦
          let goes = sym (move_kept k at.0) ∙ ap (kept h n ms) at.1 ∙ e in
          let to = ap (forwarding ms) (sym at.1) ∙ move_forwarding k at.0 in
          inr (k, record { within = at.0; from = at.1; kept = goes; to = to })
      | inr none ↦ elim (or_cases _ _ e) [
        | inl older ↦ inl (ltb-true n (generation_at (object_at h) a) older)
        | inr moved ↦ absurd (true≢false (sym moved ∙ ap is_kept_by (find_none ms a (λ k low same.
            none k low (ap region_of same)))))
      ]
    ]
    | inr other ↦ elim (or_cases _ _ e) [
      | inl older ↦ inl (ltb-true n (generation_at (object_at h) a) older)
      | inr moved ↦ absurd (true≢false (sym moved ∙ ap is_kept_by (find_none ms a (λ k low same.
          both_ways _ other (ap (is_condemned h n) (sym same) ∙ moves.condemned k low)))))
    ]
  ]

  older_object : (a : Addr) → n < generation_at (object_at h) a → has_object h a ≡ true
  older_object a older = elim (cases_Bool (has_object h a)) [
    | inl there ↦ there
    | inr none ↦ absurd (omega (arith, no_generation (object_at h a) none, older))
  ]

  pub rests_or_moves : (a : Addr) → kept h n ms a ≡ true → RestsOrMoves h ms a
  rests_or_moves a e = elim (kept_cases a e) [
    | inl older ↦ rests (older_object a older) (older_forwarding a older)
    | inr (k, by) ↦ elim (moving_or_staying (move_at ms k).fate by.kept) [
      | inl moving ↦ moves_by k by.within by.from moving by.to
      | inr pinned ↦ rests (ap (has_object h) (sym by.from) ∙ (is_condemned_at k by.within).object)
          (by.to ∙ pinned_address k by.within pinned ∙ by.from)
    ]
  ]

  -- no object is where one is put
  pub put_new : (k : ℕ) → k < length ms → is_moving (move_at ms k).fate ≡ true
      → has_object h (move_at ms k).to ≡ false
  put_new k within moving = elim (cases_Bool (has_object h (move_at ms k).to)) [
    | inl there ↦ absurd
        (true≢false (sym (sound.held (move_at ms k).to there) ∙ (all_put.put k within moving).fresh.new))
    | inr none ↦ none
  ]

  pub forwards_apart : (a b : Addr) → kept h n ms a ≡ true → kept h n ms b ≡ true → forwarding ms a
      ≡ forwarding ms b → a ≡ b
  forwards_apart a b ka kb same = elim (rests_or_moves a ka) [
    | rests object rest ↦ elim (rests_or_moves b kb) [
      | rests object2 rest2 ↦ sym rest ∙ same ∙ rest2
      | moves_by k low from moving to ↦ absurd (true≢false (sym object
          ∙ ap (has_object h) (sym rest ∙ same ∙ to) ∙ put_new k low moving))
    ]
    | moves_by j low from moving to ↦ elim (rests_or_moves b kb) [
      | rests object rest ↦ absurd (true≢false (sym object
          ∙ ap (has_object h) (sym rest ∙ sym same ∙ to) ∙ put_new j low moving))
      | moves_by k low2 from2 moving2 to2 ↦
          let tos : (move_at ms j).to ≡ (move_at ms k).to = sym to ∙ same ∙ to2 in
          elim (cases_order j k) [
            | inl one ↦ sym from ∙ ap (λ x. (move_at ms x).from) one ∙ from2
            | inr (inl less) ↦ absurd (all_put.apart j k less low2 moving moving2 tos)
            | inr (inr more) ↦ absurd (all_put.apart k j more low moving2 moving (sym tos))
          ]
    ]
  ]

  pub keeps_objects : (a : Addr) → kept h n ms a ≡ true → has_object h a ≡ true
  keeps_objects a e = elim (kept_cases a e) [
    | inl older ↦ older_object a older
    | inr (k, by) ↦ ap (has_object h) (sym by.from) ∙ (is_condemned_at k by.within).object
  ]

  pub keeping : IsKeeping (object_at h) n (kept h n ms) (forwarding ms)
  keeping = record {
    objects = keeps_objects;
    older = older_kept;
    in_place = older_forwarding;
    apart = forwards_apart;
  }
