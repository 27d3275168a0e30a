-- The objects of a condemned region are laid one after another.
use Rattle.hd_plan.proofs.Basics.{Addr, AllocCursors, IsFirstObject, IsMoveOf, ObjectHeader, Bool, HasMoveRoom, HasStay, Heap, IsCondemnedRegion, IsLaying, IsSound, List, Move, REGION, [], ap, arith, cases_lt, cell_at, cond, cursor_of, false, get_or-set_other, get_or-set_same, inl, inr, is_staying, length, length-set, move_at, nat_eq, or_cases, or_left, or_right, refl, set, spot_in, subst, sym, true, true≢false, ℕ, ⊎_elim, ◌*◌, ◌++◌, ◌+◌, ◌<◌, ◌||◌, ◌∙◌, ◌∷◌, ◌≡◌, ◌≢◌, ◌⊎◌, ◌↔◌}
use Rattle.hd_model.specs.Heap.{region_of}
use Rattle.hd_heap.specs.Walks.{end_in}
use Rattle.hd_heap.proofs.NextObjects.{IsNextFrom, end_later, next_from, none_inside}
use Rattle.hd_plan.specs.{declared.cursors.AllocCursor.AllocCursor, Inside.AreLaidIn, Inside.with_cursor_at}
use Rattle.hd_plan.proofs.{CondemnedAddresses.condemned_of, LayStep.laying_next, LayStep.laying_past, LayStep.no_move, LayStep.push_before, LayStep.push_each, LayStep.push_found, LayStep.push_last, LayStep.push_length, MoveWeights.moves_fit}

-- the cursors with one of a generation: it is read, replaced by another one, and may be its own
abbrev set_in : Bool → AllocCursors → AllocCursor → ℕ → AllocCursors
set_in b s c o = record { first = cond b c s.first; second = cond b s.second c; opened = o }

module _ (s : AllocCursors) (g : ℕ) where
  pub cursor_again : (c : AllocCursor) (o : ℕ) → cursor_of (with_cursor_at s g c o) g ≡ c
  cursor_again c o = by (nat_eq g 1)
    where
      by : (b : Bool) → cond b (set_in b s c o).first (set_in b s c o).second ≡ c
      by true = refl
      by false = refl

  pub with_again : (c d : AllocCursor) (o p : ℕ)
      → with_cursor_at (with_cursor_at s g c o) g d p ≡ with_cursor_at s g d p
  with_again c d o p = by (nat_eq g 1)
    where
      by : (b : Bool) → set_in b (set_in b s c o) d p ≡ set_in b s d p
      by true = refl
      by false = refl

  pub same_cursor : with_cursor_at s g (cursor_of s g) s.opened ≡ s
  same_cursor = by (nat_eq g 1)
    where
      by : (b : Bool) → set_in b s (cond b s.first s.second) s.opened ≡ s
      by true = refl
      by false = refl

-- an object of a region stays, where there is one move more
pub stay_pushed : (ms : List Move) (m : Move) (r : ℕ)
    → HasStay (ms ++ m ∷ []) r ↔ (HasStay ms r ⊎ ((is_staying m.fate ≡ true) × (region_of m.from ≡ r)))
stay_pushed ms m r = (
  λ is. elim (cases_lt is.at (length ms)) [
    | inl low ↦
        let e = push_before no_move ms m is.at low in
        inl (record {
          at = is.at;
          within = low;
          stays = ap (λ (x : Move). is_staying x.fate) (sym e) ∙ is.stays;
          region = ap (λ (x : Move). region_of x.from) (sym e) ∙ is.region;
        })
    | inr high ↦
        let e = push_last no_move ms m is.at (omega (arith, push_length no_move ms m, is.within, high)) in
        inr (
          ap (λ (x : Move). is_staying x.fate) (sym e) ∙ is.stays,
          ap (λ (x : Move). region_of x.from) (sym e) ∙ is.region,
        )
  ],
  λ is.
      let (k, at) = push_found no_move ms m (λ x. (is_staying x.fate ≡ true) × (region_of x.from ≡ r))
      (⊎_elim (λ was. inr (was.at, (was.within, (was.stays, was.region)))) (λ now. inl now) is) in
      record { at = k; within = at.0; stays = at.1.0; region = at.1.1 },
)

-- no object of a region is laid yet
pub laid_none : (ms : List Move) (r k : ℕ) (cells : List Addr)
    → ((j : ℕ) → j < length ms → (move_at ms j).from.0 < r * REGION) → AreLaidIn ms ms r k false cells cells
unfolding region_of
laid_none ms r k cells below = record {
  each = λ j low. inr (low, refl);
  stays = λ q. (λ is. inl is, λ e. ⊎_elim (λ is. is) (λ is. absurd (true≢false (sym is.0))) e);
  placed = λ j low here. absurd (omega (arith, below j low, here));
  same = λ i low. refl;
  long = refl;
}

-- two addresses of one region have different entries
spots_apart : (k : ℕ) (a b : Addr) → region_of a ≡ region_of b → a.0 < b.0 → spot_in k a ≢ spot_in k b
unfolding region_of
spots_apart k a b region less same = omega (arith, region, less, same)

-- one object more is laid
pub laid_more : {old ms : List Move} {r k : ℕ} {p : Bool} {before cells : List Addr} (m : Move)
    → AreLaidIn old ms r k p before cells → region_of m.from ≡ r
    → ((j : ℕ) → j < length ms → (move_at ms j).from.0 < m.from.0) → spot_in k m.from < length cells
    → AreLaidIn old (ms ++ m ∷ []) r k (p || is_staying m.fate) before (set cells (spot_in k m.from) m.to)
laid_more {old} {ms} {r} {k} {p} {before} {cells} m is here below low = record {
  each = push_each no_move ms m (λ j x. (region_of x.from ≡ r) ⊎ ((j < length old) × (x ≡ move_at old j)))
      is.each (inl here);
  stays = λ q.
      let step = stay_pushed ms m q in
      let was = is.stays q in (
        λ e. ⊎_elim
            (λ before. ⊎_elim (λ o. inl o) (λ x. inr (or_left p _ x.0, x.1)) (was.0 before))
            (λ now. inr (or_right p _ now.0, sym here ∙ now.1)) (step.0 e),
        λ e. ⊎_elim (λ o. step.1 (inl (was.1 (inl o))))
            (λ x. ⊎_elim (λ on. step.1 (inl (was.1 (inr (on, x.1)))))
            (λ on. step.1 (inr (on, here ∙ x.1))) (or_cases p _ x.0)) e,
      );
  placed = push_each no_move ms m
      (λ j x. region_of x.from ≡ r → cell_at (set cells (spot_in k m.from) m.to) (spot_in k x.from) ≡ x.to)
      (λ j inside there.
      get_or-set_other cells (spot_in k m.from) (spot_in k (move_at ms j).from) m.to _
      (spots_apart k (move_at ms j).from m.from (there ∙ sym here) (below j inside))
      ∙ is.placed j inside there)
      (λ there. get_or-set_same cells (spot_in k m.from) m.to _ low);
  same = λ i under. get_or-set_other cells (spot_in k m.from) i m.to _ (λ e. omega (arith, under, e))
      ∙ is.same i under;
  long = length-set cells (spot_in k m.from) m.to ∙ is.long;
}

-- there is room for one move more
pub move_fits : {h : Heap} {n bound room : ℕ} {promoted pinned : Addr → Bool} {cursors : AllocCursors}
    (ms : List Move) (m : Move) → IsLaying h n promoted pinned (ms ++ m ∷ []) cursors bound
    → HasMoveRoom h n room → length ms < room
move_fits {h} {n} ms m laying room =
    let fit =
    moves_fit (ms ++ m ∷ []) laying.to.rising h n
    (λ k low. condemned_of h n (move_at (ms ++ m ∷ []) k).from (laying.to.condemned k low).0) room.count
    room.count_is in
    omega (arith, fit, push_length no_move ms m, room.enough)

-- one object more of a region is laid
module _ {h : Heap} {n : ℕ} (sound : IsSound h) {promoted pinned : Addr → Bool} {r end : ℕ}
    (region : IsCondemnedRegion h n r) {ms : List Move} {s new : AllocCursors}
    (laying : IsLaying h n promoted pinned ms s (r * REGION + end)) {o : ObjectHeader}
    (first : IsFirstObject h r end o) {m : Move} (from : m.from ≡ o.at)
    (is : IsMoveOf h n (promoted m.from) (pinned m.from) s new m) where
  number : m.from.0 ≡ o.at.0
  number = ap (λ (a : Addr). a.0) from

  pub laying_upto : IsLaying h n promoted pinned (ms ++ m ∷ []) new (m.from.0 + 1)
  laying_upto = laying_next sound laying new m (subst (IsNextFrom h n (r * REGION + end)) (sym from)
      (next_from h n sound region.young first)) is

  pub laying_on : (end2 : ℕ) → end2 ≡ end_in r o
      → IsLaying h n promoted pinned (ms ++ m ∷ []) new (r * REGION + end2)
  laying_on end2 e = laying_past sound laying_upto _
      (omega (arith, (end_later h n sound region.young first).1, e, number))
      (λ a of later. let up = none_inside h n sound region.young first a of (omega (arith, later, number)) in
      omega (arith, up, e))

  pub these_on : {old : List Move} {k : ℕ} {p : Bool} {before cells : List Addr}
      → AreLaidIn old ms r k p before cells → spot_in k m.from < length cells
      → AreLaidIn old (ms ++ m ∷ []) r k (p || is_staying m.fate) before (set cells (spot_in k m.from) m.to)
  these_on these low = laid_more m these (ap region_of from ∙ first.region)
      (λ j l. omega (arith, (laying.to.condemned j l).1, first.beyond, number)) low
