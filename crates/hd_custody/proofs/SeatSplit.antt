-- Seats that come: the views that a split changes, and what is alike for a join.
use Rattle.hd_custody.proofs.Basics.{Bool, Custodied, Fits, Gate, Ghosts, HasNumber, List, Numbers, Option, Out, Slots, State, View, [], ap, arith, at_longer, at_set, cases_eq, cond, eq-eqb, false, given, held_by, inl, inr, length, length-set, ne_eqb, refl, room_of, set, set_else, shared_out, subst, suc, sym, tally, total, zero, ℕ, ◌++◌, ◌+◌, ◌-◌, ◌<◌, ◌==◌, ◌∙◌, ◌∷◌, ◌≡◌, ◌≢◌, ◌≤◌, ◌⊎◌}
use mathlib.Core.Option.{some, none, some-injective, some-ne-none}
use lib.ListN.{get_elem?}
use Rattle.hd_custody.proofs.{WordTotals.total_set, WordTotals.total_snoc, HeldSlots.true_false}
use Rattle.hd_custody.proofs.{ViewChange.fits_as, ViewChange.kept_set, ViewChange.out_set, JournalPrefixes.empty_prefix}
use mathlib.Core.Option as maybe

pub at_end : {A : Type 0} (l : List A) (a b : A) (j : ℕ) → get_elem? (l ++ a ∷ []) j ≡ some b
    → ((j < length l) × (get_elem? l j ≡ some b)) ⊎ ((j ≡ length l) × (a ≡ b))
at_end [] a b zero e = inr (refl, some-injective a b e)
at_end [] a b (suc j) e = absurd (some-ne-none b (sym e))
at_end (x ∷ xs) a b zero e = inl (omega arith, e)
at_end (x ∷ xs) a b (suc j) e = elim (at_end xs a b j e) [
  | inl h ↦ inl (omega (arith, h.0), h.1)
  | inr h ↦ inr (ap suc h.0, h.1)
]

pub at_last : {A : Type 0} (l : List A) (a : A) (n : ℕ) → n ≡ length l → get_elem? (l ++ a ∷ []) n ≡ some a
at_last l a n e = Rattle.atomic_table.proofs.Lists.at_last l a n (sym e)

-- ---- views that change in what neither the gate nor slots depend on

module _ {W : Type 0} (views views' : List (View W)) where
  -- the seat is as it was in this, or new
  abbrev pub Relates : ℕ → View W → Type 0
  Relates j u =
      ((z : View W) × (get_elem? views j ≡ some z) × (z.is_spent ≡ false) × (u.has_gate ≡ z.has_gate)
      × (u.taken ≡ z.taken) × (u.changes ≡ z.changes) × (u.held ≡ z.held))
      ⊎ ((u.has_gate ≡ false) × (u.held ≡ []))

  abbrev pub Related : Type 0
  Related = (j : ℕ) (u : View W) → get_elem? views' j ≡ some u → u.is_spent ≡ false → Relates j u

  module _ (related : Related) where
    pub gate_related : (world : W) (holder : ℕ) (changes : List (ℕ × ℕ)) (words : List ℕ)
        (homes : List (maybe.Option (Option W))) → Gate world holder changes words homes views
        → (Out world holder homes views → Out world holder homes views')
        → Gate world holder changes words homes views'
    gate_related world holder changes words homes g out = record {
      free_or_held = elim g.free_or_held [
        | inl free ↦ inl free
        | inr taken ↦ inr (taken.0, out taken.1)
      ];
      holding = λ j u at alive has. elim (related j u at alive) [
        | inl was ↦ (
            let h = g.holding j was.0 was.1 was.2 (sym was.3 ∙ has) in
            (h.0, h.1, was.4 ∙ h.2, was.5 ∙ h.3)
            )
        | inr new ↦ absurd (true_false u.has_gate has new.0)
      ];
    }

    pub slots_related : (live : ℕ → Bool) (words : List ℕ) → Slots live words views
        → ((x : ℕ) → total (held_by x) views' ≡ total (held_by x) views) → Slots live words views'
    slots_related live words s same = record {
      in_one_place = λ x real. (let one = s.in_one_place x real in let e = same x in omega arith);
      cells = s.cells;
      held = λ j u at alive n p e. elim (related j u at alive) [
        | inl was ↦ s.held j was.0 was.1 was.2 n p (ap (λ h. get_elem? h n) (sym was.6) ∙ e)
        | inr new ↦ absurd (some-ne-none p (sym (ap (λ h. get_elem? h n) (sym new.1) ∙ e)))
      ];
      masks = s.masks;
      empty_masks = s.empty_masks;
    }

-- ---- a split

module _ {W : Type 0} (m : Ghosts W) (numbers : Numbers) (id share : ℕ) (v : View W)
    (lives : v.is_spent ≡ false) (first : v.number ≡ 0) (enough : share ≤ v.room)
    (s : State (Option W) (View W)) (c : Custodied m numbers s) (there : get_elem? s.views id ≡ some v) where
  abbrev left : View W
  left = shared_out share v

  abbrev new : View W
  new = given share v

  abbrev cut : List (View W)
  cut = set s.views id left

  abbrev more : List (View W)
  more = cut ++ new ∷ []

  abbrev owner' : ℕ → ℕ
  owner' n = cond (n == c.made) (suc (length s.views)) (c.owner n)

  own : Fits c.made c.owner (m.journal c.world) numbers id v
  own = c.seats.each id v there lives

  made_is : v.made ≡ c.made
  made_is = own.knows first

  some_made : 0 < c.made
  some_made = let low = own.low in omega arith

  old_owner : (n : ℕ) → n < c.made → owner' n ≡ c.owner n
  old_owner n lt = ap (λ b. cond b (suc (length s.views)) (c.owner n)) (ne_eqb n c.made (λ e. omega arith))

  abbrev Case : ℕ → View W → Type 0
  Case j u = ((j ≡ id) × (left ≡ u)) ⊎ (((j ≢ id) × (get_elem? s.views j ≡ some u))
      ⊎ ((j ≡ length s.views) × (new ≡ u)))

  case_of : (j : ℕ) (u : View W) → get_elem? more j ≡ some u → Case j u
  case_of j u at = elim (at_end cut new u j at) [
    | inl h ↦ elim (at_set s.views id j left u h.1) [
      | inl a ↦ inl a
      | inr b ↦ inr (inl b)
    ]
    | inr h ↦ inr (inr (h.0 ∙ length-set s.views id left, h.1))
  ]

  fits_at : (j : ℕ) (u : View W) → u.is_spent ≡ false → Case j u
      → Fits (c.made + 1) owner' (m.journal c.world) numbers j u
  fits_at j u alive (inl here) =
      let mine : Fits (c.made + 1) owner' (m.journal c.world) numbers id left = record {
        low = (let low = own.low in omega arith);
        owned = old_owner v.number own.low ∙ own.owned;
        own_part = own.own_part;
        has_seen = own.has_seen;
        knows = λ _. ap (λ n. n + 1) made_is;
        alone = own.alone;
        ended_parts = λ k e at. (let h = own.ended_parts k e at in (
          omega (arith, h.0),
          old_owner e.0 h.0 ∙ h.1,
          h.2,
          h.3,
        ));
        sized = own.sized;
      } in
      fits_as mine here
  fits_at j u alive (inr (inl other)) =
      let h = c.seats.each j u other.1 alive in record {
        low = (let low = h.low in omega arith);
        owned = old_owner u.number h.low ∙ h.owned;
        own_part = h.own_part;
        has_seen = h.has_seen;
        knows = λ z. absurd (other.0 (let a = ap c.owner (z ∙ sym first) in let b = h.owned in let d =
            own.owned in omega arith));
        alone = h.alone;
        ended_parts = λ k e at. (let g = h.ended_parts k e at in (
          omega (arith, g.0),
          old_owner e.0 g.0 ∙ g.1,
          g.2,
          g.3,
        ));
        sized = h.sized;
      }
  fits_at j u alive (inr (inr last)) =
      let mine : Fits (c.made + 1) owner' (m.journal c.world) numbers (length s.views) new = record {
        low = omega (arith, made_is);
        owned = ap (λ b. cond b (suc (length s.views)) (c.owner v.made)) (eq-eqb v.made c.made made_is);
        own_part = sym (c.seats.unmade v.made (omega (arith, made_is)));
        has_seen = empty_prefix [] (m.journal c.world) refl;
        knows = λ z. absurd (let some_now = some_made in omega (arith, made_is));
        alone = λ _. refl;
        ended_parts = λ k e at. absurd (some-ne-none e (sym at));
        sized = own.sized;
      } in
      fits_as mine last

  kept_all : (n : ℕ) → n < c.made + 1 → (n ≡ c.made) ⊎ (n ≢ c.made) → (j : ℕ) × (z : View W)
      × (get_elem? more j ≡ some z) × HasNumber n z
  kept_all n lt (inl same) = (
    length s.views,
    new,
    at_last cut new (length s.views) (sym (length-set s.views id left)),
    (refl, inl (made_is ∙ sym same)),
  )
  kept_all n lt (inr other) =
      let a = c.seats.kept n (omega arith) in
      let b = kept_set s.views id v left there (λ n h. h) n a.0 a.1 a.2 a.3 in
      (b.0, b.1, at_longer cut (new ∷ []) b.0 b.1 b.2, b.3)

  related : Related s.views more
  related j u at alive = at_case (case_of j u at)
    where
      at_case : Case j u → Relates s.views more j u
      at_case (inl here) = subst (Relates s.views more j) here.1
          (inl (v, ap (get_elem? s.views) here.0 ∙ there, lives, refl, refl, refl, refl))
      at_case (inr (inl other)) = inl (u, other.1, alive, refl, refl, refl, refl)
      at_case (inr (inr last)) = subst (Relates s.views more j) last.1 (inr (refl, refl))

  out_at : Out c.world c.holder s.homes s.views → Out c.world c.holder s.homes more
  out_at o =
      let b = out_set s.views id v left there refl refl c.world c.holder s.homes o in record {
        view = b.view;
        gone = b.gone;
        there = at_longer cut (new ∷ []) c.holder b.view b.there;
        lives = b.lives;
        has = b.has;
      }

  pub splits : Custodied m numbers (record { words = s.words; homes = s.homes; views = more })
  splits = record {
    world = c.world;
    holder = c.holder;
    changes = c.changes;
    made = c.made + 1;
    owner = owner';
    wide = c.wide;
    sized = c.sized;
    gate = gate_related s.views more related c.world c.holder c.changes s.words s.homes c.gate out_at;
    seats = record {
      each = λ j u at alive. fits_at j u alive (case_of j u at);
      begun = omega arith;
      unmade = λ n le. c.seats.unmade n (omega arith);
      counted = (
          let a = total_snoc tally cut new in
          let b = total_set tally s.views id v left there in
          let d = c.seats.counted in
          omega arith);
      kept = λ n lt. kept_all n lt (cases_eq n c.made);
      roomy = (
          let a = total_snoc room_of cut new in
          let b = total_set room_of s.views id v left there in
          let is : room_of v ≡ v.room = ap (λ t. cond t 0 v.room) lives in
          let now : room_of left ≡ v.room - share = ap (λ t. cond t 0 (v.room - share)) lives in
          let d = c.seats.roomy in
          omega arith);
    };
    kinds = c.kinds;
    slots = slots_related s.views more related (m.live c.world) s.words c.slots (λ x.
        let a = total_snoc (held_by x) cut new in
        let b = total_set (held_by x) s.views id v left there in
        let e : held_by x left ≡ held_by x v = refl in
        omega arith);
    sound = c.sound;
  }
