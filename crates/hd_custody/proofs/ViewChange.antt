-- A step after which the seat's view has other slots held and another trace, and nothing else.
use Rattle.hd_custody.proofs.Basics.{Bool, Custodied, Entry, FIRST_MASK, Fits, Gate, Ghosts, HasNumber, Holds, IsPrefix, List, Numbers, Out, Seats, Slots, State, View, [], ap, arith, at_set, cases_eq, false, get_or, get_or-set_other, inl, inr, length-set, refl, room_of, set, set_else, subst, suc, sym, tally, zero, ℕ, ◌∙◌, ◌∷◌, ◌≡◌, ◌≢◌, ◌≤◌, ◌⊎◌}
use mathlib.Core.Option.{some, none, some-injective}
use lib.ListN.{get_elem?}
use Rattle.hd_custody.proofs.WordTotals.{total_set}
use mathlib.Core.Option as maybe

-- the view with these slots held, this trace, number of the trace, and whether it began with nothing, and
-- with the gate
abbrev pub reshaped : {W : Type 0} → List (ℕ × ℕ) → List (ℕ × ℕ × ℕ) → ℕ → Bool → Bool → View W → View W
reshaped h t n e b v = record v { held = h; trace = t; trace_number = n; began_empty = e; began_with_gate = b }

pub place_there : {A : Type 0} (xs : List A) (i : ℕ) (a b : A) → get_elem? xs i ≡ some a
    → get_elem? (set xs i b) i ≡ some b
place_there [] i a b e = absurd (mathlib.Core.Option.some-ne-none a (sym e))
place_there (x ∷ xs) zero a b e = refl
place_there (x ∷ xs) (suc i) a b e = place_there xs i a b e

module _ {W : Type 0} where
  -- what is so of the seat at its index
  pub fits_as : {made : ℕ} {owner : ℕ → ℕ} {journal : List Entry} {numbers : Numbers} {i j : ℕ} {w u : View W}
      → Fits made owner journal numbers i w → (j ≡ i) × (w ≡ u) → Fits made owner journal numbers j u
  fits_as {made} {owner} {journal} {numbers} {i} {j} {w} {u} f e =
      subst (λ z. Fits made owner journal numbers j z) e.1
      (subst (λ k. Fits made owner journal numbers k w) (sym e.0) f)

  -- each number stays where the seat that changed has its own
  pub kept_set : (views : List (View W)) (id : ℕ) (v w : View W) → get_elem? views id ≡ some v
      → ((n : ℕ) → HasNumber n v → HasNumber n w)
      → (n i : ℕ) (u : View W) → get_elem? views i ≡ some u → HasNumber n u
      → (j : ℕ) × (z : View W) × (get_elem? (set views id w) j ≡ some z) × HasNumber n z
  kept_set views id v w there has n i u at his = elim (cases_eq i id) [
    | inl here ↦ (
      id,
      w,
      place_there views id v w there,
      has n (subst (HasNumber n)
          (some-injective u v (sym at ∙ ap (get_elem? views) here ∙ there)) his),
    )
    | inr far ↦ (i, u, set_else views id i w far ∙ at, his)
  ]

  -- and the world is out with the same seat
  pub out_set : (views : List (View W)) (id : ℕ) (v w : View W) → get_elem? views id ≡ some v
      → w.is_spent ≡ v.is_spent → w.has_gate ≡ v.has_gate → (world : W) (holder : ℕ)
      (homes : List (maybe.Option (Rattle.std.specs.Prelude.Option W)))
      → Out world holder homes views → Out world holder homes (set views id w)
  out_set views id v w there lives gate world holder homes o = elim (cases_eq holder id) [
    | inl here ↦ (
        let same : o.view ≡ v = some-injective o.view v (sym o.there ∙ ap (get_elem? views) here ∙ there) in
        record {
          view = w;
          gone = o.gone;
          there = ap (get_elem? (set views id w)) here ∙ place_there views id v w there;
          lives = lives ∙ ap (λ (z : View W). z.is_spent) (sym same) ∙ o.lives;
          has = gate ∙ ap (λ (z : View W). z.has_gate) (sym same) ∙ o.has;
        })
    | inr far ↦ record {
      view = o.view;
      gone = o.gone;
      there = set_else views id holder w far ∙ o.there;
      lives = o.lives;
      has = o.has;
    }
  ]

module _ {W : Type 0} (views : List (View W)) (id : ℕ) (v : View W) (there : get_elem? views id ≡ some v)
    (h : List (ℕ × ℕ)) (t : List (ℕ × ℕ × ℕ)) (n : ℕ) (e b : Bool) (g : Bool) (z : ℕ)
    (took : Rattle.std.specs.Prelude.Option W) (cs : List (ℕ × ℕ)) (sees : List Entry) where
  abbrev w : View W
  w = record v {
    held = h;
    trace = t;
    trace_number = n;
    began_empty = e;
    began_with_gate = b;
    has_gate = g;
    gate_steps = z;
    taken = took;
    changes = cs;
    seen = sees;
  }

  abbrev views' : List (View W)
  views' = set views id w

  fits_at : (made : ℕ) (owner : ℕ → ℕ) (journal : List Entry) (spare : ℕ) (numbers : Numbers)
      → Seats made owner journal spare numbers views → (v.is_spent ≡ false → IsPrefix sees journal)
      → (i : ℕ) (u : View W) → u.is_spent ≡ false → ((i ≡ id) × (w ≡ u))
      ⊎ ((i ≢ id) × (get_elem? views i ≡ some u)) → Fits made owner journal numbers i u
  fits_at made owner journal spare numbers s has i u alive (inl here) =
      let lives : v.is_spent ≡ false = ap (λ (z : View W). z.is_spent) here.1 ∙ alive in
      let f = s.each id v there lives in
      let mine : Fits made owner journal numbers id w = record {
        low = f.low;
        owned = f.owned;
        own_part = f.own_part;
        has_seen = has lives;
        knows = f.knows;
        alone = f.alone;
        ended_parts = f.ended_parts;
        sized = f.sized;
      } in
      fits_as mine here
  fits_at made owner journal spare numbers s has i u alive (inr other) = s.each i u other.1 alive

  pub seats_alike : (made : ℕ) (owner : ℕ → ℕ) (journal : List Entry) (spare : ℕ) (numbers : Numbers)
      → Seats made owner journal spare numbers views → (v.is_spent ≡ false → IsPrefix sees journal)
      → Seats made owner journal spare numbers views'
  seats_alike made owner journal spare numbers s has = record {
    each = λ i u at alive. fits_at made owner journal spare numbers s has i u alive (at_set views id i w u at);
    begun = s.begun;
    unmade = s.unmade;
    counted = (let c = total_set tally views id v w there in let d = s.counted in omega arith);
    kept = λ k lt. (let a = s.kept k lt in kept_set views id v w there (λ n h. h) k a.0 a.1 a.2 a.3);
    roomy = (let c = total_set room_of views id v w there in let d = s.roomy in omega arith);
  }

module _ {W : Type 0} (views : List (View W)) (id : ℕ) (v : View W) (there : get_elem? views id ≡ some v)
    (h : List (ℕ × ℕ)) (t : List (ℕ × ℕ × ℕ)) (n : ℕ) (e b : Bool) where
  abbrev x : View W
  x = reshaped h t n e b v

  abbrev views'' : List (View W)
  views'' = set views id x

  module _ (world : W) (holder : ℕ) (changes : List (ℕ × ℕ)) (words : List ℕ)
      (homes : List (maybe.Option (Rattle.std.specs.Prelude.Option W)))
      (g : Gate world holder changes words homes views) (i k : ℕ) (apart : i ≢ 0) where
    word_is : get_or (set words i k) 0 0 ≡ get_or words 0 0
    word_is = get_or-set_other words i 0 k 0 (λ z. apart (sym z))

    holds_at : (j : ℕ) (u : View W) → u.is_spent ≡ false → ((j ≡ id) × (x ≡ u))
        ⊎ ((j ≢ id) × (get_elem? views j ≡ some u))
        → Holds (get_or (set words i k) 0 0) holder world changes j u
    holds_at j u alive (inl here) has =
        let lives : v.is_spent ≡ false = ap (λ (z : View W). z.is_spent) here.1 ∙ alive in
        let h = g.holding id v there lives (ap (λ (z : View W). z.has_gate) here.1 ∙ has) in (
          word_is ∙ h.0,
          h.1 ∙ sym here.0,
          ap (λ (z : View W). z.taken) (sym here.1) ∙ h.2,
          ap (λ (z : View W). z.changes) (sym here.1) ∙ h.3,
        )
    holds_at j u alive (inr other) has = let h = g.holding j u other.1 alive has in (
      word_is ∙ h.0,
      h.1,
      h.2,
      h.3,
    )

    pub gate_alike : Gate world holder changes (set words i k) homes views''
    gate_alike = record {
      free_or_held = elim g.free_or_held [
        | inl free ↦ inl (word_is ∙ free.0, free.1, free.2)
        | inr taken ↦ inr (word_is ∙ taken.0, out_set views id v x there refl refl world holder homes taken.1)
      ];
      holding = λ j u at alive. holds_at j u alive (at_set views id j x u at);
    }

module _ {W : Type 0} {m : Ghosts W} {numbers : Numbers}
    {s : State (Rattle.std.specs.Prelude.Option W) (View W)} (c : Custodied m numbers s)
    (id : ℕ) (v : View W) (there : get_elem? s.views id ≡ some v)
    (h : List (ℕ × ℕ)) (t : List (ℕ × ℕ × ℕ)) (k : ℕ) (e gated : Bool) where
  -- a step on a mask or cell keeps the rule where it keeps what the rule says of slots
  pub kept : (i n : ℕ) → FIRST_MASK ≤ i → Slots (m.live c.world) (set s.words i n)
      (set s.views id (reshaped h t k e gated v))
      → Custodied m numbers (record {
        words = set s.words i n;
        homes = s.homes;
        views = set s.views id (reshaped h t k e gated v);
      })
  kept i n low slots = record {
    world = c.world;
    holder = c.holder;
    changes = c.changes;
    made = c.made;
    owner = c.owner;
    wide = length-set s.words i n ∙ c.wide;
    sized = c.sized;
    gate = gate_alike s.views id v there h t k e gated c.world c.holder c.changes s.words s.homes c.gate i n
        (λ z. omega arith);
    seats = seats_alike s.views id v there h t k e gated v.has_gate v.gate_steps v.taken v.changes v.seen
        c.made c.owner _ _ numbers c.seats (λ lives. (c.seats.each id v there lives).has_seen);
    kinds = λ b real lt. get_or-set_other s.words i b n 0 (λ z. omega arith) ∙ c.kinds b real lt;
    slots = slots;
    sound = c.sound;
  }
