-- Seats that go: a join.
use Rattle.hd_custody.proofs.Basics.{Bool, Custodied, Ended, Fits, Ghosts, HasNumber, IsPrefix, List, Numbers, Option, Out, State, View, [], ap, arith, at_longer, at_set, cases_eq, cond, eq-eqb, false, held_by, held_times, inl, inr, joined, length, length-append, ne_eqb, part_of, refl, room_of, set, set_else, spent, subst, sym, tally, true, ℕ, ◌++◌, ◌+◌, ◌<◌, ◌==◌, ◌∙◌, ◌∷◌, ◌≡◌, ◌≢◌, ◌⊎◌}
use mathlib.Core.Option.{some, some-injective, some-ne-none}
use lib.ListN.{get_elem?}
use Rattle.hd_custody.proofs.{WordTotals.total_set, HeldSlots.true_false, SlotSteps.held_alive}
use Rattle.hd_custody.proofs.ViewChange.{place_there, fits_as, out_set}
use Rattle.hd_custody.proofs.SeatSplit.{at_end, at_last, Relates, Related, gate_related, slots_related}

module _ {W : Type 0} (m : Ghosts W) (numbers : Numbers) (id other : ℕ) (v w : View W)
    (lives : v.is_spent ≡ false) (first : v.number ≡ 0)
    (lives' : w.is_spent ≡ false) (gateless : w.has_gate ≡ false) (empty : w.held ≡ [])
    (s : State (Option W) (View W)) (c : Custodied m numbers s) (there : get_elem? s.views id ≡ some v)
    (apart : ¬ (other ≡ id))
    (there' : get_elem? (set s.views id (joined v w)) other ≡ some w) where
  abbrev both : View W
  both = joined v w

  abbrev halfway : List (View W)
  halfway = set s.views id both

  abbrev fewer : List (View W)
  fewer = set halfway other spent

  old_there : get_elem? s.views other ≡ some w
  old_there = sym (set_else s.views id other both apart) ∙ there'

  own : Fits c.made c.owner (m.journal c.world) numbers id v
  own = c.seats.each id v there lives

  his : Fits c.made c.owner (m.journal c.world) numbers other w
  his = c.seats.each other w old_there lives'

  not_first : w.number ≢ 0
  not_first z = apart (let a = ap c.owner (z ∙ sym first) in let b = his.owned in let d =
      own.owned in omega arith)

  abbrev owner' : ℕ → ℕ
  owner' n = cond (n == w.number) 0 (c.owner n)

  stays : (n : ℕ) → n ≢ w.number → owner' n ≡ c.owner n
  stays n ne = ap (λ b. cond b 0 (c.owner n)) (ne_eqb n w.number ne)

  goes : (b : Bool) (n : ℕ) → c.owner n ≡ 0 → cond b 0 (c.owner n) ≡ 0
  goes true n z = refl
  goes false n z = z

  abbrev Case : ℕ → View W → Type 0
  Case j u = ((j ≡ other) × (spent ≡ u)) ⊎ (((j ≡ id) × (both ≡ u))
      ⊎ ((j ≢ other) × (j ≢ id) × (get_elem? s.views j ≡ some u)))

  case_of : (j : ℕ) (u : View W) → get_elem? fewer j ≡ some u → Case j u
  case_of j u at = elim (at_set halfway other j spent u at) [
    | inl a ↦ inl a
    | inr h ↦ elim (at_set s.views id j both u h.1) [
      | inl b ↦ inr (inl b)
      | inr d ↦ inr (inr (h.0, d.0, d.1))
    ]
  ]

  spent_dead : (u : View W) → spent ≡ u → u.is_spent ≡ false → ⊥
  spent_dead u e alive = true_false u.is_spent (ap (λ (z : View W). z.is_spent) (sym e)) alive

  ended_at : (k : ℕ) (e : Ended) → get_elem? (v.ended ++ (w.number, w.part, w.seen) ∷ []) k ≡ some e
      → (e.0 < c.made) × (owner' e.0 ≡ 0) × (e.1 ≡ part_of (m.journal c.world) e.0)
      × IsPrefix e.2 (m.journal c.world)
  ended_at k e at = elim (at_end v.ended (w.number, w.part, w.seen) e k at) [
    | inl h ↦ (let g = own.ended_parts k e h.1 in (g.0, goes (e.0 == w.number) e.0 g.1, g.2, g.3))
    | inr h ↦ subst (λ (z : Ended). (z.0 < c.made) × (owner' z.0 ≡ 0)
        × (z.1 ≡ part_of (m.journal c.world) z.0) × IsPrefix z.2 (m.journal c.world)) h.1 (
          his.low,
          ap (λ b. cond b 0 (c.owner w.number)) (eq-eqb w.number w.number refl),
          his.own_part,
          his.has_seen,
        )
  ]

  fits_at : (j : ℕ) (u : View W) → u.is_spent ≡ false → Case j u
      → Fits c.made owner' (m.journal c.world) numbers j u
  fits_at j u alive (inl gone) = absurd (spent_dead u gone.1 alive)
  fits_at j u alive (inr (inl here)) =
      let mine : Fits c.made owner' (m.journal c.world) numbers id both = record {
        low = own.low;
        owned = stays v.number (λ e. not_first (sym e ∙ first)) ∙ own.owned;
        own_part = own.own_part;
        has_seen = own.has_seen;
        knows = own.knows;
        alone = λ ne. absurd (ne first);
        ended_parts = ended_at;
        sized = own.sized;
      } in
      fits_as mine here
  fits_at j u alive (inr (inr rest)) =
      let h = c.seats.each j u rest.2 alive in record {
        low = h.low;
        owned = stays u.number (λ e. rest.0 (let a = ap c.owner e in let b = h.owned in let d =
            his.owned in omega arith)) ∙ h.owned;
        own_part = h.own_part;
        has_seen = h.has_seen;
        knows = h.knows;
        alone = h.alone;
        ended_parts = λ k e at. (let g = h.ended_parts k e at in (
          g.0,
          goes (e.0 == w.number) e.0 g.1,
          g.2,
          g.3,
        ));
        sized = h.sized;
      }

  there_both : get_elem? fewer id ≡ some both
  there_both = set_else halfway other id spent (λ e. apart (sym e)) ∙ place_there s.views id v both there

  kept_at : (n i : ℕ) (u : View W) → get_elem? s.views i ≡ some u → HasNumber n u → (i ≡ other) ⊎ (i ≢ other)
      → (i ≡ id) ⊎ (i ≢ id) → (j : ℕ) × (z : View W) × (get_elem? fewer j ≡ some z) × HasNumber n z
  kept_at n i u at has (inl gone) _ =
      let same : u ≡ w = some-injective u w (sym at ∙ ap (get_elem? s.views) gone ∙ old_there) in
      let mine : HasNumber n w = subst (λ z. HasNumber n z) same has in
      elim mine.1 [
        | inl is ↦ (
          id,
          both,
          there_both,
          (
            lives,
            inr (
              length v.ended,
              (w.number, w.part, w.seen),
              at_last v.ended (w.number, w.part, w.seen) (length v.ended) refl,
              is,
            ),
          ),
        )
        | inr e ↦ absurd (some-ne-none e.1 (sym (ap (λ es. get_elem? es e.0) (sym (his.alone not_first))
            ∙ e.2)))
      ]
  kept_at n i u at has (inr stay) (inl here) =
      let same : u ≡ v = some-injective u v (sym at ∙ ap (get_elem? s.views) here ∙ there) in
      let mine : HasNumber n v = subst (λ z. HasNumber n z) same has in (
        id,
        both,
        there_both,
        elim mine.1 [
          | inl is ↦ (lives, inl is)
          | inr e ↦ (lives, inr (e.0, e.1, at_longer v.ended ((w.number, w.part, w.seen) ∷ []) e.0 e.1 e.2, e.3))
        ],
      )
  kept_at n i u at has (inr stay) (inr far) = (
    i,
    u,
    set_else halfway other i spent stay ∙ set_else s.views id i both far ∙ at,
    has,
  )

  related : Related s.views fewer
  related j u at alive = at_case (case_of j u at)
    where
      at_case : Case j u → Relates s.views fewer j u
      at_case (inl gone) = absurd (spent_dead u gone.1 alive)
      at_case (inr (inl here)) = subst (Relates s.views fewer j) here.1
          (inl (v, ap (get_elem? s.views) here.0 ∙ there, lives, refl, refl, refl, refl))
      at_case (inr (inr rest)) = inl (u, rest.2, alive, refl, refl, refl, refl)

  out_at : (o : Out c.world c.holder s.homes s.views) → (c.holder ≡ other) ⊎ (c.holder ≢ other)
      → Out c.world c.holder s.homes fewer
  out_at o (inl gone) =
      let same : o.view ≡ w = some-injective o.view w (sym o.there ∙ ap (get_elem? s.views) gone ∙ old_there)
      in
      absurd (true_false w.has_gate (ap (λ (z : View W). z.has_gate) (sym same) ∙ o.has) gateless)
  out_at o (inr stay) =
      let b = out_set s.views id v both there refl refl c.world c.holder s.homes o in record {
        view = b.view;
        gone = b.gone;
        there = set_else halfway other c.holder spent stay ∙ b.there;
        lives = b.lives;
        has = b.has;
      }

  pub joins : Custodied m numbers (record { words = s.words; homes = s.homes; views = fewer })
  joins = record {
    world = c.world;
    holder = c.holder;
    changes = c.changes;
    made = c.made;
    owner = owner';
    wide = c.wide;
    sized = c.sized;
    gate = gate_related s.views fewer related c.world c.holder c.changes s.words s.homes c.gate
        (λ o. out_at o (cases_eq c.holder other));
    seats = record {
      each = λ j u at alive. fits_at j u alive (case_of j u at);
      begun = c.seats.begun;
      unmade = c.seats.unmade;
      counted = (
          let a = total_set tally halfway other w spent there' in
          let b = total_set tally s.views id v both there in
          let l = length-append v.ended ((w.number, w.part, w.seen) ∷ []) in
          let tw : tally w ≡ 1 = ap (λ t. cond t 0 (length w.ended + 1)) lives'
          ∙ ap (λ es. length es + 1) (his.alone not_first) in
          let tv : tally v ≡ length v.ended + 1 = ap (λ t. cond t 0 (length v.ended + 1)) lives in
          let tb : tally both ≡ length (v.ended ++ (w.number, w.part, w.seen) ∷ []) + 1 =
          ap (λ t. cond t 0 (length (v.ended ++ (w.number, w.part, w.seen) ∷ []) + 1)) lives in
          let d = c.seats.counted in
          omega arith);
      kept = λ n lt. (let a = c.seats.kept n lt in kept_at n a.0 a.1 a.2 a.3 (cases_eq a.0 other)
          (cases_eq a.0 id));
      roomy = (
          let a = total_set room_of halfway other w spent there' in
          let b = total_set room_of s.views id v both there in
          let rw : room_of w ≡ w.room = ap (λ t. cond t 0 w.room) lives' in
          let rv : room_of v ≡ v.room = ap (λ t. cond t 0 v.room) lives in
          let rb : room_of both ≡ v.room + w.room = ap (λ t. cond t 0 (v.room + w.room)) lives in
          let d = c.seats.roomy in
          omega arith);
    };
    kinds = c.kinds;
    slots = slots_related s.views fewer related (m.live c.world) s.words c.slots (λ x.
        let a = total_set (held_by x) halfway other w spent there' in
        let b = total_set (held_by x) s.views id v both there in
        let e : held_by x both ≡ held_by x v = refl in
        let none : held_by x w ≡ 0 = held_alive x w lives' ∙ ap (λ h. held_times x h) empty in
        omega arith);
    sound = c.sound;
  }
