-- Each step keeps the rule of the table.
use Rattle.std.proofs.Common.{◌≡◌, ◌≢◌, ℕ, zero, suc, ◌+◌, ◌<◌, true, false, List, [], ◌∷◌, ◌++◌, length, get_or, set, sym, refl, ap, ◌∙◌, subst, ⊎_elim, inl, inr, ◌⊎◌, arith, get_or-set_same, length-set, length-append, eqb, add-zero, ◌≤◌}
use mathlib.Core.Option.{none, some, some-injective, some-ne-none}
use mathlib.Core.Option as maybe
use prog.Atomic.{either}
use lib.ListN.{get_elem?}
use lib.Seq.{set-get_or}
use Rattle.atomic_table.specs.Table.{Act, Me, State, Valid, carried_after, step, stepped, keeps, takes, gives, Allows, Splits, opening}
use Rattle.atomic_table.proofs.Lists.{at_set, set_again, exchanged}
use Rattle.hd_turns.specs.declared.rule.View.{View}
use Rattle.std.proofs.lemmas.Bool.{cases_lt}
use Rattle.hd_turns.specs.declared.gate.TheConstants.{FULL}
use Rattle.hd_turns.specs.Views.{GoesOn, MayLeave, gave_back, missed, next_of, passed_on, starting, took}
use Rattle.hd_turns.specs.Rule.{IsFree, IsView, Kept, entered, left, looked_at}
use Rattle.hd_turns.proofs.Histories.{below_more, sees_all, sees_as, sees_less}

-- what is so of the element that was set and of all others is so of each
stay : {V : Type 0} (K : ℕ → V → Type 0) (vs : List V) (me : ℕ) (w : V) → K me w
    → ((j : ℕ) (d : V) → j ≢ me → get_elem? vs j ≡ some d → K j d)
    → (j : ℕ) (d : V) → get_elem? (set vs me w) j ≡ some d → K j d
stay {V} K vs me w mine others j d e = ⊎_elim
    (λ (t : (j ≡ me) × (w ≡ d)). subst (λ (x : ℕ × V). K x.0 x.1) (λ i. (sym t.0 i, t.1 i)) mine)
    (λ (t : (j ≢ me) × (get_elem? vs j ≡ some d)). others j d t.0 t.1) (at_set vs me j w d e)

-- who is there has a number below their count
in_length : {V : Type 0} (vs : List V) (i : ℕ) (v : V) → get_elem? vs i ≡ some v → i < length vs
in_length [] i v e = absurd (some-ne-none v (sym e))
in_length (x ∷ vs) zero v e = omega arith
in_length (x ∷ vs) (suc i) v e = let less = in_length vs i v e in omega arith

abbrev pub Mine : Type 0 → Type 0
Mine W = Me W (View W)

abbrev Homes : Type 0 → Type 0
Homes W = List (maybe.Option W)

module _ {W : Type 0} where
  abbrev value_or : W → List (ℕ × W) → W
  value_or x ((k, y) ∷ l) = y
  value_or x _ = x

  abbrev value_of : W → List (ℕ × W) → W
  value_of d [] = d
  value_of d (p ∷ l) = p.1

  pub no_gate : (v : View W) → v.has_gate ≡ false → v.has_gate ≡ true → ⊥
  no_gate v a b = cc

module _ {W : Type 0} (turn : ℕ → W → W → Type 0) where
  pub opens : (words : List ℕ) (slots : List W) (a w : W) → words ≡ 1 ∷ [] → slots ≡ w ∷ [] → a ≡ w
      → Kept turn (opening words slots (starting a 0 true))
  opens words slots a w one two three =
      subst (λ (z : List ℕ × (List W × W)). Kept turn (opening z.0 z.1.0 (starting z.1.1 0 true)))
      (λ i. (sym one i, (sym two i, sym three i)))
      (record {
        by = 0;
        value = w;
        past = [];
        holder = 0;
        ends = 1;
        one_word = refl;
        all_ends = refl;
        gate = inl (refl, refl);
        turns = tt;
        below = ((omega arith), tt);
        each = first;
      })
    where
      first : (i : ℕ) (v : View W) → get_elem? (starting w 0 true ∷ []) i ≡ some v
          → IsView 1 0 ((0, w) ∷ []) 1 i v
      first zero v e = subst (IsView 1 0 ((0, w) ∷ []) 1 0) (some-injective (starting w 0 true) v e) (record {
        number_is = refl;
        last = λ _. refl;
        holding = λ h. absurd (no_gate (starting w 0 true) refl h);
        seeing = sees_all refl;
      })
      first (suc i) v e = absurd (some-ne-none v (sym e))

  -- a miss, which lets the gate be
  misses : (id : ℕ) (v : View W) (s : State W (View W)) → Kept turn s → get_elem? s.views id ≡ some v
      → Kept turn (record {
        words = set s.words 0 (get_or s.words 0 0);
        homes = s.homes;
        views = set s.views id (missed 1 v);
      })
  misses id v s r at =
      let w : View W = missed 1 v in
      let gate : ℕ = get_or s.words 0 0 in
      let is = r.each id v at in
      subst (λ (z : List ℕ). Kept turn (record { words = z; homes = s.homes; views = set s.views id w }))
      (sym (set-get_or s.words 0 0)) (record {
        by = r.by;
        value = r.value;
        past = r.past;
        holder = r.holder;
        ends = r.ends;
        one_word = r.one_word;
        all_ends = length-set s.views id w ∙ r.all_ends;
        gate = r.gate;
        turns = r.turns;
        below = r.below;
        each = stay (IsView gate r.holder ((r.by, r.value) ∷ r.past) r.ends) s.views id w
            (record { number_is = is.number_is; last = is.last; holding = is.holding; seeing = is.seeing })
            (λ j d other e. r.each j d e);
      })

  free_or_not : (gate : ℕ) → IsFree gate ⊎ (IsFree gate → ⊥)
  free_or_not gate = ⊎_elim
      (λ (some : 0 < gate). ⊎_elim (λ (low : gate < FULL). inl (some, low))
      (λ (high : FULL ≤ gate). inr (λ free. let low = free.1 in omega arith)) (cases_lt gate FULL))
      (λ (none_left : gate ≤ 0). inr (λ free. let some = free.0 in omega arith)) (cases_lt 0 gate)

  -- a look
  pub looks : (slots id : ℕ) (me : Mine W)
      → Allows (Kept turn) slots id me 0 (λ n. n) (looked_at (step slots 0 0 0 none) me)
  looks slots id me s r deep at bound =
      let words = sym (set-get_or s.words 0 0) in
      let views = sym (set_again s.views id me.0 at) in
      let same = subst (Kept turn) (λ i. record { words = words i; homes = s.homes; views = views i }) r in
      ⊎_elim
      (λ (free : IsFree (get_or s.words 0 0)).
      (me.0, keeps, tt, same, (λ _. refl, λ taken. absurd (taken free))))
      (λ (taken : IsFree (get_or s.words 0 0) → ⊥).
      (missed 1 me.0, keeps, tt, misses id me.0 s r at, (λ free. absurd (taken free), λ _. refl)))
      (free_or_not (get_or s.words 0 0))

  -- a try: the gate was what was found, which is not 0, or it is let be
  pub enters : (slots id old : ℕ) (me : Mine W) → 0 < old
      → Allows (Kept turn) slots id me 0 (λ n. either (eqb n old) 0 n) (entered turn (step slots 0 old 0 none) me)
  enters slots id old me positive s r deep at bound =
      let v : View W = me.0 in
      let log : List (ℕ × W) = (r.by, r.value) ∷ r.past in
      let n : ℕ = get_or s.words 0 0 in
      let is = r.each id v at in
      exchanged n old 0 (λ (x : ℕ). (w : View W) × (a : Act W)
      × Valid s.homes me.1 a
      × Kept turn (stepped s 0 x id me.1 w a)
      × entered turn (step slots 0 old 0 none) me n (w, carried_after me.1 a))
      (λ hit. ⊎_elim
      (λ (t : (n ≡ length r.past + 1) × (s.homes ≡ some r.value ∷ [])).
      let w : View W = took log v in
      let now : get_or (set s.words 0 0) 0 0 ≡ 0 = get_or-set_same s.words 0 0 0 (omega (arith, r.one_word)) in (
        w,
        takes 0 r.value,
        ap (λ (h : Homes W). get_elem? h 0) t.1,
        record {
          by = r.by;
          value = r.value;
          past = r.past;
          holder = id;
          ends = r.ends;
          one_word = length-set s.words 0 0 ∙ r.one_word;
          all_ends = length-set s.views id w ∙ r.all_ends;
          gate = inr (now, ap (λ (h : Homes W). set h 0 none) t.1);
          turns = r.turns;
          below = r.below;
          each = stay (IsView (get_or (set s.words 0 0) 0 0) id log r.ends) s.views id w
              (record {
                number_is = is.number_is;
                last = is.last;
                holding = λ _. (now, refl, refl);
                seeing = sees_all refl;
              })
              (λ j d other e. let so = r.each j d e in record {
                number_is = so.number_is;
                last = so.last;
                holding = λ h. absurd (let z = (so.holding h).0 in let y = hit in let p = positive in omega arith);
                seeing = so.seeing;
              });
        },
        (
          λ _. record {
            value = r.value;
            enters = record {
              by = r.by;
              past = r.past;
              goes_on = is.seeing;
              turns = r.turns;
              number_is = t.0;
              times = 0;
              few = omega arith;
              new_is = ap (λ (k : ℕ). record w { misses = k }) (sym (add-zero v.misses));
            };
            taken = refl;
          },
          λ ne. absurd (ne hit),
        ),
      ))
      (λ (t : (n ≡ 0) × (s.homes ≡ none ∷ [])). absurd (let z = t.0 in let y = hit in let p = positive in omega arith)) r.gate)
      (λ miss. (missed 1 v, keeps, tt, misses id v s r at, (λ hit. absurd (miss hit), λ _. refl)))

  -- the gate is given back with a value, and is the history's length again
  pub leaves : (slots id number : ℕ) (v : View W) (w : W) → v.has_gate ≡ true → length v.seen ≡ number
      → MayLeave turn w v
      → Allows (Kept turn) slots id (v, (0, w) ∷ []) 0 (λ _. number + 1)
      (λ _. left (step slots 0 (number + 1) 0 none) (v, (0, w) ∷ []) (number + 1))
  leaves slots id number v w gate number_is may s r deep at bound =
      let is = r.each id v at in
      let has = is.holding gate in
      let w' : View W = gave_back w v in
      let log : List (ℕ × W) = (r.by, r.value) ∷ r.past in
      let same : log ≡ (may.by, may.was) ∷ may.past = sym has.2 ∙ may.seen in
      let next : List (ℕ × W) = (v.number, w) ∷ log in
      let long : number ≡ length log = sym number_is ∙ ap length has.2 in ⊎_elim
      (λ (t : (get_or s.words 0 0 ≡ length r.past + 1) × (s.homes ≡ some r.value ∷ [])).
      absurd (let a = t.0 in let b = has.0 in omega arith))
      (λ (t : (get_or s.words 0 0 ≡ 0) × (s.homes ≡ none ∷ [])).
      let now : get_or (set s.words 0 (number + 1)) 0 0 ≡ number + 1 =
      get_or-set_same s.words 0 (number + 1) 0 (omega (arith, r.one_word)) in (
        w',
        gives,
        tt,
        record {
          by = v.number;
          value = w;
          past = log;
          holder = id;
          ends = r.ends;
          one_word = length-set s.words 0 (number + 1) ∙ r.one_word;
          all_ends = length-set s.views id w' ∙ r.all_ends;
          gate = inl (now ∙ ap (λ (k : ℕ). k + 1) long, ap (λ (h : Homes W). set h 0 (some w)) t.1);
          turns = (subst (λ (u : W). turn v.number u w) (sym (ap (value_of w) same)) may.turns, r.turns);
          below = (
            (let less = in_length s.views id v at in let all = r.all_ends in let name = is.number_is in omega arith),
            r.below,
          );
          each = stay (IsView (get_or (set s.words 0 (number + 1)) 0 0) id next r.ends) s.views id w'
              (record {
                number_is = is.number_is;
                last = is.last;
                holding = λ h. absurd (no_gate w' refl h);
                seeing = sees_all (ap (λ (l : List (ℕ × W)). (v.number, w) ∷ l) (sym has.2));
              })
              (λ j d other e. let so = r.each j d e in record {
                number_is = so.number_is;
                last = so.last;
                holding = λ h. absurd (other (sym (so.holding h).1 ∙ has.1));
                seeing = sees_less (λ same_number. other (sym so.number_is ∙ sym same_number ∙ is.number_is)) so.seeing;
              });
        },
        λ x e. (λ i. (gave_back (ap (value_or w) e i) v, [])),
      )) r.gate

  -- a split
  pub splits : (id : ℕ) (v : View W) → v.is_last ≡ true → Splits (Kept turn) id v (passed_on v) (next_of v)
  splits id v last s r at =
      let is = r.each id v at in
      let log : List (ℕ × W) = (r.by, r.value) ∷ r.past in
      let gate : ℕ = get_or s.words 0 0 in
      let top : v.number + 1 ≡ r.ends = ap (λ (k : ℕ). k + 1) is.number_is ∙ is.last last in
      let left : View W = passed_on v in
      let right : View W = next_of v in
      let rest : List (View W) = set s.views id left in record {
        by = r.by;
        value = r.value;
        past = r.past;
        holder = r.holder;
        ends = r.ends + 1;
        one_word = r.one_word;
        all_ends = (let a = length-append rest (right ∷ []) in let b = length-set s.views id left in
            let c = r.all_ends in omega arith);
        gate = r.gate;
        turns = r.turns;
        below = below_more r.ends log r.below;
        each = λ j d e. ⊎_elim
            (λ (t : get_elem? rest j ≡ some d).
            stay (IsView gate r.holder log (r.ends + 1)) s.views id left
            (record {
              number_is = is.number_is;
              last = λ h. absurd cc;
              holding = is.holding;
              seeing = is.seeing;
            })
            (λ k u other there. let so = r.each k u there in record {
              number_is = so.number_is;
              last = λ h. absurd (other (let a = so.last h in let b = is.last last in omega arith));
              holding = so.holding;
              seeing = so.seeing;
            }) j d t)
            (λ (t : (j ≡ length rest) × (right ≡ d)). subst (IsView gate r.holder log (r.ends + 1) j) t.1 (record {
              number_is = top ∙ sym (t.0 ∙ length-set s.views id left ∙ r.all_ends);
              last = λ _. ap (λ (k : ℕ). k + 1) (t.0 ∙ length-set s.views id left ∙ r.all_ends);
              holding = λ h. absurd (no_gate right refl h);
              seeing = subst (λ (k : ℕ). GoesOn k log v.seen) (sym top) (sees_as r.below is.seeing);
            }))
            (at_end rest right d j e);
      }
    where
      at_end : {A : Type 0} (l : List A) (a b : A) (j : ℕ) → get_elem? (l ++ a ∷ []) j ≡ some b
          → (get_elem? l j ≡ some b) ⊎ ((j ≡ length l) × (a ≡ b))
      at_end [] a b zero e = inr (refl, some-injective a b e)
      at_end [] a b (suc j) e = absurd (some-ne-none b (sym e))
      at_end (x ∷ xs) a b zero e = inl e
      at_end (x ∷ xs) a b (suc j) e = ⊎_elim (λ t. inl t) (λ t. inr (ap suc t.0, t.1)) (at_end xs a b j e)
