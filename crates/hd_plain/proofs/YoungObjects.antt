-- Objects of generations above n, and the others, which a collection of n marks.
use Rattle.hd_model.proofs.Basics.{AllPairs, Bool, Contains, Contains-append_cases, Contains-append_left, Contains-append_right, Decides, FinMap, IsWellFormed, List, None, Numbers, Object, Option, Some, State, [], ap, arith, cond, entries, entries_sorted, false, false≢true, filter, generation_at, generation_in, get, inl, inr, length, lt-ltb, ltb-true, map, nat_cmp, nat_lt, none-some, not, refl, same_Some, scene_of, subst, sym, true, ℕ, ⊎_elim, cases_Bool, ◌++◌, ◌<◌, ◌∙◌, ◌∷◌, ◌≡◌, ◌≢◌, ◌≤◌, ◌⊎◌, le-ltb, ltb-false}
use Rattle.std.specs.Option.{option_map_or}
use Rattle.std.specs.Prelude.{flat_map}
use Rattle.hd_model.proofs.MapEntries.{entry_of, get_entry, keys_rise}
use Rattle.hd_model.proofs.Members.{first_in, mapped_from, mapped_in, pairs_cons, pairs_first, pairs_like, pairs_mapped, pairs_none, pairs_passing, pairs_rest, passing_from, passing_in}
use Rattle.hd_model.specs.declared.data.Id.{Id}
use Rattle.hd_model.specs.declared.limits.TheConstants.{OLDEST}
use Rattle.hd_plain.proofs.MarkedSets.{IsAmong, gains_like, gains_targets, number}
use Rattle.hd_plain.specs.Collecting.{id_of}
use Rattle.hd_plain.specs.Inside.{Gains, HasGenerations, is_older, with_targets, young, young_ids, young_one}
use Rattle.hd_plain.specs.Marked.{Marked}

-- a well formed state has no generation above the oldest
pub generations : (m : Numbers) (s : State) → IsWellFormed m s → HasGenerations s.objects
generations m s w = w.objects.generations

pairs_unmapped : {A B : Type 0} (R : B → B → Type 0) (f : A → B) (xs : List A) → AllPairs R (map f xs)
    → AllPairs (λ x y. R (f x) (f y)) xs
pairs_unmapped R f [] pairs = pairs_none (λ x y. R (f x) (f y))
pairs_unmapped R f (x ∷ xs) pairs =
    pairs_cons (λ x y. R (f x) (f y)) x xs
    (λ y h. pairs_first R (f x) (map f xs) pairs (f y) (mapped_in f xs y h))
    (pairs_unmapped R f xs (pairs_rest R (f x) (map f xs) pairs))

pub flat_map-map : {A B C : Type 0} (f : B → List C) (g : A → B) (xs : List A)
    → flat_map (λ x. f (g x)) xs ≡ flat_map f (map g xs)
flat_map-map f g [] = refl
flat_map-map f g (x ∷ xs) = ap (λ ys. f (g x) ++ ys) (flat_map-map f g xs)

pub rising_apart : (ids : List ℕ) → AllPairs (λ x y. x < y) ids → AllPairs (λ x y. x ≢ y) ids
rising_apart ids rising =
    pairs_like (λ x y. x < y) (λ x y. x ≢ y) ids (λ x y low same. absurd (omega arith)) rising

module _ (n : ℕ) (objects : FinMap nat_cmp (Object Id)) where
  -- an object is older, or not
  pub older_or : (x : Id) → (is_older n objects x ≡ true) ⊎ (is_older n objects x ≡ false)
  older_or x = cases_Bool (is_older n objects x)

  pub older_generation : (x : Id) → Decides (is_older n objects x) (n < generation_in (get objects x.0))
  older_generation x = by (get objects x.0)
    where
      by : (o : Option (Object Id))
          → Decides (option_map_or (λ (q : Object Id). nat_lt n q.generation) o false) (n < generation_in o)
      by None = (λ h. absurd (false≢true h), λ l. absurd (omega (arith, l)))
      by (Some o) = (λ h. ltb-true n o.generation h, λ l. lt-ltb n o.generation l)

  -- what is referenced by what is not older
  pub young_from : (o : Option Id) (x : Id) → young n objects o ≡ Some x
      → (o ≡ Some x) × (is_older n objects x ≡ false)
  young_from None x e = absurd (none-some x e)
  young_from (Some y) x e = by (is_older n objects y) refl e
    where
      by : (b : Bool) → is_older n objects y ≡ b → cond b None (Some y) ≡ Some x
          → (Some y ≡ Some x) × (is_older n objects x ≡ false)
      by true is h = absurd (none-some x h)
      by false is h = (h, subst (λ z. is_older n objects z ≡ false) (same_Some y x h) is)

  pub young_to : (x : Id) → is_older n objects x ≡ false → young n objects (Some x) ≡ Some x
  young_to x is = ap (λ b. cond b None (Some x)) is

  abbrev pub IsYoungOf : List (Option Id) → ℕ → Type 0
  IsYoungOf os y = IsAmong os y × (is_older n objects (number y) ≡ false)

  pub gains_young : (m : Marked) (os : List (Option Id))
      → Gains (IsYoungOf os) m (with_targets m (map (young n objects) os))
  gains_young m os =
      gains_like (IsAmong (map (young n objects) os)) (IsYoungOf os) m
      (with_targets m (map (young n objects) os))
      (λ y c. let (o, rest) = mapped_from (young n objects) os (Some (number y)) c in
      let both = young_from o (number y) rest.1 in
      (subst (λ q. Contains os q) both.0 rest.0, both.1))
      (λ y h. subst (λ q. Contains (map (young n objects) os) q) (young_to (number y) h.1)
      (mapped_in (young n objects) os (Some (number y)) h.0)) (gains_targets m (map (young n objects) os))

  -- ---- the objects that are not older, by identity

  abbrev is_young : ℕ × Object Id → Bool
  is_young e = not (nat_lt n e.1.generation)

  young_listed : (es : List (ℕ × Object Id))
      → flat_map (young_one n) es ≡ map (λ (e : ℕ × Object Id). e.0) (filter is_young es)
  young_listed [] = refl
  young_listed (e ∷ es) = by (nat_lt n e.1.generation) (young_listed es)
    where
      by : (b : Bool) → flat_map (young_one n) es ≡ map (λ (q : ℕ × Object Id). q.0) (filter is_young es)
          → cond b [] (e.0 ∷ []) ++ flat_map (young_one n) es
          ≡ map (λ (q : ℕ × Object Id). q.0) (cond (not b) (e ∷ filter is_young es) (filter is_young es))
      by true rest = rest
      by false rest = ap (λ ks. e.0 ∷ ks) rest

  -- a list has exactly the objects that are not older, in rising order
  pub record ListsYoung (ids : List ℕ) : Type 0 where
    pub rising : AllPairs (λ x y. x < y) ids
    pub each : (k : ℕ) → Contains ids k → (o : Object Id) × ((get objects k ≡ Some o) × (o.generation ≤ n))
    pub all : (k : ℕ) (o : Object Id) → get objects k ≡ Some o → o.generation ≤ n → Contains ids k

  is_low : (e : ℕ × Object Id) → is_young e ≡ true → e.1.generation ≤ n
  is_low e h = by (nat_lt n e.1.generation) refl h
    where
      by : (b : Bool) → nat_lt n e.1.generation ≡ b → not b ≡ true → e.1.generation ≤ n
      by true is k = absurd (false≢true k)
      by false is k = ltb-false n e.1.generation is

  pub young_lists : (ids : List ℕ) → ids ≡ young_ids n objects → ListsYoung ids
  young_lists ids is =
      let key : ℕ × Object Id → ℕ = λ e. e.0 in
      let those : List ℕ = map key (filter is_young (entries objects)) in
      let are : ids ≡ those = is ∙ young_listed (entries objects) in
      record {
        rising = subst (λ ks. AllPairs (λ x y. x < y) ks) (sym are)
            (pairs_mapped (λ e f. e.0 < f.0) (λ x y. x < y) key (filter is_young (entries objects))
            (λ e f h. h)
            (pairs_passing is_young (λ e f. e.0 < f.0) (entries objects)
            (pairs_unmapped (λ x y. x < y) key (entries objects)
            (keys_rise (entries objects) (entries_sorted objects)))));
        each = λ k c.
            let (e, rest) = mapped_from key (filter is_young (entries objects)) k
            (subst (λ ks. Contains ks k) are c) in
            let both = passing_from is_young (entries objects) e rest.0 in (
              e.1,
              (
                subst (λ j. get objects j ≡ Some e.1) rest.1 (get_entry objects e.0 e.1 both.0),
                is_low e both.1,
              ),
            );
        all = λ k o e low. subst (λ ks. Contains ks k) (sym are)
            (mapped_in key (filter is_young (entries objects)) (k, o)
            (passing_in is_young (entries objects) (k, o) (entry_of objects k o e)
            (ap not (le-ltb n o.generation low))));
      }

-- none is of a generation above the oldest
pub all_young : (objects : FinMap nat_cmp (Object Id)) → HasGenerations objects → (n : ℕ) → OLDEST ≤ n
    → (x : Id) → is_older n objects x ≡ false
all_young objects low n most x = by (get objects x.0) refl
  where
    by : (o : Option (Object Id)) → get objects x.0 ≡ o
        → option_map_or (λ (q : Object Id). nat_lt n q.generation) o false ≡ false
    by None e = refl
    by (Some o) e = let l = low x.0 o e in le-ltb n o.generation (omega (arith, l, most))
