-- What a trail has after nodes were added to it.
use Rattle.std.proofs.Common.{◌≡◌, ◌≢◌, ℕ, suc, zero, ◌==◌, ◌||◌, not, Bool, true, false, cond, List, [], ◌∷◌, ◌++◌, ◌+◌, ◌<◌, length, get_or, arith, Option, Some, refl, sym, ap, ◌∙◌, subst, ⊎_elim, eq-eqb, eqb-true, ne_eqb, AllPairs, Contains}
use Rattle.std.specs.Prelude.{slice_get, slice_index}
use Rattle.std.proofs.lemmas.Bool.{cases_eq, false≢true, true≢false, or_cases, or_left, or_right}
use Rattle.std.proofs.lemmas.List.{append-nil, append_assoc, length_push}
use Rattle.std.proofs.lemmas.List.Folds.{list_any-append}
use Rattle.std.proofs.lemmas.List.Quantifiers.{all_pairs_push}
use Rattle.std.proofs.lemmas.Option.{none-some, same_Some, slice_get-get_or}
use Rattle.hd_model.proofs.Members.{not_in_none, first_in, later_in, member_cases, pairs_none, pairs_first, pairs_rest, pairs_cons}
use Rattle.hd_walk.specs.declared.trail.Found.{Found}
use Rattle.hd_walk.specs.{Trail.before_of, Trail.found_by, Trail.is_found, Trail.with_found, Trail.with_all, Trail.IsOnce, Inside.IsTrail}
use Rattle.hd_walk.proofs.Slices.{at_end}

-- the index at which a node is found
pub record Spot (found : List Found) (y : ℕ) : Type 0 where
  pub index : ℕ
  pub one : Found
  pub is_one : slice_get found index ≡ Some one
  pub at_is : one.at ≡ y

pub spot_of : (found : List Found) (y : ℕ) → is_found found y ≡ true → Spot found y
spot_of [] y h = absurd (false≢true h)
spot_of (x ∷ xs) y h =
    ⊎_elim
    (λ here. let same : y ≡ x.at = eqb-true y x.at here in record {
      index = 0;
      one = x;
      is_one = refl;
      at_is = sym same;
    })
    (λ later. let s = spot_of xs y later in record {
      index = suc s.index;
      one = s.one;
      is_one = s.is_one;
      at_is = s.at_is;
    })
    (or_cases (y == x.at) (is_found xs y) h)

pub found_at : (found : List Found) (i : ℕ) (x : Found) → slice_get found i ≡ Some x
    → is_found found x.at ≡ true
found_at [] i x h = absurd (none-some x h)
found_at (z ∷ xs) zero x h =
    let same = ap (λ (w : Found). w.at) (same_Some z x h) in
    or_left (x.at == z.at) (is_found xs x.at) (eq-eqb x.at z.at (sym same))
found_at (z ∷ xs) (suc i) x h = or_right (x.at == z.at) (is_found xs x.at) (found_at xs i x h)

pub found_more : (xs ys : List Found) (y : ℕ) → is_found xs y ≡ true → is_found (xs ++ ys) y ≡ true
found_more xs ys y h =
    list_any-append (λ (x : Found). y == x.at) xs ys ∙ or_left (is_found xs y) (is_found ys y) h

found_last : (found : List Found) (x : Found) → is_found (found ++ x ∷ []) x.at ≡ true
found_last found x = found_at (found ++ x ∷ []) (length found) x (at_end found x)

not_before : (found : List Found) (x : Found) (y : ℕ) (b : Bool) → is_found found y ≡ b
    → is_found (found ++ x ∷ []) y ≡ false → is_found found y ≡ false
not_before found x y true is out = absurd (true≢false (sym (found_more found (x ∷ []) y is) ∙ out))
not_before found x y false is out = is

not_last : (found : List Found) (x : Found) (y : ℕ) → is_found (found ++ x ∷ []) y ≡ false → x.at ≢ y
not_last found x y out e =
    true≢false (sym (subst (λ z. is_found (found ++ x ∷ []) z ≡ true) e (found_last found x)) ∙ out)

-- nodes of a list are added, in its order, those that were not found before
pub record HasAdded (Order : ℕ → ℕ → Type 0) (ys : List ℕ) (before : Option ℕ) (old new : List Found) : Type 0
  where
    pub added : List Found
    pub extends : new ≡ old ++ added
    pub only : (x : Found) → Contains added x → (x.before ≡ before) × Contains ys x.at
    pub fresh : (x : Found) → Contains added x → is_found old x.at ≡ false
    pub all : (y : ℕ) → Contains ys y → is_found new y ≡ true
    pub ordered : AllPairs (λ (x y : Found). Order x.at y.at × (x.at ≢ y.at)) added

module _ (Order : ℕ → ℕ → Type 0) (before : Option ℕ) where
  module _ (y : ℕ) (ys : List ℕ) (found new : List Found) where
    abbrev one : Found
    one = record { at = y; before = before }

    among : (added : List Found) → new ≡ found ++ added → is_found found y ≡ true
        → ((z : ℕ) → Contains ys z → is_found new z ≡ true) → (z : ℕ) → Contains (y ∷ ys) z
        → is_found new z ≡ true
    among added extends is all z has =
        ⊎_elim
        (λ same. subst (λ w. is_found new w ≡ true) same
        (subst (λ xs. is_found xs y ≡ true) (sym extends) (found_more found added y is))) (all z)
        (member_cases y ys z has)

    old_one : is_found found y ≡ true → HasAdded Order ys before found new
        → HasAdded Order (y ∷ ys) before found new
    old_one is v = record {
      added = v.added;
      extends = v.extends;
      only = λ x has. let o = v.only x has in (o.0, later_in y ys x.at o.1);
      fresh = v.fresh;
      all = among v.added v.extends is v.all;
      ordered = v.ordered;
    }

    new_one : is_found found y ≡ false → ((z : ℕ) → Contains ys z → Order y z)
        → HasAdded Order ys before (found ++ one ∷ []) new → HasAdded Order (y ∷ ys) before found new
    new_one out order v = record {
      added = one ∷ v.added;
      extends = v.extends ∙ append_assoc found (one ∷ []) v.added;
      only = λ x has.
          ⊎_elim
          (λ same. subst (λ (w : Found). (w.before ≡ before) × Contains (y ∷ ys) w.at) same
          (refl, first_in y ys))
          (λ later. let o = v.only x later in (o.0, later_in y ys x.at o.1))
          (member_cases one v.added x has);
      fresh = λ x has.
          ⊎_elim (λ same. subst (λ (w : Found). is_found found w.at ≡ false) same out)
          (λ later. not_before found one x.at (is_found found x.at) refl (v.fresh x later))
          (member_cases one v.added x has);
      all = λ z has.
          ⊎_elim
          (λ same. subst (λ w. is_found new w ≡ true) same
          (subst (λ xs. is_found xs y ≡ true) (sym v.extends)
          (found_more (found ++ one ∷ []) v.added y (found_last found one)))) (v.all z)
          (member_cases y ys z has);
      ordered =
          pairs_cons (λ (a b : Found). Order a.at b.at × (a.at ≢ b.at)) one v.added
          (λ x has. (order x.at (v.only x has).1, not_last found one x.at (v.fresh x has))) v.ordered;
    }

    added_next : (b : Bool) → is_found found y ≡ b → ((z : ℕ) → Contains ys z → Order y z)
        → HasAdded Order ys before (with_found found y before) new → HasAdded Order (y ∷ ys) before found new
    added_next true is order v =
        old_one is
        (subst (λ (xs : List Found). HasAdded Order ys before xs new)
        (ap (λ b. cond b found (found ++ one ∷ [])) is) v)
    added_next false is order v =
        new_one is order
        (subst (λ (xs : List Found). HasAdded Order ys before xs new)
        (ap (λ b. cond b found (found ++ one ∷ [])) is) v)

  pub has_added : (ys : List ℕ) (found : List Found) → AllPairs Order ys
      → HasAdded Order ys before found (with_all found ys before)
  has_added [] found order = record {
    added = [];
    extends = sym (append-nil found);
    only = λ x has. absurd (not_in_none x has);
    fresh = λ x has. absurd (not_in_none x has);
    all = λ y has. absurd (not_in_none y has);
    ordered = pairs_none (λ (x y : Found). Order x.at y.at × (x.at ≢ y.at));
  }
  has_added (y ∷ ys) found order =
      added_next y ys found (with_all (with_found found y before) ys before) (is_found found y) refl
      (pairs_first Order y ys order)
      (has_added ys (with_found found y before) (pairs_rest Order y ys order))

-- the same of what is equal to that
pub added_to : (Order : ℕ → ℕ → Type 0) (before : Option ℕ) {ys : List ℕ} {old found : List Found}
    → found ≡ with_all old ys before → AllPairs Order ys → HasAdded Order ys before old found
added_to Order before {ys = ys} {old = old} is order =
    subst (λ (xs : List Found). HasAdded Order ys before old xs) (sym is)
    (has_added Order before ys old order)

-- ---- the invariant of a trail, as one is added

pub not_true : (b : Bool) → not b ≡ true → b ≡ false
not_true true e = absurd (true≢false (sym e))
not_true false e = refl

or_false : (b : Bool) → (b || false) ≡ b
or_false true = refl
or_false false = refl

pub long_by : (nodes marks : List ℕ) → length marks ≡ length nodes → length (found_by nodes marks) ≡ length nodes
long_by [] marks same = refl
long_by (y ∷ ys) [] same = absurd (omega (arith, same))
long_by (y ∷ ys) (m ∷ ms) same = ap suc (long_by ys ms (omega (arith, same)))

pub get_by : (nodes marks : List ℕ) (i : ℕ) → i < length nodes → length marks ≡ length nodes
    → slice_get (found_by nodes marks) i
    ≡ Some (record { at = slice_index nodes i; before = before_of (slice_index marks i) })
get_by [] marks i inside same = absurd (omega arith)
get_by (y ∷ ys) [] i inside same = absurd (omega (arith, same))
get_by (y ∷ ys) (m ∷ ms) zero inside same = refl
get_by (y ∷ ys) (m ∷ ms) (suc i) inside same = get_by ys ms i (omega arith) (omega (arith, same))

pub more_by : (nodes marks : List ℕ) (y m : ℕ) → length marks ≡ length nodes
    → found_by (nodes ++ y ∷ []) (marks ++ m ∷ [])
    ≡ found_by nodes marks ++ record { at = y; before = before_of m } ∷ []
more_by [] [] y m same = refl
more_by [] (n ∷ ms) y m same = absurd (omega (arith, same))
more_by (x ∷ xs) [] y m same = absurd (omega (arith, same))
more_by (x ∷ xs) (n ∷ ms) y m same =
    ap (λ (rest : List Found). record { at = x; before = before_of n } ∷ rest)
    (more_by xs ms y m (omega (arith, same)))

pub trail_more : (nodes marks : List ℕ) {has after : ℕ → Bool} (y m : ℕ) → IsTrail nodes marks has
    → is_found (found_by nodes marks) y ≡ false → ((q : ℕ) → after q ≡ cond (y == q) true (has q))
    → IsTrail (nodes ++ y ∷ []) (marks ++ m ∷ []) after
trail_more nodes marks {has = has} y m r out updates =
    let found = found_by nodes marks in
    let x : Found = record { at = y; before = before_of m } in
    let more = sym (more_by nodes marks y m r.marked) in
    record {
      marked = length_push marks m ∙ ap (λ n. n + 1) r.marked ∙ sym (length_push nodes y);
      among = λ q.
          updates q
          ∙ ⊎_elim
          (λ same. ap (λ b. cond b true (has q)) (eq-eqb y q same)
          ∙ sym (subst (λ n. is_found (found ++ x ∷ []) n ≡ true) same (found_last found x)))
          (λ apart. ap (λ b. cond b true (has q)) (ne_eqb y q apart) ∙ r.among q
          ∙ sym (list_any-append (λ (z : Found). q == z.at) found (x ∷ [])
          ∙ ap (λ b. is_found found q || (b || false)) (ne_eqb q y (λ e. apart (sym e)))
          ∙ or_false (is_found found q)))
          (cases_eq y q)
          ∙ ap (λ (xs : List Found). is_found xs q) more;
      once =
          subst (λ (xs : List Found). IsOnce xs) more
          (all_pairs_push (λ (a b : Found). a.at ≢ b.at) found x r.once
          (λ k d lt same. true≢false
          (sym (subst (λ a. is_found found a ≡ true) same
          (found_at found k (get_or found k d) (slice_get-get_or found k d lt))) ∙ out)));
    }

-- a test of nodes sees what is found
pub test_by : (nodes marks : List ℕ) {has : ℕ → Bool} (y : ℕ) (b : Bool) → IsTrail nodes marks has → b ≡ not (has y)
    → b ≡ true → is_found (found_by nodes marks) y ≡ false
test_by nodes marks y b r is new = sym (r.among y) ∙ not_true _ (sym is ∙ new)

-- what a new node makes of what is found
pub next_by : (nodes marks : List ℕ) (y m : ℕ) → length marks ≡ length nodes
    → is_found (found_by nodes marks) y ≡ false
    → found_by (nodes ++ y ∷ []) (marks ++ m ∷ []) ≡ with_found (found_by nodes marks) y (before_of m)
next_by nodes marks y m same out =
    let found = found_by nodes marks in
    more_by nodes marks y m same
    ∙ sym (ap (λ b. cond b found (found ++ record { at = y; before = before_of m } ∷ [])) out)
