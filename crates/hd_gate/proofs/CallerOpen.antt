-- Callers as they are made.
use Rattle.hd_gate.proofs.Basics.{AreAll, AreNew, Begin, CallerView, IsFirst, IsNew, List, Named, Numbers, View, [], ap, arith, cases_eq, drop, get_or, get_or-append, get_or-append_seam, inl, inr, length, length-append, numbers_of, shared_out, slice_index, slice_index_or, starting, subst, suc, sum, sym, zero, ℕ, ◌++◌, ◌+◌, ◌-◌, ◌<◌, ◌∙◌, ◌∷◌, ◌≡◌, ◌≤◌}
use Rattle.std.proofs.{lemmas.List.Sums.sum_by-drop_more, Math.Numerals.add-one}

-- what is still to be given: the next one's, and the rest
pub sum_drop : (xs : List ℕ) (n : ℕ) → n < length xs → sum (drop n xs)
    ≡ slice_index xs n + sum (drop (n + 1) xs)
sum_drop xs n h = sum_by-drop_more (λ (x : ℕ). x) xs n 0 h

-- seat 0 gives a share
pub first_next : {W : Type 0} (begun v w : View W) (seats share rest : ℕ)
    → IsFirst begun v seats (share + rest) → w ≡ shared_out share v → IsFirst begun w (seats + 1) rest
first_next {W = W} begun v w seats share rest first is =
    let split : w ≡ record begun { made = seats + 1; room = v.room - share } = is ∙ ap (shared_out share)
    first.view in
    let left : v.room - share ≡ w.room = sym (ap (λ (x : View W). x.room) is) in
    record {
      view = split ∙ ap (λ r. record begun { made = seats + 1; room = r }) left;
      room = subst (λ r. rest ≤ r) left (omega (arith, first.room));
    }

-- one caller more
pub one_more : (s : Named) (rooms : List ℕ) (list : List CallerView) (p : CallerView) (number : ℕ)
    → length list + 1 ≡ number → AreNew s rooms list → IsNew s number (slice_index rooms number) p
    → AreNew s rooms (list ++ p ∷ [])
one_more s rooms list p number count new last k d below = elim (cases_eq k (length list)) [
  | inl here ↦ (
      let there : get_or (list ++ p ∷ []) k d ≡ p = ap (λ j. get_or (list ++ p ∷ []) j d) here
      ∙ get_or-append_seam list p [] d in
      let next : number ≡ k + 1 = omega arith in
      subst (λ (q : CallerView). IsNew s (k + 1) (slice_index rooms (k + 1)) q) (sym there)
      (subst (λ j. IsNew s j (slice_index rooms j) p) next last))
  | inr apart ↦ (
      let lower : k < length list = omega (arith, apart, below, length-append list (p ∷ [])) in
      subst (λ (q : CallerView). IsNew s (k + 1) (slice_index rooms (k + 1)) q)
      (sym (get_or-append list (p ∷ []) d k lower)) (new k d lower))
]

-- all callers, once the first one is before the others
pub all_new : (s : Named) (rooms : List ℕ) (first : CallerView) (list : List CallerView)
    → IsNew s 0 (slice_index rooms 0) first → AreNew s rooms list
    → (c : ℕ) (d : CallerView) → c < length (first ∷ list)
    → IsNew s c (slice_index rooms c) (slice_index_or (first ∷ list) c d)
all_new s rooms first list new news zero d below = new
all_new s rooms first list new news (suc k) d below = subst
    (λ j. IsNew s j (slice_index rooms j) (slice_index_or list k d)) (add-one k) (news k d (omega arith))

module _ (s : Named) (rooms : List ℕ) (first : CallerView) (list all : List CallerView)
    (are : all ≡ first ∷ list)
    (count : length list + 1 ≡ length rooms) (callers : length rooms ≡ s.numbers.callers)
    (new : IsNew s 0 (slice_index rooms 0) first) (news : AreNew s rooms list) where
  pub are_all : AreAll s all
  are_all = subst (AreAll s) (sym are) (record {
    count = omega (arith, count, callers);
    each = λ c d below. (all_new s rooms first list new news c d below).is_of;
    in_order = λ c d below. (all_new s rooms first list new news c d below).number;
  })

  pub begin : Begin rooms all
  begin = subst (Begin rooms) (sym are) (record {
    parts = λ c d below. (all_new s rooms first list new news c d below).part;
    rooms = λ c d below. (all_new s rooms first list new news c d below).room;
    seen = λ c d below. (all_new s rooms first list new news c d below).seen;
  })

-- ---- seats

module _ {W : Type 0} (begun v : View W) (numbers : Numbers) (begins : begun
    ≡ starting begun.room numbers) where
  pub limits_are : (seats rooms : ℕ) → IsFirst begun v seats rooms → numbers_of v.limits ≡ numbers
  limits_are seats rooms first = ap (λ (x : View W). numbers_of x.limits) (first.view ∙ ap
      (λ (x : View W). record x { made = seats; room = v.room }) begins)

  pub first_part : (seats rooms : ℕ) → IsFirst begun v seats rooms → v.part ≡ []
  first_part seats rooms first = ap (λ (x : View W). x.part) (first.view ∙ ap
      (λ (x : View W). record x { made = seats; room = v.room }) begins)

  pub first_seen : (seats rooms : ℕ) → IsFirst begun v seats rooms → v.seen ≡ []
  first_seen seats rooms first = ap (λ (x : View W). x.seen) (first.view ∙ ap
      (λ (x : View W). record x { made = seats; room = v.room }) begins)
