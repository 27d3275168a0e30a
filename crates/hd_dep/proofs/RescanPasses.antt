-- How many passes a rescan makes, and that what is promoted after the last is closed.
use Rattle.hd_dep.proofs.Basics.{Addr, AllPairs, Bool, Contains, Counts, Gained, HasSoundAges, Heap, IsAttached, IsClosed, IsClosure, IsEdge, IsField, IsFollowed, IsSettled, IsSome, IsSpread, List, MatchBool, None, Objects, OfVisited, Option, Placed, RescanSteps, Rows, Some, Spreads, ap, arith, both_ways, cases_Bool, cases_lt, cond, false, fewer, filter, generation_at, get, is_due, is_object, is_some, len, length, member_cases, not, not-true, not_from_false, object_at, object_in, option_map, pairs_cons, pairs_passing, passing_from, passing_in, refl, region_generation, region_of, subst, sym, true, true≢false, undue_secondary, ℕ, ⊎_elim, ◌*◌, ◌+◌, ◌<◌, ◌∙◌, ◌∷◌, ◌≡◌, ◌≢◌, ◌≤◌}
use Rattle.std.proofs.lemmas.List.Filters.{length-filter_both}
use Rattle.hd_model.proofs.MapEntries.{counts_keys}

-- ---- the objects of a heap, in a list

pub keys_of : (h : Heap) → Counts (λ (x : Addr). IsSome (get h.objects x.0)) (len h.objects)
keys_of h = counts_keys h.objects (λ k. let a : Addr = record { 0 = k } in a) (λ a. a.0) (λ k. refl)
    (λ a. refl)

abbrev pub addresses : Heap → List Addr
addresses h = (keys_of h).members

some_object : (g : ℕ) (o : Option Placed) → is_some (option_map (object_in g) o) ≡ is_some o
some_object g None = refl
some_object g (Some p) = refl

pub listed : (h : Heap) (x : Addr) → is_object (object_at h) x ≡ true → Contains (addresses h) x
listed h x e = (keys_of h).all x (sym (some_object (region_generation h (region_of x)) (get h.objects x.0))
    ∙ e)

-- ---- the passes

-- how many objects are not promoted
abbrev pub left_in : Heap → (Addr → Bool) → ℕ
left_in h p = length (filter (λ x. not (p x)) (addresses h))

not_promoted : (p q : Addr → Bool) (x : Addr) → (p x ≡ true → q x ≡ true) → not (q x) ≡ true
    → not (p x) ≡ true
not_promoted p q x keeps out =
    not_from_false (p x)
    (⊎_elim (λ is. absurd (both_ways (q x) (not-true (q x) out) (keeps is))) (λ isnt. isnt)
    (cases_Bool (p x)))

-- a pass that promoted something leaves fewer
fewer_left : (h : Heap) (n : ℕ) (p q : Addr → Bool) → IsSettled (object_at h) n q
    → ((x : Addr) → p x ≡ true → q x ≡ true) → Gained p q → left_in h q < left_in h p
fewer_left h n p q settled keeps gained =
    let all : List Addr = addresses h in
    let few = fewer (gained.member ∷ filter (λ x. not (q x)) all) (filter (λ x. not (p x)) all)
    (pairs_cons (λ x y. x ≢ y) gained.member (filter (λ x. not (q x)) all)
    (λ y inside same. both_ways (q y) (not-true (q y) (passing_from (λ x. not (q x)) all y inside).1)
    (ap q (sym same) ∙ gained.new))
    (pairs_passing (λ x. not (q x)) (λ x y. x ≢ y) all (keys_of h).apart))
    (λ x inside. ⊎_elim
    (λ same. passing_in (λ x. not (p x)) all x
    (listed h x (settled.objects x (ap q (sym same) ∙ gained.new)))
    (not_from_false (p x) (ap p (sym same) ∙ gained.old)))
    (λ later. let (there, out) = passing_from (λ x. not (q x)) all x later in
    passing_in (λ x. not (p x)) all x there (not_promoted p q x (keeps x) out))
    (member_cases gained.member (filter (λ x. not (q x)) all) x inside)) in
    omega (arith, few)

-- some number of passes was made, and each went over `visits` clumps
pub record HasPassed (h : Heap) (visits : ℕ) (p0 p : Addr → Bool) (old new : ℕ) (more : Bool) : Type 0 where
  pub passes : ℕ
  pub steps_are : new ≡ old + passes * visits
  pub most : passes + left_in h p ≤ left_in h p0 + cond more 0 1
  pub least : more ≡ false → 1 ≤ passes

pub none_passed : (h : Heap) (visits : ℕ) (p0 : Addr → Bool) (old : ℕ) → HasPassed h visits p0 p0 old old true
none_passed h visits p0 old = record {
  passes = 0;
  steps_are = omega arith;
  most = omega arith;
  least = λ e. absurd (true≢false e);
}

-- each pass but the last leaves less
pub passes_fall : (h : Heap) (n : ℕ) (p q : Addr → Bool) → IsSettled (object_at h) n q
    → ((x : Addr) → p x ≡ true → q x ≡ true) → (more : Bool) → MatchBool more (Gained p q) (q ≡ p)
    → left_in h q + cond more 1 0 < left_in h p + 1
passes_fall h n p q settled keeps true gained =
    let l = fewer_left h n p q settled keeps gained in omega arith
passes_fall h n p q settled keeps false same = let l = ap (left_in h) same in omega arith

pub passed_more : (h : Heap) (visits : ℕ) (p0 p q : Addr → Bool) (old mid new : ℕ) (more : Bool)
    → left_in h q + cond more 1 0 < left_in h p + 1 → HasPassed h visits p0 p old mid true
    → new ≡ mid + visits → HasPassed h visits p0 q old new more
passed_more h visits p0 p q old mid new more falls was is = record {
  passes = was.passes + 1;
  steps_are = one_pass was.passes was.steps_are;
  most = by more was.most falls;
  least = λ e. omega arith;
}
  where
    one_pass : (k : ℕ) → mid ≡ old + k * visits → new ≡ old + (k + 1) * visits
    one_pass k was = grind arith

    by : (b : Bool) → was.passes + left_in h p ≤ left_in h p0 + 0 → left_in h q + cond b 1 0 < left_in h p + 1
        → was.passes + 1 + left_in h q ≤ left_in h p0 + cond b 0 1
    by true most falls = omega arith
    by false most falls = omega arith

-- the steps of all passes, once nothing more is to be promoted
pub rescan_steps : (h : Heap) (n visits : ℕ) (p0 p : Addr → Bool) (old new : ℕ) → IsSettled (object_at h) n p
    → HasPassed h visits p0 p old new false → RescanSteps visits p0 p old new
rescan_steps h n visits p0 p old new settled passed =
    let out : List Addr = filter (λ x. not (p0 x)) (addresses h) in
    let apart : AllPairs (λ x y. x ≢ y) out =
    pairs_passing (λ x. not (p0 x)) (λ x y. x ≢ y) (addresses h) (keys_of h).apart in
    record {
      promoted = length (filter p out);
      counts = record {
        members = filter p out;
        apart = pairs_passing p (λ x y. x ≢ y) out apart;
        each = λ x e. let (there, is) = passing_from p out x e in
            (is, not-true (p0 x) (passing_from (λ x. not (p0 x)) (addresses h) x there).1);
        all = λ x e. passing_in p out x
            (passing_in (λ x. not (p0 x)) (addresses h) x (listed h x (settled.objects x e.0))
            (not_from_false (p0 x) e.1)) e.0;
        number = refl;
      };
      passes = passed.passes;
      least = passed.least refl;
      most = (let known =
          fewer (filter (λ x. not (p x)) out) (filter (λ x. not (p x)) (addresses h))
          (pairs_passing (λ x. not (p x)) (λ x y. x ≢ y) out apart)
          (λ x e. let (there, is) = passing_from (λ x. not (p x)) out x e in
          passing_in (λ x. not (p x)) (addresses h) x
          (passing_from (λ x. not (p0 x)) (addresses h) x there).0 is) in
          omega (arith, passed.most, length-filter_both p (λ x. not (p x)) (λ x. refl) out, known));
      steps_are = passed.steps_are;
    }

-- ---- the closure

module _ (o : Objects Addr) (n : ℕ) (rows : Rows Addr) (ages : List ℕ) (p0 p : Addr → Bool)
    (settled0 : IsSettled o n p0) (settled : IsSettled o n p) (fields : IsClosed (IsField o) p0)
    (sound : HasSoundAges o rows ages) (spreads : Spreads (IsEdge o rows) p0 p)
    (followed : OfVisited rows ages n (λ h. IsFollowed h p)) where
  field_closed : (x y : Addr) → p x ≡ true → IsField o x y → p y ≡ true
  field_closed x y promoted field =
      ⊎_elim (λ old. spreads.keeps y (fields x y (settled0.older x old) field))
      (λ young. settled.closed x y promoted
      (record { condemned = record { object = settled.objects x promoted; young = young }; field = field }))
      (cases_lt n (generation_at o x))

  attached_closed : (x y : Addr) → p x ≡ true → IsAttached rows x y → p y ≡ true
  attached_closed x y promoted a =
      ⊎_elim (λ due. (followed a.slot a.handle a.is_stored a.attaches due).follows x y
      (record { target = a.target; secondary = a.secondary }) promoted)
      (λ undue. settled.older y
      (undue_secondary o n rows ages sound a.slot a.handle a.is_stored undue y a.secondary))
      (cases_Bool (is_due ages n a.slot))

  pub rescan_closure : IsClosure (IsEdge o rows) p0 p
  rescan_closure = record {
    keeps = spreads.keeps;
    closed = λ x y promoted. ⊎_elim (field_closed x y promoted) (attached_closed x y promoted);
    only = spreads.only;
  }

-- ---- what a pass returns

module _ (rows : Rows Addr) (ages : List ℕ) (n : ℕ) (p q : Addr → Bool) where
  pub gained_or_same : (more : Bool) → MatchBool more (Gained p q) (IsSpread rows ages n p q)
      → MatchBool more (Gained p q) (q ≡ p)
  gained_or_same true found = found
  gained_or_same false found = found.same

  pub followed_after : (more : Bool) → MatchBool more (Gained p q) (IsSpread rows ages n p q) → more ≡ false
      → OfVisited rows ages n (λ h. IsFollowed h q)
  followed_after true found e = absurd (true≢false e)
  followed_after false found e =
      subst (λ f. OfVisited rows ages n (λ h. IsFollowed h f)) (sym found.same) found.followed
