-- A property has one number of things, and such numbers add up.
use Rattle.hd_model.proofs.Basics.{AllPairs, Bool, Contains, Contains-append_cases, Contains-append_left, Contains-append_right, Counts, List, [], arith, filter, inl, inr, length, length-append, length-map, map, refl, subst, true, ℕ, ⊎_elim, ◌++◌, ◌+◌, ◌∙◌, ◌≡◌, ◌≢◌, ◌≤◌, ◌⊎◌}
use Rattle.hd_model.proofs.MemberWeights.{lighter, sum_ones}
use Rattle.hd_model.proofs.Members.{not_in_none, pairs_none, pairs_append, passing_from, passing_in, pairs_passing, pairs_mapped, pairs_among, mapped_in, mapped_from}

module _ {A : Type 0} where
  -- members that are apart and are in another list are at most as many as that has
  pub fewer : (xs ys : List A) → AllPairs (λ x y. x ≢ y) xs → ((x : A) → Contains xs x → Contains ys x)
      → length xs ≤ length ys
  fewer xs ys apart within = omega (arith, lighter (λ _. 1) xs ys apart within, sum_ones xs, sum_ones ys)

  module _ (P Q : A → Type 0) where
    -- a property that has another's things and more has at least as many
    pub counts_le : (c d : ℕ) → ((x : A) → P x → Q x) → Counts P c → Counts Q d → c ≤ d
    counts_le c d turn p q =
        let within : length p.members ≤ length q.members =
        fewer p.members q.members p.apart (λ x h. q.all x (turn x (p.each x h))) in
        omega (arith, p.number, q.number)

    -- two properties that say the same have the same number
    pub counts_like : (c : ℕ) → ((x : A) → P x → Q x) → ((x : A) → Q x → P x) → Counts P c → Counts Q c
    counts_like c to back p = record {
      members = p.members;
      apart = p.apart;
      each = λ x h. to x (p.each x h);
      all = λ x q. p.all x (back x q);
      number = p.number;
    }

    -- two properties that exclude each other have together the sum
    pub counts_join : (c d : ℕ) → ((x : A) → P x → Q x → ⊥) → Counts P c → Counts Q d
        → Counts (λ x. P x ⊎ Q x) (c + d)
    counts_join c d never p q = record {
      members = p.members ++ q.members;
      apart =
          pairs_append (λ x y. x ≢ y) p.members q.members p.apart q.apart
          (λ x y h k e. never y (subst P e (p.each x h)) (q.each y k));
      each = λ x h. ⊎_elim (λ left. inl (p.each x left)) (λ right. inr (q.each x right))
          (Contains-append_cases p.members q.members x h);
      all = λ x. ⊎_elim (λ a. Contains-append_left p.members q.members x (p.all x a))
          (λ b. Contains-append_right p.members q.members x (q.all x b));
      number = length-append p.members q.members ∙ (λ i. p.number i + q.number i);
    }

  -- a property has one number
  pub counts_once : (P : A → Type 0) (c d : ℕ) → Counts P c → Counts P d → c ≡ d
  counts_once P c d p q =
      let up = counts_le P P c d (λ x h. h) p q in let down = counts_le P P d c (λ x h. h) q p in omega arith

  -- a property of nothing has 0, and 0 things have no property
  pub counts_none : (P : A → Type 0) → ((x : A) → P x → ⊥) → Counts P 0
  counts_none P never = record {
    members = [];
    apart = pairs_none (λ x y. x ≢ y);
    each = λ x h. absurd (not_in_none x h);
    all = λ x h. absurd (never x h);
    number = refl;
  }

  pub counts_zero : (P : A → Type 0) (c : ℕ) → ((x : A) → P x → ⊥) → Counts P c → c ≡ 0
  counts_zero P c never p = counts_once P c 0 p (counts_none P never)

  -- of the things of a property, those that pass a test have a number too
  pub counts_where : (P : A → Type 0) (test : A → Bool) (c : ℕ) → Counts P c → (d : ℕ)
      × Counts (λ x. P x × (test x ≡ true)) d
  counts_where P test c p = (
    length (filter test p.members),
    record {
      members = filter test p.members;
      apart = pairs_passing test (λ x y. x ≢ y) p.members p.apart;
      each = λ x h. let (inside, passes) = passing_from test p.members x h in (p.each x inside, passes);
      all = λ x h. passing_in test p.members x (p.all x h.0) h.1;
      number = refl;
    },
  )

-- the number of things is that of their names, where names distinguish them
pub counts_named : {A B : Type 0} (f : A → B) (P : A → Type 0) (Q : B → Type 0) (c : ℕ)
    → ((x y : A) → P x → P y → f x ≡ f y → x ≡ y) → ((x : A) → P x → Q (f x))
    → ((b : B) → Q b → (x : A) × (P x × (f x ≡ b))) → Counts P c → Counts Q c
counts_named f P Q c apart to back p = record {
  members = map f p.members;
  apart =
      pairs_mapped (λ x y. f x ≢ f y) (λ x y. x ≢ y) f p.members (λ x y h. h)
      (pairs_among (λ x y. x ≢ y) (λ x y. f x ≢ f y) p.members
      (λ x y h k ne same. ne (apart x y (p.each x h) (p.each y k) same)) p.apart);
  each = λ b h. let (x, rest) = mapped_from f p.members b h in subst Q rest.1 (to x (p.each x rest.0));
  all = λ b h.
      let (x, rest) = back b h in subst (λ z. Contains (map f p.members) z) rest.1
      (mapped_in f p.members x (p.all x rest.0));
  number = length-map p.members f ∙ p.number;
}
