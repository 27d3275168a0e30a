-- What a seat holds, and how often.
use Rattle.hd_custody.proofs.Basics.{Bool, Every, Has, List, [], ap, arith, cases_eq, cond, false, filter, held_times, inl, inr, named_by, naming, one_if, refl, subst, suc, sym, true, zero, ℕ, ◌++◌, ◌+◌, ◌<◌, ◌==◌, ◌∙◌, ◌∷◌, ◌≡◌, ◌≢◌}
use mathlib.Core.Option.{some, some-injective, some-ne-none}
use lib.ListN.{get_elem?}
use Rattle.hd_custody.specs.Counts.{picks}
use Rattle.hd_custody.proofs.WordTotals.{hit, miss, total_append}

pub true_false : (b : Bool) → b ≡ true → b ≡ false → ⊥
true_false b on off = cc

-- ---- counting

pub held_times_append : (x : ℕ) (xs ys : List (ℕ × ℕ))
    → held_times x (xs ++ ys) ≡ held_times x xs + held_times x ys
held_times_append x xs ys = total_append (λ p. one_if (p.0 == x)) xs ys

pub held_times_naming : (x b k : ℕ) (held : List (ℕ × ℕ)) → held_times x (naming b k held) ≡ held_times x held
held_times_naming x b k [] = refl
held_times_naming x b k (p ∷ ps) = ap (λ n. one_if (p.0 == x) + n) (held_times_naming x b k ps)

module _ (g : ℕ → Bool) (x : ℕ) where
  kept_at : (p : ℕ × ℕ) (ps rest : List (ℕ × ℕ)) → g x ≡ true → held_times x rest ≡ held_times x ps
      → (b : Bool) → g p.0 ≡ b → held_times x (cond b (p ∷ rest) rest) ≡ one_if (p.0 == x) + held_times x ps
  kept_at p ps rest on r true e = ap (λ n. one_if (p.0 == x) + n) r
  kept_at p ps rest on r false e =
      let none : one_if (p.0 == x) ≡ 0 = miss p.0 x (λ same. true_false (g x) on (ap g (sym same) ∙ e)) in
      omega (arith, r, none)

  pub held_times_kept : (held : List (ℕ × ℕ)) → g x ≡ true
      → held_times x (filter (λ p. g p.0) held) ≡ held_times x held
  held_times_kept [] on = refl
  held_times_kept (p ∷ ps) on = kept_at p ps _ on (held_times_kept ps on) (g p.0) refl

  dropped_at : (p : ℕ × ℕ) (rest : List (ℕ × ℕ)) → g x ≡ false → held_times x rest ≡ 0 → (b : Bool)
      → g p.0 ≡ b → held_times x (cond b (p ∷ rest) rest) ≡ 0
  dropped_at p rest off r true e =
      let none : one_if (p.0 == x) ≡ 0 = miss p.0 x (λ same. true_false (g x) (ap g (sym same) ∙ e) off) in
      omega (arith, r, none)
  dropped_at p rest off r false e = r

  pub held_times_dropped : (held : List (ℕ × ℕ)) → g x ≡ false → held_times x (filter (λ p. g p.0) held) ≡ 0
  held_times_dropped [] off = refl
  held_times_dropped (p ∷ ps) off = dropped_at p _ off (held_times_dropped ps off) (g p.0) refl

pub has_member : (held : List (ℕ × ℕ)) (n : ℕ) (p : ℕ × ℕ) → get_elem? held n ≡ some p → Has p.0 held
has_member [] n p e = absurd (some-ne-none p (sym e))
has_member (q ∷ ps) zero p e =
    let one : one_if (q.0 == p.0) ≡ 1 = hit q.0 p.0 (ap (λ (r : ℕ × ℕ). r.0) (some-injective q p e)) in omega
    arith
has_member (q ∷ ps) (suc n) p e = let r = has_member ps n p e in omega arith

pub member_at : (x : ℕ) (held : List (ℕ × ℕ)) → Has x held
    → (n : ℕ) × (p : ℕ × ℕ) × (get_elem? held n ≡ some p) × (p.0 ≡ x)
member_at x [] has = absurd (omega arith)
member_at x (q ∷ ps) has = elim (cases_eq q.0 x) [
  | inl same ↦ (zero, q, refl, same)
  | inr other ↦ (
      let none : one_if (q.0 == x) ≡ 0 = miss q.0 x other in
      let r = member_at x ps (omega arith) in
      (suc r.0, r.1, r.2, r.3)
      )
]

-- ---- picked numbers

module _ (keep : ℕ → Bool) (base : ℕ) (kind : ℕ → ℕ) where
  out_at : (x s : ℕ) (rest : List (ℕ × ℕ)) → base + s ≢ x → held_times x rest ≡ 0 → (b : Bool)
      → held_times x (cond b ((base + s, kind s) ∷ rest) rest) ≡ 0
  out_at x s rest apart r true = omega (arith, r, miss (base + s) x apart)
  out_at x s rest apart r false = r

  pub held_times_out : (n x : ℕ) → ((r : ℕ) → r < n → base + r ≢ x)
      → held_times x (picks n keep base kind) ≡ 0
  unfolding picks
  held_times_out zero x apart = refl
  held_times_out (suc n) x apart =
      out_at x n _ (apart n (omega arith)) (held_times_out n x (λ r lt. apart r (omega arith))) (keep n)

  here_at : (s : ℕ) (rest : List (ℕ × ℕ)) → held_times (base + s) rest ≡ 0 → (b : Bool)
      → held_times (base + s) (cond b ((base + s, kind s) ∷ rest) rest) ≡ one_if b
  here_at s rest r true = omega (arith, r, hit (base + s) (base + s) refl)
  here_at s rest r false = r

  above_at : (r s m : ℕ) (rest : List (ℕ × ℕ)) → r ≢ s → held_times (base + r) rest ≡ m → (b : Bool)
      → held_times (base + r) (cond b ((base + s, kind s) ∷ rest) rest) ≡ m
  above_at r s m rest apart e true = omega (
    arith,
    e,
    miss (base + s) (base + r) (λ same. apart (omega arith)),
  )
  above_at r s m rest apart e false = e

  pub held_times_picks : (n r : ℕ) → r < n → held_times (base + r) (picks n keep base kind) ≡ one_if (keep r)
  unfolding picks
  held_times_picks zero r lt = absurd (omega arith)
  held_times_picks (suc n) r lt = elim (cases_eq r n) [
    | inl same ↦
        subst (λ s. held_times (base + s) (picks (suc n) keep base kind) ≡ one_if (keep s)) (sym same)
        (here_at n _ (held_times_out n (base + n) (λ s below e. omega arith)) (keep n))
    | inr other ↦ above_at r n _ _ other (held_times_picks n r (omega arith)) (keep n)
  ]

-- ---- what holds of each

module _ (P : ℕ × ℕ → Type 0) where
  pub every_cons : (p : ℕ × ℕ) (ps : List (ℕ × ℕ)) → P p → Every P ps → Every P (p ∷ ps)
  every_cons p ps h rest zero q e = subst P (some-injective p q e) h
  every_cons p ps h rest (suc n) q e = rest n q e

  pub every_append : (xs ys : List (ℕ × ℕ)) → Every P xs → Every P ys → Every P (xs ++ ys)
  every_append [] ys a b = b
  every_append (x ∷ xs) ys a b = every_cons x (xs ++ ys) (a zero x refl)
      (every_append xs ys (λ n. a (suc n)) b)

  cond_each : (b : Bool) (p : ℕ × ℕ) (ps : List (ℕ × ℕ)) → (b ≡ true → P p) → Every P ps
      → Every P (cond b (p ∷ ps) ps)
  cond_each true p ps h rest = every_cons p ps (h refl) rest
  cond_each false p ps h rest = rest

  pub every_filter : (keep : ℕ × ℕ → Bool) (held : List (ℕ × ℕ)) → Every P held → Every P (filter keep held)
  every_filter keep [] h = h
  every_filter keep (p ∷ ps) h =
      cond_each (keep p) p _ (λ _. h zero p refl) (every_filter keep ps (λ n. h (suc n)))

  pub every_picks : (n : ℕ) (keep : ℕ → Bool) (base : ℕ) (kind : ℕ → ℕ)
      → ((r : ℕ) → r < n → keep r ≡ true → P (base + r, kind r)) → Every P (picks n keep base kind)
  unfolding picks
  every_picks zero keep base kind h = λ n p e. absurd (some-ne-none p (sym e))
  every_picks (suc n) keep base kind h =
      cond_each (keep n) _ _ (h n (omega arith)) (every_picks n keep base kind (λ r lt. h r (omega arith)))

  pub every_naming : (b k : ℕ) (held : List (ℕ × ℕ)) → Every (λ p. P (named_by b k p)) held
      → Every P (naming b k held)
  every_naming b k [] h = λ n p e. absurd (some-ne-none p (sym e))
  every_naming b k (p ∷ ps) h = every_cons (named_by b k p) _ (h zero p refl)
      (every_naming b k ps (λ n. h (suc n)))
