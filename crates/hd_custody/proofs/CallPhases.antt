-- A call, step by step: the phase that each step leads to, and the slots held after it.
use Rattle.hd_custody.proofs.Basics.{Acting, Bool, Did, List, Made, Phase, [], ap, append-nil, append_assoc, arith, cond, cond-false, cond-true, eq-eqb, false, follow, found, found_or, is_step, le-ltb, lt-ltb, nat_lt, ne_eqb, next_phase, refl, suc, sym, true, went, with_view, wrong, zero, ℕ, ◌&&◌, ◌++◌, ◌<◌, ◌==◌, ◌∙◌, ◌∷◌, ◌≡◌, ◌≢◌, ◌≤◌}
use Rattle.std.specs.Bool.{OnTrue, OnFalse}

-- the step that is due
pub due : (i y z : ℕ) (p : Phase) → is_step (i, y, z) i z p ≡ p
due i y z p = ap (λ b. cond (b && (z == z)) p wrong) (eq-eqb i i refl)
    ∙ ap (λ b. cond b p wrong) (eq-eqb z z refl)

pub if_true : (b : Bool) (P : Type 0) → b ≡ true → OnTrue b P → P
if_true true P e h = h
if_true false P e h = cc

pub if_false : (b : Bool) (P : Type 0) → b ≡ false → OnFalse b P → P
if_false true P e h = cc
if_false false P e h = h

pub zero_is : {A : Type 0} (n : ℕ) (x y : A) → n ≡ 0 → cond (n == 0) x y ≡ x
zero_is n x y e = cond-true (n == 0) x y (eq-eqb n 0 e)

pub zero_not : {A : Type 0} (n : ℕ) (x y : A) → n ≢ 0 → cond (n == 0) x y ≡ y
zero_not n x y e = cond-false (n == 0) x y (ne_eqb n 0 e)

pub same_is : {A : Type 0} (m n : ℕ) (x y : A) → m ≡ n → cond (m == n) x y ≡ x
same_is m n x y e = cond-true (m == n) x y (eq-eqb m n e)

pub same_not : {A : Type 0} (m n : ℕ) (x y : A) → m ≢ n → cond (m == n) x y ≡ y
same_not m n x y e = cond-false (m == n) x y (ne_eqb m n e)

pub less_is : {A : Type 0} (m n : ℕ) (x y : A) → m < n → cond (nat_lt m n) x y ≡ x
less_is m n x y e = cond-true (nat_lt m n) x y (lt-ltb m n e)

pub less_not : {A : Type 0} (m n : ℕ) (x y : A) → n ≤ m → cond (nat_lt m n) x y ≡ y
less_not m n x y e = cond-false (nat_lt m n) x y (le-ltb m n e)

pub found_or_none : (p : Phase) (x : ℕ) → x ≡ 0 → found_or p x ≡ p
found_or_none p x e = ap (found_or p) e

pub found_or_some : (p : Phase) (x : ℕ) → x ≢ 0 → found_or p x ≡ found x
found_or_some p zero e = absurd (e refl)
found_or_some p (suc x) e = refl

pub found_or_cond : (p : Phase) (x : ℕ) → cond (x == 0) p (found x) ≡ found_or p x
found_or_cond p zero = refl
found_or_cond p (suc x) = zero_not (suc x) p (found (suc x)) (λ e. omega arith)

pub follow_append : (k blocks : ℕ) (p : Phase) (ts us : List Did)
    → follow k blocks p (ts ++ us) ≡ follow k blocks (follow k blocks p ts) us
follow_append k blocks p [] us = refl
follow_append k blocks p (t ∷ ts) us = follow_append k blocks (next_phase k blocks p t) ts us

module _ {W : Type 0} {k blocks : ℕ} where
  -- no step
  pub made_none : (p : Phase) (a : Acting W) → Made k blocks p p a.view.held a a
  made_none p a = record {
    steps = [];
    only = ap (λ t. with_view (record a.view { trace = t }) a) (sym (append-nil a.view.trace));
    lead = refl;
  }

  -- one step
  pub one_step : {p q : Phase} {held : List (ℕ × ℕ)} {a b : Acting W} (e : Did) → b ≡ went held (e ∷ []) a
      → next_phase k blocks p e ≡ q → Made k blocks p q held a b
  one_step e is next = record { steps = e ∷ []; only = is; lead = next }

  -- the same, seen otherwise
  pub seen_as : {p q q' : Phase} {h h' : List (ℕ × ℕ)} {a b : Acting W} → Made k blocks p q h a b → h ≡ h'
      → q ≡ q' → Made k blocks p q' h' a b
  seen_as {p} {q} {q'} {h} {h'} {a} so held next = record {
    steps = so.steps;
    only = so.only ∙ ap (λ h. went h so.steps a) held;
    lead = so.lead ∙ next;
  }

  pub from_phase : {p p' q : Phase} {h : List (ℕ × ℕ)} {a b : Acting W} → Made k blocks p q h a b → p' ≡ p
      → Made k blocks p' q h a b
  from_phase so same = record {
    steps = so.steps;
    only = so.only;
    lead = ap (λ p. follow k blocks p so.steps) same ∙ so.lead;
  }

  pub held_is : {p q : Phase} {h : List (ℕ × ℕ)} {a b : Acting W} → Made k blocks p q h a b → b.view.held ≡ h
  held_is so = ap (λ (x : Acting W). x.view.held) so.only

  pub table_is : {p q : Phase} {h : List (ℕ × ℕ)} {a b : Acting W} → Made k blocks p q h a b
      → b.table ≡ a.table
  table_is so = ap (λ (x : Acting W). x.table) so.only

  -- some steps more
  pub and_then : {p q r : Phase} {h h' : List (ℕ × ℕ)} {a b c : Acting W} → Made k blocks p q h a b
      → Made k blocks q r h' b c → Made k blocks p r h' a c
  and_then {p} {q} {r} {h} {h'} {a} so more = record {
    steps = so.steps ++ more.steps;
    only = more.only ∙ ap (went h' more.steps) so.only
        ∙ ap (λ t. with_view (record a.view { held = h'; trace = t }) a)
        (append_assoc a.view.trace so.steps more.steps);
    lead = follow_append k blocks p so.steps more.steps
        ∙ ap (λ q. follow k blocks q more.steps) so.lead ∙ more.lead;
  }

  -- some steps more, which leave a list of what was held
  pub then_as : {p q r : Phase} {h : List (ℕ × ℕ)} {a b c : Acting W} (f : List (ℕ × ℕ) → List (ℕ × ℕ))
      → Made k blocks p q h a b → Made k blocks q r (f b.view.held) b c → Made k blocks p r (f h) a c
  then_as f so more = seen_as (and_then so more) (ap f (held_is so)) refl
