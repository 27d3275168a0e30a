-- Two nodes exchange their next ones: the rings stay rings.
use Rattle.hd_cwt.proofs.Basics.{IsRings, List, ap, arith, cases_eq, exchanged, get_or-set_other, get_or-set_same, inl, inr, length, length-set, node_at, refl, set, subst, sym, turned, ℕ, ◌<◌, ◌∙◌, ◌≡◌, ◌≢◌}

-- what is read after two writes
module _ (xs : List ℕ) (a u b v : ℕ) (la : a < length xs) (lb : b < length xs) where
  pub twice_long : length (set (set xs a u) b v) ≡ length xs
  twice_long = length-set (set xs a u) b v ∙ length-set xs a u

  pub second : node_at (set (set xs a u) b v) b ≡ v
  second =
      let long : length (set xs a u) ≡ length xs = length-set xs a u in
      get_or-set_same (set xs a u) b v 0 (omega arith)

  pub first : a ≢ b → node_at (set (set xs a u) b v) a ≡ u
  first apart = get_or-set_other (set xs a u) b a v 0 apart ∙ get_or-set_same xs a u 0 la

  pub other : (z : ℕ) → z ≢ a → z ≢ b → node_at (set (set xs a u) b v) z ≡ node_at xs z
  other z not_a not_b = get_or-set_other (set xs a u) b z v 0 not_b ∙ get_or-set_other xs a z u 0 not_a

  pub twice_cases : (P : ℕ → Type 0) (z : ℕ) → (z ≡ b → P v) → (z ≢ b → z ≡ a → P u)
      → (z ≢ b → z ≢ a → P (node_at xs z)) → P (node_at (set (set xs a u) b v) z)
  twice_cases P z at_b at_a beside =
      elim (cases_eq z b) [
        | inl e ↦ subst P (sym (ap (node_at (set (set xs a u) b v)) e ∙ second)) (at_b e)
        | inr n ↦ elim (cases_eq z a) [
          | inl e ↦ subst P (sym (ap (node_at (set (set xs a u) b v)) e ∙ first (λ s. n (e ∙ s)))) (at_a n e)
          | inr m ↦ subst P (sym (other z m n)) (beside n m)
        ]
      ]

-- one direction of the exchange undoes the other
module _ (f g : List ℕ) (a b x y : ℕ) (la : a < length f) (lb : b < length f) (lx : x < length g)
    (ly : y < length g) (fa : node_at f a ≡ x) (fb : node_at f b ≡ y) (ga : node_at g x ≡ a)
    (gb : node_at g y ≡ b) where
  undone : ((z : ℕ) → z < length f → node_at g (node_at f z) ≡ z) → (z : ℕ) → z < length f
      → node_at (set (set g y a) x b) (node_at (set (set f a y) b x) z) ≡ z
  undone back z lz =
      twice_cases f a y b x la lb (λ w. node_at (set (set g y a) x b) w ≡ z) z
      (λ e. second g y a x b ly lx ∙ sym e)
      (λ n e. first g y a x b ly lx (λ same. n (e ∙ sym ga ∙ sym (ap (node_at g) same) ∙ gb)) ∙ sym e)
      (λ n m. other g y a x b ly lx (node_at f z)
      (λ same. n (sym (back z lz) ∙ ap (node_at g) same ∙ gb))
      (λ same. m (sym (back z lz) ∙ ap (node_at g) same ∙ ga)) ∙ back z lz)

module _ (next previous : List ℕ) (is : IsRings next previous) (a b : ℕ) (la : a < length next)
    (lb : b < length next) where
  lx : node_at next a < length previous
  lx = omega (arith, is.within a la, is.size)

  ly : node_at next b < length previous
  ly = omega (arith, is.within b lb, is.size)

  pub long : length (exchanged next a b) ≡ length next
  long = twice_long next a (node_at next b) b (node_at next a) la lb

  pub rings : IsRings (exchanged next a b) (turned next previous a b)
  rings = record {
    size = twice_long previous (node_at next b) a (node_at next a) b ly lx ∙ is.size ∙ sym long;
    within = λ z lz.
        let wide : z < length next = omega (arith, lz, long) in
        let low : node_at (exchanged next a b) z < length next =
        twice_cases next a (node_at next b) b (node_at next a) la lb (λ w. w < length next) z
        (λ _. is.within a la) (λ _ _. is.within b lb) (λ _ _. is.within z wide) in
        omega (arith, low, long);
    back_within = λ z lz.
        let wide : z < length next = omega (arith, lz, long) in
        let low : node_at (turned next previous a b) z < length next =
        twice_cases previous (node_at next b) a (node_at next a) b ly lx (λ w. w < length next) z
        (λ _. lb) (λ _ _. la) (λ _ _. is.back_within z wide) in
        omega (arith, low, long);
    ahead = λ z lz.
        undone next previous a b (node_at next a) (node_at next b) la lb lx ly refl refl (is.ahead a la)
        (is.ahead b lb) is.ahead z (omega (arith, lz, long));
    behind = λ z lz. undone previous next (node_at next b) (node_at next a) b a ly lx lb la (is.ahead b lb)
        (is.ahead a la) refl refl (λ w lw. is.behind w (omega (arith, lw, is.size))) z
        (omega (arith, lz, long, is.size));
  }
