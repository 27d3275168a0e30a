-- Chains in their order, as nodes are put at their ends.
use Rattle.std.proofs.Common.{◌≡◌, ℕ, ◌≤◌, List, [], ◌∷◌, ◌++◌, length, refl, sym, ap, ◌∙◌, subst, arith, ⊎_elim, inl, inr}
use Rattle.std.proofs.lemmas.List.{length_push}
use Rattle.hd_walk.specs.Chains.{IsWalk}
use Rattle.hd_walk.proofs.LeastChains.{IsEarlier, IsLess, IsNoLater}

-- one node more at the end of a chain
pub walk_push : {Leads : ℕ → ℕ → Type 0} {goal x z : ℕ} {rest : List ℕ} → IsWalk Leads goal x rest
    → Leads goal z → IsWalk Leads z x (rest ++ z ∷ [])
walk_push IsWalk.arrived edge = IsWalk.onward edge IsWalk.arrived
walk_push (IsWalk.onward leads walk) edge = IsWalk.onward leads (walk_push walk edge)

module _ {Less : ℕ → ℕ → Type 0} where
  push_less : (x y : ℕ) {xs ys : List ℕ} → IsLess Less xs ys → IsLess Less (xs ++ x ∷ []) (ys ++ y ∷ [])
  push_less x y (IsLess.less l) = IsLess.less l
  push_less x y (IsLess.same e rest) = IsLess.same e (push_less x y rest)

  last_less : (x y : ℕ) → Less x y → (xs : List ℕ) → IsLess Less (xs ++ x ∷ []) (xs ++ y ∷ [])
  last_less x y l [] = IsLess.less l
  last_less x y l (z ∷ zs) = IsLess.same refl (last_less x y l zs)

module _ (First Less : ℕ → ℕ → Type 0) where
  pub push_earlier : {f g : ℕ} (x y : ℕ) (xs ys : List ℕ) → IsEarlier First Less f xs g ys
      → IsEarlier First Less f (xs ++ x ∷ []) g (ys ++ y ∷ [])
  push_earlier x y xs ys =
      let a = length_push xs x in
      let b = length_push ys y in
      ⊎_elim (λ shorter. inl (omega arith))
      (λ r. let e = r.0 in
      inr (omega arith, ⊎_elim inl (λ s. inr (s.0, push_less x y s.1)) r.1))

  pub push_last : {f g : ℕ} (x y : ℕ) (xs ys : List ℕ) → f ≡ g → xs ≡ ys → Less x y
      → IsEarlier First Less f (xs ++ x ∷ []) g (ys ++ y ∷ [])
  push_last {f = f} x y xs ys same_first same l =
      let a = length_push xs x in
      let b = length_push ys y in
      let long = ap length same in
      inr (
        omega arith,
        inr (
          same_first,
          subst (λ zs. IsLess Less (xs ++ x ∷ []) (zs ++ y ∷ [])) same (last_less x y l xs),
        ),
      )

  pub push_no_later : {f g : ℕ} (x : ℕ) (xs ys : List ℕ) → IsNoLater First Less f xs g ys
      → IsNoLater First Less f (xs ++ x ∷ []) g (ys ++ x ∷ [])
  push_no_later x xs ys =
      ⊎_elim (λ before. inl (push_earlier x x xs ys before))
      (λ same. inr (same.0, ap (λ zs. zs ++ x ∷ []) same.1))

  -- a chain is earlier than a longer one
  no_longer : {f g : ℕ} (xs ys : List ℕ) → IsNoLater First Less f xs g ys → length xs ≤ length ys
  no_longer xs ys =
      ⊎_elim (⊎_elim (λ shorter. omega arith) (λ r. let e = r.0 in omega arith))
      (λ same. let e = ap length same.1 in omega arith)

  pub longer : {f g : ℕ} (y : ℕ) (xs ys : List ℕ) → IsNoLater First Less f xs g ys
      → IsNoLater First Less f xs g (ys ++ y ∷ [])
  longer y xs ys le = let a = no_longer xs ys le in let b = length_push ys y in inl (inl (omega arith))

  module _ (first_on : (x y z : ℕ) → First x y → First y z → First x z)
      (less_on : (x y z : ℕ) → Less x y → Less y z → Less x z) where
    less_trans : {xs ys zs : List ℕ} → IsLess Less xs ys → IsLess Less ys zs → IsLess Less xs zs
    less_trans (IsLess.less {x = x} {y = y} l) (IsLess.less {y = z} m) = IsLess.less (less_on x y z l m)
    less_trans (IsLess.less {x = x} l) (IsLess.same e n) = IsLess.less (subst (λ z. Less x z) e l)
    less_trans (IsLess.same e n) (IsLess.less {y = z} m) = IsLess.less (subst (λ w. Less w z) (sym e) m)
    less_trans (IsLess.same e n) (IsLess.same d m) = IsLess.same (e ∙ d) (less_trans n m)

    pub earlier_on : {f g h : ℕ} (xs ys zs : List ℕ) → IsEarlier First Less f xs g ys
        → IsEarlier First Less g ys h zs → IsEarlier First Less f xs h zs
    earlier_on {f = f} {g = g} {h = h} xs ys zs =
        ⊎_elim
        (λ a. ⊎_elim (λ b. inl (omega arith)) (λ q. let e = q.0 in inl (omega arith)))
        (λ p. let d = p.0 in
        ⊎_elim (λ b. inl (omega arith))
        (λ q. let e = q.0 in
        inr (
          omega arith,
          ⊎_elim
              (λ k. ⊎_elim (λ l. inl (first_on f g h k l)) (λ m. inl (subst (λ w. First f w) m.0 k)) q.1)
              (λ k. ⊎_elim (λ l. inl (subst (λ w. First w h) (sym k.0) l))
              (λ m. inr (k.0 ∙ m.0, less_trans k.1 m.1)) q.1) p.1,
        )))

    pub no_later_on : {f g h : ℕ} (xs ys zs : List ℕ) → IsNoLater First Less f xs g ys
        → IsNoLater First Less g ys h zs → IsNoLater First Less f xs h zs
    no_later_on {f = f} {g = g} {h = h} xs ys zs =
        ⊎_elim
        (λ a. ⊎_elim (λ b. inl (earlier_on xs ys zs a b))
        (λ same. inl (subst (λ w. IsEarlier First Less f xs w zs) same.0
        (subst (λ ws. IsEarlier First Less f xs g ws) same.1 a))))
        (λ same.
        ⊎_elim
        (λ b. inl (subst (λ w. IsEarlier First Less w xs h zs) (sym same.0)
        (subst (λ ws. IsEarlier First Less g ws h zs) (sym same.1) b)))
        (λ rest. inr (same.0 ∙ rest.0, same.1 ∙ rest.1)))
