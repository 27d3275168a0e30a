-- The ring of a bucket, where a slot joins it or leaves it.
use Rattle.hd_cwt.proofs.Basics.{Contains, IsWalk, List, [], ap, cases_eq, cond, eq-eqb, filter, first_in, inl, inr, later_in, ne_eqb, node_at, not, refl, subst, sym, true, ℕ, ⊎_elim, ◌<◌, ◌==◌, ◌∙◌, ◌∷◌, ◌≡◌, ◌≢◌, ◌⊎◌}

-- all but one
abbrev pub without : ℕ → List ℕ → List ℕ
without s xs = filter (λ z. not (z == s)) xs

pub is_beside : (z s : ℕ) → z ≢ s → not (z == s) ≡ true
is_beside z s n = ap not (ne_eqb z s n)

kept : (z s : ℕ) (zs : List ℕ) → z ≢ s → without s (z ∷ zs) ≡ z ∷ without s zs
kept z s zs n = ap (λ b. cond b (z ∷ without s zs) (without s zs)) (is_beside z s n)

left_out : (z s : ℕ) (zs : List ℕ) → z ≡ s → without s (z ∷ zs) ≡ without s zs
left_out z s zs e = ap (λ b. cond (not b) (z ∷ without s zs) (without s zs)) (eq-eqb z s e)

-- a walk none of whose nodes changed
pub walk_kept : (next new : List ℕ) (e x : ℕ) (l : List ℕ)
    → ((z : ℕ) → (z ≡ x) ⊎ Contains l z → node_at new z ≡ node_at next z) → IsWalk next x l e
    → IsWalk new x l e
walk_kept next new e x [] same w = same x (inl refl) ∙ w
walk_kept next new e x (s ∷ ss) same w = (
  same x (inl refl) ∙ w.0,
  walk_kept next new e s ss
      (λ z h. same z (inr (⊎_elim (λ e. subst (Contains (s ∷ ss)) (sym e) (first_in s ss))
      (λ later. later_in s ss z later) h)))
      w.1,
)

-- a slot that was alone comes first
pub walk_joined : (next new : List ℕ) (e s : ℕ) (l : List ℕ) → node_at new e ≡ s
    → node_at new s ≡ node_at next e
    → ((z : ℕ) → Contains l z → node_at new z ≡ node_at next z) → IsWalk next e l e → IsWalk new e (s ∷ l) e
walk_joined next new e s [] at_end at_slot same w = (at_end, at_slot ∙ w)
walk_joined next new e s (y ∷ ys) at_end at_slot same w = (
  at_end,
  (
    at_slot ∙ w.0,
    walk_kept next new e y ys
        (λ z h. same z (⊎_elim (λ e. subst (Contains (y ∷ ys)) (sym e) (first_in y ys))
        (λ later. later_in y ys z later) h))
        w.1,
  ),
)

-- a slot s leaves, whose previous node is p, of n nodes
module _ (next new : List ℕ) (n e s p : ℕ) (low : s < n) (not_end : e ≢ s)
    (unchanged : (z : ℕ) → z ≢ p → z ≢ s → node_at new z ≡ node_at next z)
    (at_previous : p ≢ s → node_at new p ≡ node_at next s) (before : node_at next p ≡ s)
    (only : (z : ℕ) → z < n → node_at next z ≡ s → z ≡ p) where
  -- x is the last node that is kept, and q is it or the slot that leaves
  pub walk_left : (l : List ℕ) (x q : ℕ) → x < n → ((z : ℕ) → Contains l z → z < n) → x ≢ s
      → (q ≡ x) ⊎ ((q ≡ s) × (x ≡ p)) → IsWalk next q l e → IsWalk new x (without s l) e
  walk_left [] x q lx within m (inl same) w =
      unchanged x (λ is_p. not_end (sym w ∙ ap (node_at next) (same ∙ is_p) ∙ before)) m
      ∙ ap (node_at next) (sym same) ∙ w
  walk_left [] x q lx within m (inr at) w =
      ap (node_at new) at.1 ∙ at_previous (λ p_s. m (at.1 ∙ p_s)) ∙ ap (node_at next) (sym at.0) ∙ w
  walk_left (y ∷ ys) x q lx within m (inl same) w =
      elim (cases_eq y s) [
        | inl is_s ↦ subst (λ l. IsWalk new x l e) (sym (left_out y s ys is_s))
            (walk_left ys x y lx (λ z h. within z (later_in y ys z h)) m
            (inr (is_s, only x lx (ap (node_at next) (sym same) ∙ w.0 ∙ is_s))) w.1)
        | inr apart ↦ subst (λ l. IsWalk new x l e) (sym (kept y s ys apart)) (
          unchanged x (λ is_p. apart (sym w.0 ∙ ap (node_at next) (same ∙ is_p) ∙ before)) m
              ∙ ap (node_at next) (sym same) ∙ w.0,
          walk_left ys y y (within y (first_in y ys)) (λ z h. within z (later_in y ys z h)) apart
              (inl refl) w.1,
        )
      ]
  walk_left (y ∷ ys) x q lx within m (inr at) w =
      let apart : y ≢ s = λ y_s. m (at.1 ∙ sym (only s low (ap (node_at next) (sym at.0) ∙ w.0 ∙ y_s))) in
      subst (λ l. IsWalk new x l e) (sym (kept y s ys apart)) (
        ap (node_at new) at.1 ∙ at_previous (λ p_s. m (at.1 ∙ p_s)) ∙ ap (node_at next) (sym at.0) ∙ w.0,
        walk_left ys y y (within y (first_in y ys)) (λ z h. within z (later_in y ys z h)) apart
            (inl refl) w.1,
      )
