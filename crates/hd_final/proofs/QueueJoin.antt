-- What is promoted grows by one member of a list after another.
use Rattle.hd_final.proofs.Basics.{Addr, Bool, Contains, Contains-append_left, Contains-push, Contains-push_cases, Grows, Joiner, List, [], ap, append_assoc, get_or, grows_like, grows_on, inl, inr, length, map_more, addresses, subst, sym, take, ℕ, ⊎_elim, ◌++◌, ◌+◌, ◌<◌, ◌∙◌, ◌∷◌, ◌≡◌, ◌⊎◌}

pub addresses_more : (js : List Joiner) (i : ℕ) (d : Joiner) → i < length js
    → addresses (take (i + 1) js) ≡ addresses (take i js) ++ (get_or js i d).at ∷ []
addresses_more js i d low = map_more (λ (j : Joiner). j.at) js i d low

-- the queued addresses, with one more after them
pub beyond : (queued start : List Addr) (js : List Joiner) (i : ℕ) (d : Joiner) → i < length js
    → queued ≡ start ++ addresses (take i js)
    → queued ++ (get_or js i d).at ∷ [] ≡ start ++ addresses (take (i + 1) js)
beyond queued start js i d low is =
    ap (λ xs. xs ++ (get_or js i d).at ∷ []) is
    ∙ append_assoc start (addresses (take i js)) ((get_or js i d).at ∷ [])
    ∙ ap (λ xs. start ++ xs) (sym (addresses_more js i d low))

module _ {N : Type 0} (E : N → N → Type 0) (done : List N) (x : N) (p q r : N → Bool) where
  pub grown_more : Grows E (λ a. Contains done a) p q → Grows E (λ a. a ≡ x) q r
      → Grows E (λ a. Contains (done ++ x ∷ []) a) p r
  grown_more before now =
      grows_like E (λ a. Contains done a ⊎ (a ≡ x)) (λ a. Contains (done ++ x ∷ []) a) p r
      (λ a. ⊎_elim (λ h. Contains-append_left done (x ∷ []) a h)
      (λ e. subst (λ z. Contains (done ++ x ∷ []) z) (sym e) (Contains-push done x)))
      (λ a h. ⊎_elim (λ k. inl k) (λ e. inr (sym e)) (Contains-push_cases done x a h))
      (grows_on E (λ a. Contains done a) (λ a. a ≡ x) p q r before now)
