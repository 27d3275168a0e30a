-- What is read in a list or a map after a write.
use Rattle.hd_model.proofs.Basics.{FinMap, IsSome, List, None, Option, Some, [], ap, arith, cases_eq, cond, empty_of_len, eq_by_cmp, false, get, get-empty, get-insert, get-remove, get_or, get_or-set_same, inl, inr, insert, is_some, len, len-insert, len-remove, length, length-set, nat_cmp, nat_cmp_total, nat_tests, none-some, refl, remove, replicate, same_Some, set, subst, suc, sym, true, true≢false, zero, ℕ, ⊎_elim, ◌+◌, ◌-◌, ◌<◌, ◌∙◌, ◌∷◌, ◌≡◌, ◌≢◌, ◌⊎◌}

-- what holds of the new element and of what was there holds of what is there
pub set_cases : {A : Type 0} (P : A → Type 0) (xs : List A) (i j : ℕ) (a d : A) → (j ≡ i → P a)
    → P (get_or xs j d) → P (get_or (set xs i a) j d)
set_cases P [] i j a d new old = old
set_cases P (x ∷ xs) zero zero a d new old = new (λ i. zero)
set_cases P (x ∷ xs) zero (suc j) a d new old = old
set_cases P (x ∷ xs) (suc i) zero a d new old = old
set_cases P (x ∷ xs) (suc i) (suc j) a d new old = set_cases P xs i j a d (λ e. new (ap suc e)) old

-- so too of a cell of a list of rows
pub cell_cases : {A : Type 0} (P : A → Type 0) (rows : List (List A)) (c d i j : ℕ) (v e : A)
    → (i ≡ c → j ≡ d → P v) → P (get_or (get_or rows i []) j e)
    → P (get_or (get_or (set rows c (set (get_or rows c []) d v)) i []) j e)
cell_cases P rows c d i j v e new old =
    set_cases (λ row. P (get_or row j e)) rows c i (set (get_or rows c []) d v) []
    (λ same. set_cases P (get_or rows c []) d j v e (new same)
    (subst (λ k. P (get_or (get_or rows k []) j e)) same old)) old

-- a cell that was written
pub cell_here : {A : Type 0} (rows : List (List A)) (c d : ℕ) (v e : A) → c < length rows
    → d < length (get_or rows c []) → get_or (get_or (set rows c (set (get_or rows c []) d v)) c []) d e ≡ v
cell_here rows c d v e row cell =
    ap (λ r. get_or r d e) (get_or-set_same rows c (set (get_or rows c []) d v) [] row)
    ∙ get_or-set_same (get_or rows c []) d v e cell

-- each row keeps its length
pub rows_keep : {A : Type 0} (rows : List (List A)) (c d k : ℕ) (v : A)
    → length (get_or (set rows c (set (get_or rows c []) d v)) k []) ≡ length (get_or rows k [])
rows_keep rows c d k v =
    set_cases (λ row. length row ≡ length (get_or rows k [])) rows c k (set (get_or rows c []) d v) []
    (λ same. length-set (get_or rows c []) d v ∙ ap (λ i. length (get_or rows i [])) (sym same)) refl

-- what holds of the repeated element and of the one past the end holds of each
pub replicate_cases : {A : Type 0} (P : A → Type 0) (n i : ℕ) (a d : A) → P a → P d
    → P (get_or (replicate n a) i d)
replicate_cases P zero i a d here past = past
replicate_cases P (suc n) zero a d here past = here
replicate_cases P (suc n) (suc i) a d here past = replicate_cases P n i a d here past

tied : (k : ℕ) → eq_by_cmp nat_cmp k k ≡ true
tied k = grind (arith, nat_tests)

apart : (q k : ℕ) → q ≢ k → eq_by_cmp nat_cmp q k ≡ false
apart q k ne = grind (arith, nat_tests)

module _ {X : Type 0} (m : FinMap nat_cmp X) (k : ℕ) where
  pub get_inserted : (v : X) → get (insert m k v) k ≡ Some v
  get_inserted v = get-insert nat_cmp_total m k v k ∙ ap (λ b. cond b (Some v) (get m k)) (tied k)

  pub get_beside : (v : X) (q : ℕ) → q ≢ k → get (insert m k v) q ≡ get m q
  get_beside v q ne = get-insert nat_cmp_total m k v q ∙ ap (λ b. cond b (Some v) (get m q)) (apart q k ne)

  pub get_removed : get (remove m k) k ≡ None
  get_removed = get-remove nat_cmp_total m k k ∙ ap (λ b. cond b None (get m k)) (tied k)

  pub get_left : (q : ℕ) → q ≢ k → get (remove m k) q ≡ get m q
  get_left q ne = get-remove nat_cmp_total m k q ∙ ap (λ b. cond b None (get m q)) (apart q k ne)

  -- what holds of the new value at its key, and of what each other key has
  pub insert_cases : (P : ℕ → Option X → Type 0) (v : X) (q : ℕ) → P k (Some v) → (q ≢ k → P q (get m q))
      → P q (get (insert m k v) q)
  insert_cases P v q new old =
      ⊎_elim (λ e. subst (λ j. P j (get (insert m k v) j)) (sym e) (subst (P k) (sym (get_inserted v)) new))
      (λ ne. subst (P q) (sym (get_beside v q ne)) (old ne)) (cases_eq q k)

  pub remove_cases : (P : ℕ → Option X → Type 0) (q : ℕ) → P k None → (q ≢ k → P q (get m q))
      → P q (get (remove m k) q)
  remove_cases P q new old =
      ⊎_elim (λ e. subst (λ j. P j (get (remove m k) j)) (sym e) (subst (P k) (sym get_removed) new))
      (λ ne. subst (P q) (sym (get_left q ne)) (old ne)) (cases_eq q k)

  -- the same at one key
  pub write_cases : (P : Option X → Type 0) (v : X) (q : ℕ) → (q ≡ k → P (Some v)) → P (get m q)
      → P (get (insert m k v) q)
  write_cases P v q new old =
      ⊎_elim (λ e. subst P (sym (ap (get (insert m k v)) e ∙ get_inserted v)) (new e))
      (λ ne. subst P (sym (get_beside v q ne)) old) (cases_eq q k)

  pub removal_cases : (P : Option X → Type 0) (q : ℕ) → (q ≡ k → P None) → P (get m q)
      → P (get (remove m k) q)
  removal_cases P q gone old =
      ⊎_elim (λ e. subst P (sym (ap (get (remove m k)) e ∙ get_removed)) (gone e))
      (λ ne. subst P (sym (get_left q ne)) old) (cases_eq q k)

  pub insert_all : (P : ℕ → X → Type 0) (v : X) → P k v → ((q : ℕ) (x : X) → get m q ≡ Some x → P q x)
      → (q : ℕ) (x : X) → get (insert m k v) q ≡ Some x → P q x
  insert_all P v new old q x =
      insert_cases (λ j o. o ≡ Some x → P j x) v q (λ e. subst (P k) (same_Some v x e) new) (λ ne. old q x)

  -- what is found after a write was there, or is what was written
  pub inserted_from : (v : X) (q : ℕ) (x : X) → get (insert m k v) q ≡ Some x
      → (get m q ≡ Some x) ⊎ ((q ≡ k) × (v ≡ x))
  inserted_from v q x =
      insert_cases (λ j o. o ≡ Some x → (get m j ≡ Some x) ⊎ ((j ≡ k) × (v ≡ x))) v q
      (λ e. inr (refl, same_Some v x e)) (λ _ e. inl e)

  pub remove_all : (P : ℕ → X → Type 0) → ((q : ℕ) (x : X) → get m q ≡ Some x → P q x) → (q : ℕ) (x : X)
      → get (remove m k) q ≡ Some x → P q x
  remove_all P old q x = remove_cases (λ j o. o ≡ Some x → P j x) q (λ e. absurd (none-some x e))
      (λ ne. old q x)

  -- a key that had a value has one still
  pub still_some : (v : X) (q : ℕ) → IsSome (get m q) → IsSome (get (insert m k v) q)
  still_some v q h = insert_cases (λ _ o. IsSome o) v q (λ i. true) (λ ne. h)

  pub some_cases : (P : ℕ → Type 0) (v : X) → P k → ((q : ℕ) → IsSome (get m q) → P q) → (q : ℕ)
      → IsSome (get (insert m k v) q) → P q
  some_cases P v new old q = insert_cases (λ j o. IsSome o → P j) v q (λ _. new) (λ ne. old q)

  pub len_new : (v : X) → get m k ≡ None → len (insert m k v) ≡ len m + 1
  len_new v none = len-insert nat_cmp_total m k v ∙ ap (λ o. cond (is_some o) (len m) (len m + 1)) none

  pub len_again : (v : X) → IsSome (get m k) → len (insert m k v) ≡ len m
  len_again v h = len-insert nat_cmp_total m k v ∙ ap (λ b. cond b (len m) (len m + 1)) h

  pub len_less : IsSome (get m k) → len (remove m k) + 1 ≡ len m
  len_less h =
      let removed : len (remove m k) ≡ len m - 1 = len-remove nat_cmp_total m k
      ∙ ap (λ b. cond b (len m - 1) (len m)) h in
      let some : len m ≢ 0 = λ none. true≢false (sym h
      ∙ ap (λ (x : FinMap nat_cmp X). is_some (get x k)) (empty_of_len m none)
      ∙ ap is_some (get-empty nat_cmp k)) in
      omega arith
