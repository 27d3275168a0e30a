-- A map whose values are seen through a function: what it has, how it changes, and its keys; and how many
-- keys there are below a number.
use Rattle.hd_model.proofs.Basics.{Bool, FinMap, IsSome, List, None, Option, Some, T, [], ap, arith, below_all, cond, empty, entries, entries_sorted, eq_by_cmp, false, find, get, get-empty, get-entries, get-insert, get-remove, insert, is_lt, is_sorted, keys, len, len-entries, length, length-map, map, nat_cmp, nat_cmp_total, option_map, refl, remove, subst, sym, true, values, ℕ, ◌&&◌, ◌<◌, ◌∙◌, ◌∷◌, ◌≡◌, ◌≤◌}
use Rattle.std.specs.FinMap.{entries-from_sorted, nat_cmp-IsAntisymmetric, same_map}
use Rattle.hd_maps.specs.Fields.{seen_as}
use Rattle.hd_maps.proofs.ListBuilds.{below_few, keys_listed}

module _ {A B : Type 0} (f : A → B) where
  map_case : (b : Bool) (x y : Option A) → option_map f (cond b x y) ≡ cond b (option_map f x) (option_map f y)
  map_case true x y = refl
  map_case false x y = refl

  abbrev seen : ℕ × A → ℕ × B
  seen e = (e.0, f e.1)

  below_same : (k : ℕ) (es : List (ℕ × A)) → below_all nat_cmp k (map seen es) ≡ below_all nat_cmp k es
  below_same k [] = refl
  below_same k (e ∷ es) = ap (λ b. is_lt (nat_cmp k e.0) && b) (below_same k es)

  sorted_same : (es : List (ℕ × A)) → is_sorted nat_cmp (map seen es) ≡ is_sorted nat_cmp es
  sorted_same [] = refl
  sorted_same (e ∷ es) = λ i. below_same e.0 es i && sorted_same es i

  find_seen : (q : ℕ) (es : List (ℕ × A)) → find nat_cmp q (map seen es) ≡ option_map f (find nat_cmp q es)
  find_seen q [] = refl
  find_seen q (e ∷ es) =
      ap (λ o. cond (eq_by_cmp nat_cmp q e.0) (Some (f e.1)) o) (find_seen q es)
      ∙ sym (map_case (eq_by_cmp nat_cmp q e.0) (Some e.1) (find nat_cmp q es))

  keys_same : (es : List (ℕ × A)) → map (λ (e : ℕ × B). e.0) (map seen es) ≡ map (λ (e : ℕ × A). e.0) es
  keys_same [] = refl
  keys_same (e ∷ es) = ap (λ ks. e.0 ∷ ks) (keys_same es)

  values_same : (es : List (ℕ × A))
      → map (λ (e : ℕ × B). e.1) (map seen es) ≡ map f (map (λ (e : ℕ × A). e.1) es)
  values_same [] = refl
  values_same (e ∷ es) = ap (λ vs. f e.1 ∷ vs) (values_same es)

  entries_as : (m : FinMap nat_cmp A) → entries (seen_as f m) ≡ map seen (entries m)
  entries_as m =
      entries-from_sorted nat_cmp (map seen (entries m))
      (subst T (sym (sorted_same (entries m))) (entries_sorted m))

  pub get_as : (m : FinMap nat_cmp A) (q : ℕ) → get (seen_as f m) q ≡ option_map f (get m q)
  get_as m q =
      get-entries (seen_as f m) q ∙ ap (find nat_cmp q) (entries_as m) ∙ find_seen q (entries m)
      ∙ ap (option_map f) (sym (get-entries m q))

  -- two maps that have the same are one
  alike : (m n : FinMap nat_cmp B) → ((q : ℕ) → get m q ≡ get n q) → m ≡ n
  alike m n same = same_map nat_cmp_total nat_cmp-IsAntisymmetric m n same

  pub empty_as : seen_as f empty ≡ empty
  empty_as =
      alike (seen_as f empty) empty
      (λ q. get_as empty q ∙ ap (option_map f) (get-empty nat_cmp q) ∙ sym (get-empty nat_cmp q))

  pub insert_as : (m : FinMap nat_cmp A) (k : ℕ) (v : A)
      → seen_as f (insert m k v) ≡ insert (seen_as f m) k (f v)
  insert_as m k v =
      alike (seen_as f (insert m k v)) (insert (seen_as f m) k (f v))
      (λ q. get_as (insert m k v) q ∙ ap (option_map f) (get-insert nat_cmp_total m k v q)
      ∙ map_case (eq_by_cmp nat_cmp q k) (Some v) (get m q)
      ∙ ap (λ o. cond (eq_by_cmp nat_cmp q k) (Some (f v)) o) (sym (get_as m q))
      ∙ sym (get-insert nat_cmp_total (seen_as f m) k (f v) q))

  pub remove_as : (m : FinMap nat_cmp A) (k : ℕ) → seen_as f (remove m k) ≡ remove (seen_as f m) k
  remove_as m k =
      alike (seen_as f (remove m k)) (remove (seen_as f m) k)
      (λ q. get_as (remove m k) q ∙ ap (option_map f) (get-remove nat_cmp_total m k q)
      ∙ map_case (eq_by_cmp nat_cmp q k) None (get m q)
      ∙ ap (λ o. cond (eq_by_cmp nat_cmp q k) None o) (sym (get_as m q))
      ∙ sym (get-remove nat_cmp_total (seen_as f m) k q))

  pub len_as : (m : FinMap nat_cmp A) → len (seen_as f m) ≡ len m
  len_as m =
      len-entries (seen_as f m) ∙ ap length (entries_as m) ∙ length-map (entries m) seen ∙ sym (len-entries m)

  pub keys_as : (m : FinMap nat_cmp A) → keys (seen_as f m) ≡ keys m
  keys_as m = ap (λ (es : List (ℕ × B)). map (λ e. e.0) es) (entries_as m) ∙ keys_same (entries m)

  pub values_as : (m : FinMap nat_cmp A) → values (seen_as f m) ≡ map f (values m)
  values_as m = ap (λ (es : List (ℕ × B)). map (λ e. e.1) es) (entries_as m) ∙ values_same (entries m)

pub keys_length : {X : Type 0} (m : FinMap nat_cmp X) → length (keys m) ≡ len m
keys_length {X} m = length-map (entries m) (λ (e : ℕ × X). e.0) ∙ sym (len-entries m)

-- a map whose keys are below a number has no more of them
pub few_keys : {X : Type 0} (m : FinMap nat_cmp X) (n : ℕ) → ((k : ℕ) → IsSome (get m k) → k < n) → len m ≤ n
few_keys m n low =
    let listed = keys_listed m (keys m) refl in
    let few : length (keys m) ≤ n = below_few (keys m) n listed.apart (λ k h. low k (listed.each k h)) in
    omega (arith, few, keys_length m)
