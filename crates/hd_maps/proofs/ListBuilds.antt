-- Lists of the keys of a map, and of the members of a list that pass a test; and how long a list of numbers
-- is.
use Rattle.hd_model.proofs.Basics.{AllPairs, Bool, Contains, FinMap, IsSome, List, [], ap, arith, cases_eq, entries, entries_sorted, filter, get, is_some, keys, length, nat_cmp, refl, subst, suc, sym, true, zero, ℕ, ⊎_elim, ◌<◌, ◌∷◌, ◌≡◌, ◌≢◌, ◌≤◌}
use Rattle.hd_model.proofs.MapBuild.{in_keys}
use Rattle.hd_model.proofs.MapEntries.{get_entry, keys_apart}
use Rattle.hd_model.proofs.Members.{first_in, later_in, mapped_from, passing_from, passing_in, pairs_passing}
use Rattle.hd_model.proofs.PropertyCounts.{fewer}
use Rattle.hd_model.specs.declared.data.Id.{Id}
use Rattle.hd_model.specs.State.{Handle}

-- a list has exactly the things with a property, each once
pub record Lists {A : Type 0} (P : A → Type 0) (xs : List A) : Type 0 where
  pub apart : AllPairs (λ x y. x ≢ y) xs
  pub each : (x : A) → Contains xs x → P x
  pub all : (x : A) → P x → Contains xs x

-- a slot has a handle
abbrev pub IsLive : FinMap nat_cmp (Handle Id) → ℕ → Type 0
IsLive handles slot = IsSome (get handles slot)

-- the keys of a map
pub keys_listed : {A : Type 0} (m : FinMap nat_cmp A) (ids : List ℕ) → ids ≡ keys m
    → Lists (λ k. IsSome (get m k)) ids
keys_listed {A} m ids is = record {
  apart = subst (λ ks. AllPairs (λ x y. x ≢ y) ks) (sym is) (keys_apart (entries m) (entries_sorted m));
  each = λ k h. key_there k (subst (λ ks. Contains ks k) is h);
  all = λ k h. subst (λ ks. Contains ks k) (sym is) (in_keys m k h);
}
  where
    key_there : (k : ℕ) → Contains (keys m) k → IsSome (get m k)
    key_there k h =
        let (e, rest) = mapped_from (λ (g : ℕ × A). g.0) (entries m) k h in
        subst (λ j. IsSome (get m j)) rest.1 (ap is_some (get_entry m e.0 e.1 rest.0))

-- what passes of a list without repetitions that has all that may pass
pub lists_passing : (test : ℕ → Bool) (xs : List ℕ) → AllPairs (λ x y. x ≢ y) xs
    → ((k : ℕ) → test k ≡ true → Contains xs k) → Lists (λ k. test k ≡ true) (filter test xs)
lists_passing test xs apart all = record {
  apart = pairs_passing test (λ x y. x ≢ y) xs apart;
  each = λ k h. (passing_from test xs k h).1;
  all = λ k h. passing_in test xs k (all k h) h;
}

-- the numbers below a bound
abbrev upto : ℕ → List ℕ
upto zero = []
upto (suc n) = n ∷ upto n

upto_length : (n : ℕ) → length (upto n) ≡ n
upto_length zero = refl
upto_length (suc n) = ap suc (upto_length n)

in_upto : (n k : ℕ) → k < n → Contains (upto n) k
in_upto zero k low = absurd (omega (arith, low))
in_upto (suc n) k low =
    ⊎_elim (λ same. subst (λ j. Contains (n ∷ upto n) j) (sym same) (first_in n (upto n)))
    (λ apart. later_in n (upto n) k (in_upto n k (omega (arith, low, apart)))) (cases_eq k n)

-- a list of them without repetitions has at most as many
pub below_few : (xs : List ℕ) (n : ℕ) → AllPairs (λ x y. x ≢ y) xs → ((x : ℕ) → Contains xs x → x < n)
    → length xs ≤ n
below_few xs n apart within =
    let less : length xs ≤ length (upto n) = fewer xs (upto n) apart (λ x h. in_upto n x (within x h)) in
    let size : length (upto n) ≡ n = upto_length n in omega (arith, less, size)
