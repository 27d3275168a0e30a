-- A list of items, some of which are present, read as a map by index.
use Rattle.hd_model.proofs.Basics.{List, None, Option, Some, [], arith, empty, find, get, get-empty, get-from_entries, get_or, get_or-set_other, get_or-set_same, insert, length, nat_cmp, nat_cmp-IsAntisymmetric, nat_cmp_total, refl, remove, replicate, same_map, set, suc, sym, zero, ℕ, ◌+◌, ◌<◌, ◌∙◌, ◌∷◌, ◌≡◌}
use Rattle.hd_model.proofs.{MapEntries.found_first, MapEntries.found_later, ReadAfterWrite.insert_cases, ReadAfterWrite.remove_cases}
use Rattle.hd_model.specs.Indexed.{numbered, by_index}

pub find-numbered_below : {A : Type 0} (i q : ℕ) (xs : List (Option A)) → q < i → find nat_cmp q
    (numbered i xs) ≡ None
find-numbered_below i q [] below = refl
find-numbered_below i q (None ∷ xs) below = find-numbered_below (i + 1) q xs (omega arith)
find-numbered_below i q (Some x ∷ xs) below =
    found_later q i (Some x) (find nat_cmp q (numbered (i + 1) xs)) (λ same. omega arith) ∙
    find-numbered_below (i + 1) q xs (omega arith)

pub find-numbered : {A : Type 0} (i j q : ℕ) (xs : List (Option A)) → q ≡ i + j → find nat_cmp q
    (numbered i xs) ≡ get_or xs j None
find-numbered i j q [] at = refl
find-numbered i zero q (None ∷ xs) at = find-numbered_below (i + 1) q xs (omega arith)
find-numbered i (suc j) q (None ∷ xs) at = find-numbered (i + 1) j q xs (omega arith)
find-numbered i zero q (Some x ∷ xs) at = found_first q i x (find nat_cmp q (numbered (i + 1) xs))
    (omega arith)
find-numbered i (suc j) q (Some x ∷ xs) at =
    found_later q i (Some x) (find nat_cmp q (numbered (i + 1) xs)) (λ same. omega arith) ∙ find-numbered
    (i + 1) j q xs (omega arith)

-- a read by index
pub get-by_index : {A : Type 0} (xs : List (Option A)) (k : ℕ) → get (by_index xs) k ≡ get_or xs k None
get-by_index xs k = get-from_entries nat_cmp_total (numbered 0 xs) k ∙ find-numbered 0 k k xs (omega arith)

-- to write an item at an index is to insert it
pub by_index-put : {A : Type 0} (xs : List (Option A)) (k : ℕ) (x : A) → k < length xs
    → by_index (set xs k (Some x)) ≡ insert (by_index xs) k x
by_index-put xs k x within =
    same_map nat_cmp_total nat_cmp-IsAntisymmetric _ _ (λ q.
    insert_cases (by_index xs) k (λ q o. get (by_index (set xs k (Some x))) q ≡ o) x q
    (get-by_index (set xs k (Some x)) k ∙ get_or-set_same xs k (Some x) None within)
    (λ apart. get-by_index (set xs k (Some x)) q ∙ get_or-set_other xs k q (Some x) None apart
    ∙ sym (get-by_index xs q)))

-- to clear an index is to remove its item
pub by_index-clear : {A : Type 0} (xs : List (Option A)) (k : ℕ)
    → by_index (set xs k None) ≡ remove (by_index xs) k
by_index-clear xs k =
    same_map nat_cmp_total nat_cmp-IsAntisymmetric _ _ (λ q.
    remove_cases (by_index xs) k (λ q o. get (by_index (set xs k None)) q ≡ o) q
    (get-by_index (set xs k None) k ∙ cleared xs k)
    (λ apart. get-by_index (set xs k None) q ∙ get_or-set_other xs k q None None apart
    ∙ sym (get-by_index xs q)))
  where
    cleared : {A : Type 0} (xs : List (Option A)) (k : ℕ) → get_or (set xs k None) k None ≡ None
    cleared [] k = refl
    cleared (x ∷ xs) zero = refl
    cleared (x ∷ xs) (suc k) = cleared xs k

-- no item is present
pub by_index-empty : {A : Type 0} (xs : List (Option A)) → ((k : ℕ) → get_or xs k None ≡ None) → by_index xs ≡
    empty
by_index-empty xs none =
    same_map nat_cmp_total nat_cmp-IsAntisymmetric _ _
    (λ q. get-by_index xs q ∙ none q ∙ sym (get-empty nat_cmp q))

pub get_or-replicate_None : {A : Type 0} (n k : ℕ) → get_or (replicate {A = Option A} n None) k None ≡ None
get_or-replicate_None zero k = refl
get_or-replicate_None (suc n) zero = refl
get_or-replicate_None (suc n) (suc k) = get_or-replicate_None n k
