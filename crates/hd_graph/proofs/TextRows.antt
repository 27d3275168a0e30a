-- Rows of a list, one after another.
use Rattle.std.proofs.Common.{List, [], ap, add-one, append_assoc, arith, get_or, length, suc, sym, take, zero, ℕ, ◌++◌, ◌+◌, ◌<◌, ◌∙◌, ◌∷◌, ◌≡◌, ◌≤◌}
use Rattle.std.specs.Prelude.{flat_map}
use Rattle.std.specs.List.{enumerate_from}
use Rattle.std.proofs.lemmas.List.{append-nil, take_all}

-- the rows of one item more
rows_suc : {A : Type 0} (make : ℕ × A → List ℕ) (n : ℕ) (xs : List A) (i : ℕ) (d : A) → i < length xs
    → flat_map make (enumerate_from n (take (suc i) xs))
    ≡ flat_map make (enumerate_from n (take i xs)) ++ make (n + i, get_or xs i d)
rows_suc make n [] i d low = absurd (omega (arith, low))
rows_suc make n (x ∷ xs) zero d low =
    append-nil (make (n, x)) ∙ ap (λ k. make (k, x)) (let same : n ≡ n + 0 = omega arith in same)
rows_suc make n (x ∷ xs) (suc i) d low =
    let same : n + 1 + i ≡ n + suc i = omega arith in
    ap (λ ys. make (n, x) ++ ys) (rows_suc make (n + 1) xs i d (omega (arith, low)))
    ∙ sym (append_assoc (make (n, x)) (flat_map make (enumerate_from (n + 1) (take i xs)))
    (make (n + 1 + i, get_or xs i d)))
    ∙ ap (λ k. (make (n, x) ++ flat_map make (enumerate_from (n + 1) (take i xs))) ++ make (k, get_or xs i d))
    same

-- a text that has one row more
pub row_next : {A : Type 0} (make : ℕ × A → List ℕ) (n : ℕ) (xs : List A) (i : ℕ) (d : A) → i < length xs
    → (start text now : List ℕ) (k : ℕ) (x : A) → k ≡ n + i → x ≡ get_or xs i d
    → text ≡ start ++ flat_map make (enumerate_from n (take i xs)) → now ≡ text ++ make (k, x)
    → now ≡ start ++ flat_map make (enumerate_from n (take (i + 1) xs))
row_next make n xs i d low start text now k x index item before after =
    after ∙ (λ j. before j ++ make (index j, item j))
    ∙ append_assoc start (flat_map make (enumerate_from n (take i xs))) (make (n + i, get_or xs i d))
    ∙ ap (λ ys. start ++ ys) (sym (rows_suc make n xs i d low))
    ∙ ap (λ m. start ++ flat_map make (enumerate_from n (take m xs))) (sym (add-one i))

-- and one that has all rows, with numbers and without
pub rows_all : {A : Type 0} (make : ℕ × A → List ℕ) (n : ℕ) (xs : List A) (i : ℕ) → length xs ≤ i
    → (start text : List ℕ) → text ≡ start ++ flat_map make (enumerate_from n (take i xs))
    → text ≡ start ++ flat_map make (enumerate_from n xs)
rows_all make n xs i low start text before =
    before ∙ ap (λ ys. start ++ flat_map make (enumerate_from n ys)) (take_all i xs low)

pub list_all : {A : Type 0} (make : A → List ℕ) (xs : List A) (i : ℕ) → length xs ≤ i
    → (start text : List ℕ) → text ≡ start ++ flat_map make (take i xs) → text ≡ start ++ flat_map make xs
list_all make xs i low start text before =
    before ∙ ap (λ ys. start ++ flat_map make ys) (take_all i xs low)

-- one item more, without numbers
list_suc : {A : Type 0} (make : A → List ℕ) (xs : List A) (i : ℕ) (d : A) → i < length xs
    → flat_map make (take (suc i) xs) ≡ flat_map make (take i xs) ++ make (get_or xs i d)
list_suc make [] i d low = absurd (omega (arith, low))
list_suc make (x ∷ xs) zero d low = append-nil (make x)
list_suc make (x ∷ xs) (suc i) d low =
    ap (λ ys. make x ++ ys) (list_suc make xs i d (omega (arith, low)))
    ∙ sym (append_assoc (make x) (flat_map make (take i xs)) (make (get_or xs i d)))

pub list_next : {A : Type 0} (make : A → List ℕ) (xs : List A) (i : ℕ) (d : A) → i < length xs
    → (start text now : List ℕ) (x : A) → x ≡ get_or xs i d → text ≡ start ++ flat_map make (take i xs)
    → now ≡ text ++ make x → now ≡ start ++ flat_map make (take (i + 1) xs)
list_next make xs i d low start text now x item before after =
    after ∙ (λ j. before j ++ make (item j))
    ∙ append_assoc start (flat_map make (take i xs)) (make (get_or xs i d))
    ∙ ap (λ ys. start ++ ys) (sym (list_suc make xs i d low))
    ∙ ap (λ m. start ++ flat_map make (take m xs)) (sym (add-one i))
