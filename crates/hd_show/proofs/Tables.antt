-- Rows of a list, one after another.
use Rattle.std.proofs.Common.{List, [], ap, add-one, append_assoc, arith, get_or, length, suc, sym, take, zero, ℕ, ◌++◌, ◌+◌, ◌<◌, ◌∙◌, ◌∷◌, ◌≡◌, ◌≤◌}
use Rattle.std.specs.Prelude.{flat_map}
use Rattle.std.specs.List.{enumerate_from, range_with_len}
use Rattle.std.proofs.lemmas.List.{append-nil, flat_map_more, take_all, take_more}
use Rattle.std.proofs.lemmas.List.FromFn.{get_or-range_with_len, length-range_with_len}

-- the rows of one item more
rows_suc : {A : Type 0} (make : ℕ × A → List ℕ) (n : ℕ) (xs : List A) (i : ℕ) (d : A) → i < length xs
    → flat_map make (enumerate_from n (take (suc i) xs))
    ≡ flat_map make (enumerate_from n (take i xs)) ++ make (n + i, get_or xs i d)
rows_suc make n [] i d low = absurd (omega (arith, low))
rows_suc make n (x ∷ xs) zero d low =
    append-nil (make (n, x)) ∙ ap (λ k. make (k, x)) (let same : n ≡ n + 0 = omega arith in same)
rows_suc make n (x ∷ xs) (suc i) d low =
    let same : n + 1 + i ≡ n + suc i = omega arith in
    ap (λ ys. make (n, x) ++ ys) (rows_suc make (n + 1) xs i d (omega (arith, low)))
    ∙ sym (append_assoc (make (n, x)) (flat_map make (enumerate_from (n + 1) (take i xs)))
    (make (n + 1 + i, get_or xs i d)))
    ∙ ap (λ k. (make (n, x) ++ flat_map make (enumerate_from (n + 1) (take i xs))) ++ make (k, get_or xs i d))
    same

-- a text that has one row more
pub row_next : {A : Type 0} (make : ℕ × A → List ℕ) (n : ℕ) (xs : List A) (i : ℕ) (d : A) → i < length xs
    → (start text now : List ℕ) (k : ℕ) (x : A) → k ≡ n + i → x ≡ get_or xs i d
    → text ≡ start ++ flat_map make (enumerate_from n (take i xs)) → now ≡ text ++ make (k, x)
    → now ≡ start ++ flat_map make (enumerate_from n (take (i + 1) xs))
row_next make n xs i d low start text now k x index item before after =
    after ∙ (λ j. before j ++ make (index j, item j))
    ∙ append_assoc start (flat_map make (enumerate_from n (take i xs))) (make (n + i, get_or xs i d))
    ∙ ap (λ ys. start ++ ys) (sym (rows_suc make n xs i d low))
    ∙ ap (λ m. start ++ flat_map make (enumerate_from n (take m xs))) (sym (add-one i))

-- and one that has all rows, and an end
module _ {A : Type 0} (make : ℕ × A → List ℕ) (n : ℕ) (xs : List A) (i : ℕ) (low : length xs ≤ i)
    (old header text : List ℕ)
    (before : text ≡ (old ++ header) ++ flat_map make (enumerate_from n (take i xs))) where
  abbrev rows : List ℕ
  rows = flat_map make (enumerate_from n xs)

  all : text ≡ (old ++ header) ++ rows
  all = before ∙ ap (λ ys. (old ++ header) ++ flat_map make (enumerate_from n ys)) (take_all i xs low)

  pub table_all : text ≡ old ++ (header ++ rows)
  table_all = all ∙ append_assoc old header rows

  pub table_end : (end now : List ℕ) → now ≡ text ++ end → now ≡ old ++ (header ++ (rows ++ end))
  table_end end now after =
      after ∙ ap (λ ts. ts ++ end) all ∙ append_assoc (old ++ header) rows end
      ∙ append_assoc old header (rows ++ end)

-- the same of rows without numbers
pub list_end : {A : Type 0} (make : A → List ℕ) (xs : List A) (i : ℕ) → length xs ≤ i
    → (old header text : List ℕ) → text ≡ (old ++ header) ++ flat_map make (take i xs) → (end now : List ℕ)
    → now ≡ text ++ end → now ≡ old ++ (header ++ (flat_map make xs ++ end))
list_end make xs i low old header text before end now after =
    after ∙ ap (λ ts. ts ++ end) (before ∙ ap (λ ys. (old ++ header) ++ flat_map make ys) (take_all i xs low))
    ∙ append_assoc (old ++ header) (flat_map make xs) end ∙ append_assoc old header (flat_map make xs ++ end)

-- rows without a header
pub rows_all : {A : Type 0} (make : ℕ × A → List ℕ) (n : ℕ) (xs : List A) (i : ℕ) → length xs ≤ i
    → (start text : List ℕ) → text ≡ start ++ flat_map make (enumerate_from n (take i xs))
    → text ≡ start ++ flat_map make (enumerate_from n xs)
rows_all make n xs i low start text is =
    is ∙ ap (λ ys. start ++ flat_map make (enumerate_from n ys)) (take_all i xs low)

-- the row of one number more
pub range_next : (make : ℕ → List ℕ) (n i : ℕ) → i < n → (start text now : List ℕ)
    → text ≡ start ++ flat_map make (take i (range_with_len 0 n)) → now ≡ text ++ make i
    → now ≡ start ++ flat_map make (take (i + 1) (range_with_len 0 n))
range_next make n i low start text now before after =
    let all : List ℕ = range_with_len 0 n in
    let here : get_or all i 0 ≡ i = get_or-range_with_len 0 n i 0 low ∙ (let same : 0 + i
    ≡ i = omega arith in same) in
    let room : i < length all = omega (arith, length-range_with_len 0 n) in
    after ∙ ap (λ xs. xs ++ make i) before ∙ flat_map_more make start (take i all) i
    ∙ ap (λ x. start ++ flat_map make (take i all ++ x ∷ [])) (sym here)
    ∙ ap (λ xs. start ++ flat_map make xs) (sym (take_more all i 0 room))

-- the row of one item more
pub list_next : {A : Type 0} (make : A → List ℕ) (xs : List A) (i : ℕ) (d : A) → i < length xs
    → (start text now : List ℕ) → text ≡ start ++ flat_map make (take i xs)
    → now ≡ text ++ make (get_or xs i d) → now ≡ start ++ flat_map make (take (i + 1) xs)
list_next make xs i d low start text now before after =
    after ∙ ap (λ ys. ys ++ make (get_or xs i d)) before
    ∙ flat_map_more make start (take i xs) (get_or xs i d)
    ∙ ap (λ ys. start ++ flat_map make ys) (sym (take_more xs i d low))
