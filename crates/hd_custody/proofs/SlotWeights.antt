-- How often a slot is in a word, and what a kind word names.
use Rattle.hd_custody.proofs.Basics.{BLOCKS, Bool, EXTRA_DATA, FIRST_MASK, FIRST_QUICK, KINDS, List, ROWS, WORDS, [], ap, arith, bit_at, bit_at-lt, bit_at-zero, cases_eq, cases_lt, cell_kind, cond, eq-eqb, false, get_or, get_or-set_other, inl, inr, le-ltb, length, lt-ltb, named, nat_lt, ne_eqb, one_if, refl, same_from_bits_below, set, suc, sym, total_at, true, zero, ℕ, ◌%◌, ◌&&◌, ◌*◌, ◌+◌, ◌/◌, ◌<◌, ◌==◌, ◌^◌, ◌∙◌, ◌∷◌, ◌≡◌, ◌≢◌, ◌≤◌}
use Rattle.hd_custody.specs.Counts.{weight, kind_word}
use Rattle.hd_custody.proofs.WordTotals.{total_at_member}

-- ---- the weight of a slot in a word

pub weight_low : (x i w : ℕ) → i < FIRST_MASK → weight x i w ≡ 0
unfolding weight
weight_low x i w lt =
    ap (λ b. cond b 0 (cond (nat_lt i FIRST_QUICK) (cond (BLOCKS + x / ROWS == i) (bit_at w (x % ROWS)) 0)
    (one_if (w == x)))) (lt-ltb i FIRST_MASK lt)

mask_is : (x i w : ℕ) → FIRST_MASK ≤ i → i < FIRST_QUICK
    → weight x i w ≡ cond (BLOCKS + x / ROWS == i) (bit_at w (x % ROWS)) 0
unfolding weight
mask_is x i w le lt =
    ap (λ b. cond b 0 (cond (nat_lt i FIRST_QUICK) (cond (BLOCKS + x / ROWS == i) (bit_at w (x % ROWS)) 0)
    (one_if (w == x)))) (le-ltb i FIRST_MASK le)
    ∙ ap (λ b. cond b (cond (BLOCKS + x / ROWS == i) (bit_at w (x % ROWS)) 0) (one_if (w == x)))
    (lt-ltb i FIRST_QUICK lt)

pub weight_mask : (x i w : ℕ) → FIRST_MASK ≤ i → i < FIRST_QUICK → x / ROWS + BLOCKS ≡ i
    → weight x i w ≡ bit_at w (x % ROWS)
weight_mask x i w le lt e =
    mask_is x i w le lt
    ∙ ap (λ b. cond b (bit_at w (x % ROWS)) 0) (eq-eqb (BLOCKS + x / ROWS) i (omega arith))

pub weight_other : (x i w : ℕ) → FIRST_MASK ≤ i → i < FIRST_QUICK → x / ROWS + BLOCKS ≢ i → weight x i w ≡ 0
weight_other x i w le lt n =
    mask_is x i w le lt
    ∙ ap (λ b. cond b (bit_at w (x % ROWS)) 0) (ne_eqb (BLOCKS + x / ROWS) i (λ e. n (omega arith)))

pub weight_cell : (x i w : ℕ) → FIRST_QUICK ≤ i → weight x i w ≡ one_if (w == x)
unfolding weight
weight_cell x i w le =
    let low : FIRST_MASK ≤ i = omega arith in
    ap (λ b. cond b 0 (cond (nat_lt i FIRST_QUICK) (cond (BLOCKS + x / ROWS == i) (bit_at w (x % ROWS)) 0)
    (one_if (w == x)))) (le-ltb i FIRST_MASK low)
    ∙ ap (λ b. cond b (cond (BLOCKS + x / ROWS == i) (bit_at w (x % ROWS)) 0) (one_if (w == x)))
    (le-ltb i FIRST_QUICK le)

-- a slot weighs nothing in a word that is 0
pub weight_zero : (x i : ℕ) → ROWS ≤ x → weight x i 0 ≡ 0
weight_zero x i real = elim (cases_lt i FIRST_MASK) [
  | inl low ↦ weight_low x i 0 low
  | inr le ↦ elim (cases_lt i FIRST_QUICK) [
    | inl lt ↦ elim (cases_eq (x / ROWS + BLOCKS) i) [
      | inl here ↦ weight_mask x i 0 le lt here ∙ bit_at_none (x % ROWS)
      | inr other ↦ weight_other x i 0 le lt other
    ]
    | inr cell ↦ weight_cell x i 0 cell ∙ ap one_if (ne_eqb 0 x (λ e. omega arith))
  ]
]
  where
    bit_at_none : (r : ℕ) → bit_at 0 r ≡ 0
    bit_at_none r = Rattle.std.proofs.lemmas.Nat.Bits.bit_at-zero r

-- ---- kind words

pub kind_word_is : (ws : List ℕ) (b : ℕ) → b < FIRST_MASK → kind_word ws b ≡ get_or ws b 0
unfolding kind_word
kind_word_is ws b lt = ap (λ t. cond t (get_or ws b 0) 0) (lt-ltb b FIRST_MASK lt)

pub kind_word_out : (ws : List ℕ) (b : ℕ) → FIRST_MASK ≤ b → kind_word ws b ≡ 0
unfolding kind_word
kind_word_out ws b le = ap (λ t. cond t (get_or ws b 0) 0) (le-ltb b FIRST_MASK le)

-- a store into another word than the block's leaves its kind word
pub kind_word_set : (ws : List ℕ) (b i n : ℕ) → b ≢ i → kind_word (set ws i n) b ≡ kind_word ws b
kind_word_set ws b i n other = elim (cases_lt b FIRST_MASK) [
  | inl lt ↦ kind_word_is (set ws i n) b lt ∙ get_or-set_other ws i b n 0 other ∙ sym (kind_word_is ws b lt)
  | inr le ↦ kind_word_out (set ws i n) b le ∙ sym (kind_word_out ws b le)
]

pub kind_word_high : (ws : List ℕ) (i n : ℕ) → FIRST_MASK ≤ i → (b : ℕ)
    → kind_word (set ws i n) b ≡ kind_word ws b
kind_word_high ws i n le b = elim (cases_lt b FIRST_MASK) [
  | inl lt ↦ kind_word_set ws b i n (λ e. omega arith)
  | inr out ↦ kind_word_out (set ws i n) b out ∙ sym (kind_word_out ws b out)
]

pub named_kind : (k : ℕ) → 0 < k → k < EXTRA_DATA → named k ≡ 1
named_kind k real lt =
    ap (λ b. cond (b && nat_lt k EXTRA_DATA) 1 0) (lt-ltb 0 k real)
    ∙ ap (λ b. cond b 1 0) (lt-ltb k EXTRA_DATA lt)

pub named_none : (k : ℕ) → k ≡ 0 → named k ≡ 0
named_none k e = ap named e

either_way : (b : Bool) → cond b 1 0 ≤ 1
either_way true = omega arith
either_way false = omega arith

pub named_most : (k : ℕ) → named k ≤ 1
named_most k = either_way (nat_lt 0 k && nat_lt k EXTRA_DATA)

-- a block whose kind word names a kind is one of the 256
pub named_block : (ws : List ℕ) (b : ℕ) → named (kind_word ws b) ≡ 1 → b < FIRST_MASK
named_block ws b one = elim (cases_lt b FIRST_MASK) [
  | inl lt ↦ lt
  | inr le ↦ absurd (let none : named (kind_word ws b) ≡ 0 =
      named_none _ (kind_word_out ws b le) in omega arith)
]

pub kind_small : (i : ℕ) → i < WORDS → cell_kind i < KINDS
kind_small i lt = omega arith

pub off_of : (b : Bool) → one_if b ≡ 0 → b ≡ false
off_of true e = absurd (omega arith)
off_of false e = refl

pub on_of : (b : Bool) → 1 ≤ one_if b → b ≡ true
on_of true le = refl
on_of false le = absurd (omega arith)

-- past the last word there is nothing
pub past : (ws : List ℕ) (j : ℕ) → length ws ≤ j → get_or ws j 0 ≡ 0
past [] j le = refl
past (w ∷ ws) zero le = absurd (omega arith)
past (w ∷ ws) (suc j) le = past ws j (omega arith)

-- where no slot is there twice, and none in a block without a kind of handle, the mask of such a block is 0
module _ (words : List ℕ) (others : ℕ → ℕ)
    (placed : (x : ℕ) → ROWS ≤ x
    → total_at (weight x) 0 words + others x ≡ named (kind_word words (x / ROWS)))
    (fits : (i : ℕ) → FIRST_MASK ≤ i → i < FIRST_QUICK → get_or words i 0 < (2 ^ ROWS)) where
  bit_none : (b : ℕ) → 0 < b → b < FIRST_MASK → named (kind_word words b) ≡ 0 → BLOCKS + b < length words
      → (r : ℕ) → r < ROWS → bit_at (get_or words (BLOCKS + b) 0) r ≡ 0
  bit_none b real low none within r lt =
      let block : (ROWS * b + r) / ROWS ≡ b = omega arith in
      let row : (ROWS * b + r) % ROWS ≡ r = omega arith in
      let one = placed (ROWS * b + r) (omega arith) in
      let member =
      total_at_member (weight (ROWS * b + r)) words 0 (BLOCKS + b) (BLOCKS + b) within (omega arith) in
      let is =
      weight_mask (ROWS * b + r) (BLOCKS + b) (get_or words (BLOCKS + b) 0) (omega arith) (omega arith)
      (omega arith) in
      let same = ap (bit_at (get_or words (BLOCKS + b) 0)) row in
      let kind = ap (λ d. named (kind_word words d)) block in
      omega arith

  pub mask_empty : (b : ℕ) → 0 < b → b < FIRST_MASK → named (kind_word words b) ≡ 0
      → get_or words (BLOCKS + b) 0 ≡ 0
  mask_empty b real low none = elim (cases_lt (BLOCKS + b) (length words)) [
    | inl within ↦ same_from_bits_below ROWS (get_or words (BLOCKS + b) 0) 0
        (fits (BLOCKS + b) (omega arith) (omega arith)) (omega arith)
        (λ r lt. bit_none b real low none within r lt ∙ sym (bit_at-zero r))
    | inr out ↦ past words (BLOCKS + b) out
  ]
