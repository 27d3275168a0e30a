-- Slots in words and held by seats, counted; the words of the table; and what a kind word names. All of it is
-- this project's own. A slot is 64 times its block, from 1 to 256, and its row, from 0 to 63. What a seat
-- holds is a list of slots, each with a kind word: 1 more than the number of its kind, or 0 while the slot
-- has no kind yet. Kind words: 0 no kind, 1 to 7 handles, 8 extra data. The words are: 0 the gate, 1 to 256
-- the kind words of the blocks, 257 to 512 their masks, and from 513 on 127 words for each kind, which are
-- its quick word, 63 reserve cells and 63 free cells.
use Rattle.std.specs.Prelude.{◌≡◌, ℕ, zero, suc, ◌+◌, ◌-◌, ◌*◌, ◌/◌, ◌%◌, ◌<◌, ◌≤◌, Bool, true, false, cond, not, nat_lt}
use Rattle.std.specs.Prelude.{◌==◌, ◌&&◌, List, [], ◌∷◌, filter, map, slice_index}
use mathlib.Core.Option.{some}
use lib.ListN.{get_elem?}
use Rattle.std.specs.Int.{bit_at}
use Rattle.hd_model.specs.declared.limits.TheConstants.{BLOCKS, ROWS}
use Rattle.hd_custody.specs.declared.words.TheConstants.{FIRST_MASK, FIRST_QUICK, BANK, CACHE, WORDS, EXTRA_DATA}

-- the sum of f over a list
abbrev pub total : {V : Type 0} → (V → ℕ) → List V → ℕ
total f [] = 0
total f (v ∷ vs) = f v + total f vs

-- the sum of f over the words, each with its number, from i on
abbrev pub total_at : (ℕ → ℕ → ℕ) → ℕ → List ℕ → ℕ
total_at f i [] = 0
total_at f i (w ∷ ws) = f i w + total_at f (suc i) ws

-- 1 for true, 0 for false
abbrev pub one_if : Bool → ℕ
one_if b = cond b 1 0

-- the mask of block b
abbrev pub mask_word : ℕ → ℕ
mask_word b = BLOCKS + b

-- the block of mask word i
abbrev pub masked_block : ℕ → ℕ
masked_block i = i - BLOCKS

-- the quick word of the kind with number k
abbrev pub quick_word : ℕ → ℕ
quick_word k = FIRST_QUICK + CACHE * k

-- its reserve cell i, from 0 on
abbrev pub reserve_cell : ℕ → ℕ → ℕ
reserve_cell k i = FIRST_QUICK + 1 + CACHE * k + i

-- its free cell i, from 0 on
abbrev pub free_cell : ℕ → ℕ → ℕ
free_cell k i = FIRST_QUICK + 1 + BANK + CACHE * k + i

-- word i is a quick word or a cell
abbrev pub IsCell : ℕ → Type 0
IsCell i = (FIRST_QUICK ≤ i) × (i < WORDS)

-- the block of a slot
abbrev pub slot_block : ℕ → ℕ
slot_block x = x / ROWS

-- its row there
abbrev pub slot_row : ℕ → ℕ
slot_row x = x % ROWS

-- x is a slot of one of the 256 blocks
abbrev pub IsSlot : ℕ → Type 0
IsSlot x = (ROWS ≤ x) × (x < ROWS * (BLOCKS + 1))

-- How often the slot x is in word i, which has w: as a set bit of its block's mask, words 257 to 512, or
-- as the whole of a quick word or cell, the words from 513 on. The gate and the kind words hold no slot.
unfoldable pub weight : ℕ → ℕ → ℕ → ℕ
weight x i w =
    cond (nat_lt i FIRST_MASK) 0
    (cond (nat_lt i FIRST_QUICK) (cond (mask_word (slot_block x) == i) (bit_at w (slot_row x)) 0)
    (one_if (w == x)))

-- how often it is held
abbrev pub held_times : ℕ → List (ℕ × ℕ) → ℕ
held_times x held = total (λ p. one_if (p.0 == x)) held

-- the kind word of block b, which is word b; there are 256 blocks, from 1 on
unfoldable pub kind_word : List ℕ → ℕ → ℕ
kind_word words b = cond (nat_lt b FIRST_MASK) (slice_index words b) 0

-- 1 where the kind word names a kind of handle, and 0 else
abbrev pub named : ℕ → ℕ
named k = cond (nat_lt 0 k && nat_lt k EXTRA_DATA) 1 0

-- the number of the kind whose quick word or cell word i is: each kind has 127 of them in a row
abbrev pub cell_kind : ℕ → ℕ
cell_kind i = (i - FIRST_QUICK) / CACHE

-- the kind words f with what was stored since, each store a block and its new kind word, the last one first
abbrev pub changed : List (ℕ × ℕ) → (ℕ → ℕ) → ℕ → ℕ
changed [] f b = f b
changed (p ∷ cs) f b = cond (p.0 == b) p.1 (changed cs f b)

-- of the n numbers from base on, base + r where keep r, with the kind word kind r; the last one first
unfoldable pub picks : ℕ → (ℕ → Bool) → ℕ → (ℕ → ℕ) → List (ℕ × ℕ)
picks zero keep base kind = []
picks (suc r) keep base kind = cond (keep r) ((base + r, kind r) ∷ picks r keep base kind)
    (picks r keep base kind)

-- the slots of block b whose rows the mask m has, with the kind word k
abbrev pub rows : ℕ → ℕ → ℕ → List (ℕ × ℕ)
rows b m k = picks ROWS (λ r. bit_at m r == 1) (ROWS * b) (λ _. k)

-- all of the block's slots
abbrev pub whole : ℕ → ℕ → List (ℕ × ℕ)
whole b k = picks ROWS (λ _. true) (ROWS * b) (λ _. k)

-- how many slots there are in 256 blocks, the first of which is slot 64
unfoldable pub slot_count : ℕ
slot_count = BLOCKS * ROWS

-- the slots held without one
abbrev pub without : ℕ → List (ℕ × ℕ) → List (ℕ × ℕ)
without x held = filter (λ p. not (p.0 == x)) held

-- the slots held without those of block b whose rows the mask m has
abbrev pub without_rows : ℕ → ℕ → List (ℕ × ℕ) → List (ℕ × ℕ)
without_rows b m held = filter (λ p. not ((slot_block p.0 == b) && (bit_at m (slot_row p.0) == 1))) held

-- the slots held without those of block b
abbrev pub without_block : ℕ → List (ℕ × ℕ) → List (ℕ × ℕ)
without_block b held = filter (λ p. not (slot_block p.0 == b)) held

-- the slots held once x was put into a word: 0 is no slot, and leaves them as they were
abbrev pub put_out : ℕ → List (ℕ × ℕ) → List (ℕ × ℕ)
put_out zero held = held
put_out (suc x) held = without (suc x) held

-- the slots held with one of the kind word k on top: 0 is no slot
abbrev pub with_slot : ℕ → ℕ → List (ℕ × ℕ) → List (ℕ × ℕ)
with_slot zero k held = held
with_slot (suc x) k held = (suc x, k) ∷ held

-- a slot once the kind word of block b was seen to be k: where it is of that block and has no kind, it gets
-- that one
abbrev pub named_by : ℕ → ℕ → ℕ × ℕ → ℕ × ℕ
named_by b k p = (p.0, cond ((slot_block p.0 == b) && (p.1 == 0)) k p.1)

-- the slots held once the kind word of block b was seen to be k
abbrev pub naming : ℕ → ℕ → List (ℕ × ℕ) → List (ℕ × ℕ)
naming b k held = map (named_by b k) held

-- no slot is held
abbrev pub is_nil : List (ℕ × ℕ) → Bool
is_nil [] = true
is_nil (x ∷ xs) = false

-- P holds of each slot held with its kind word
abbrev pub Every : (ℕ × ℕ → Type 0) → List (ℕ × ℕ) → Type 0
Every P held = (n : ℕ) (p : ℕ × ℕ) → get_elem? held n ≡ some p → P p

-- the slot x is held
abbrev pub Has : ℕ → List (ℕ × ℕ) → Type 0
Has x held = 1 ≤ held_times x held

-- this slot is held with this kind word
abbrev pub HasAs : ℕ × ℕ → List (ℕ × ℕ) → Type 0
HasAs p held = (n : ℕ) × (get_elem? held n ≡ some p)
