-- What steps the calls make, in what order: each is decided by the values found so far. The order is this
-- project's own.
use Rattle.std.specs.Prelude.{ℕ, ◌+◌, ◌-◌, ◌*◌, ◌^◌, cond, nat_lt, ◌==◌, ◌&&◌, bit_or, bit_xor, List, [], ◌∷◌}
use Rattle.std.specs.Prelude.{slice_index, Option, Some, None}
use Rattle.hd_mask.specs.Mask.{set_bits}
use Rattle.hd_model.specs.declared.limits.TheConstants.{ROWS}
use Rattle.hd_custody.specs.declared.words.TheConstants.{BANK, CACHE}
use Rattle.hd_custody.specs.Counts.{mask_word, quick_word, reserve_cell, free_cell, slot_block, slot_row}

-- a step: the word, what was found there, and what is there after
abbrev pub Did : Type 0
Did = ℕ × ℕ × ℕ

-- the word that the n-th probe of `allocate` exchanges, of the kind with number k: the quick word, the
-- reserve cells from the last down, the free cells so
unfoldable pub probe_word : ℕ → ℕ → ℕ
probe_word k n =
    cond (n == 0) (quick_word k)
    (cond (nat_lt BANK n) (free_cell k (2 * BANK - n)) (reserve_cell k (BANK - n)))

-- the word that the n-th exchange of `gather` takes: all of them upwards
unfoldable pub sweep_word : ℕ → ℕ → ℕ
sweep_word k n = quick_word k + n

-- the word of the n-th exchange of `release`: the quick word, then the free cells from the first up
unfoldable pub push_word : ℕ → ℕ → ℕ
push_word k n = cond (n == 0) (quick_word k) (free_cell k (n - 1))

-- the least row of a mask, the first of its set bits
abbrev pub lowest : ℕ → ℕ
lowest m = slice_index (set_bits m) 0

-- the mask without it
abbrev pub next_rows : ℕ → ℕ
next_rows m = bit_xor m (2 ^ lowest m)

-- the mask of all rows
abbrev pub every_row : ℕ
every_row = 2 ^ ROWS - 1

-- where a call is before its next step
pub data Phase : Type 0 where
  -- allocate: the n-th exchange of the cache
  probe : ℕ → Phase
  -- block b: the load of its kind word, the exchange of its mask with 0, the second load of its kind word
  look : ℕ → Phase
  drain : ℕ → Phase
  again : ℕ → ℕ → Phase
  -- the rows m, all that came, go back
  back : ℕ → ℕ → Phase
  -- x is returned, and reserve cell i is offered the least of the rows m that are left
  bank : ℕ → ℕ → ℕ → ℕ → Phase
  -- what is left of them after the last cell goes back
  rest : ℕ → ℕ → ℕ → Phase
  -- gather: the n-th exchange of the cache; slot x, which came of it, goes to its mask; block b as for
  -- `allocate`
  sweep : ℕ → Phase
  settle : ℕ → ℕ → Phase
  look_whole : ℕ → Phase
  drain_whole : ℕ → Phase
  again_whole : ℕ → Phase
  back_part : ℕ → ℕ → Phase
  -- release: the n-th exchange puts x; x goes to its mask
  push : ℕ → ℕ → Phase
  last : ℕ → Phase
  -- the call has ended: with a slot, a block, or 0 where the call returns nothing; with none
  found : ℕ → Phase
  missed : Phase
  -- no step of the call is this
  wrong : Phase

-- p, where the step is on word i and leaves z there
abbrev pub is_step : Did → ℕ → ℕ → Phase → Phase
is_step t i z p = cond ((t.0 == i) && (t.2 == z)) p wrong

-- the rows m of block b are left, and reserve cell i is next
abbrev pub to_bank : ℕ → ℕ → ℕ → ℕ → Phase
to_bank b x i m = cond (m == 0) (found x) (cond (nat_lt i BANK) (bank b x i m) (rest b x m))

-- the slot x is left, and the n-th word is next
abbrev pub to_push : ℕ → ℕ → Phase
to_push n x = cond (nat_lt n ROWS) (push n x) (last x)

module _ (blocks : ℕ) where
  -- block b is next, where there is one
  abbrev pub to_look : ℕ → Phase
  to_look b = cond (nat_lt blocks b) missed (look b)

  abbrev pub to_look_whole : ℕ → Phase
  to_look_whole b = cond (nat_lt blocks b) missed (look_whole b)

  -- the n-th word of the cache is next, where there is one
  abbrev pub to_probe : ℕ → Phase
  to_probe n = cond (nat_lt n CACHE) (probe n) (to_look 1)

  abbrev pub to_sweep : ℕ → Phase
  to_sweep n = cond (nat_lt n CACHE) (sweep n) (to_look_whole 1)

module _ (k blocks : ℕ) where
  -- where the call is after the step t, of a kind with number k and a table with this number of blocks
  abbrev pub next_phase : Phase → Did → Phase
  next_phase (probe n) t =
      is_step t (probe_word k n) 0 (cond (t.1 == 0) (to_probe blocks (n + 1)) (found t.1))
  next_phase (look b) t = is_step t b t.1 (cond (t.1 == k + 1) (drain b) (to_look blocks (b + 1)))
  next_phase (drain b) t = is_step t (mask_word b) 0 (cond (t.1 == 0) (to_look blocks (b + 1)) (again b t.1))
  next_phase (again b m) t =
      is_step t b t.1 (cond (t.1 == k + 1) (to_bank b (ROWS * b + lowest m) 0 (next_rows m)) (back b m))
  next_phase (back b m) t = is_step t (mask_word b) (bit_or t.1 m) (to_look blocks (b + 1))
  next_phase (bank b x i m) t =
      is_step t (reserve_cell k i) (cond (t.1 == 0) (ROWS * b + lowest m) t.1)
      (to_bank b x (i + 1) (cond (t.1 == 0) (next_rows m) m))
  next_phase (rest b x m) t = is_step t (mask_word b) (bit_or t.1 m) (found x)
  next_phase (sweep n) t =
      is_step t (sweep_word k n) 0 (cond (t.1 == 0) (to_sweep blocks (n + 1)) (settle n t.1))
  next_phase (settle n x) t =
      is_step t (mask_word (slot_block x)) (bit_or t.1 (2 ^ slot_row x)) (to_sweep blocks (n + 1))
  next_phase (look_whole b) t = is_step t b t.1 (cond (t.1 == k + 1) (drain_whole b)
      (to_look_whole blocks (b + 1)))
  next_phase (drain_whole b) t =
      is_step t (mask_word b) 0
      (cond (t.1 == 0) (to_look_whole blocks (b + 1)) (cond (t.1 == every_row) (again_whole b)
      (back_part b t.1)))
  next_phase (again_whole b) t = is_step t b t.1 (cond (t.1 == k + 1) (found b) (back_part b every_row))
  next_phase (back_part b m) t = is_step t (mask_word b) (bit_or t.1 m) (to_look_whole blocks (b + 1))
  next_phase (push n x) t = is_step t (push_word k n) x (cond (t.1 == 0) (found 0) (to_push (n + 1) t.1))
  next_phase (last x) t = is_step t (mask_word (slot_block x)) (bit_or t.1 (2 ^ slot_row x)) (found 0)
  next_phase (found x) t = wrong
  next_phase missed t = wrong
  next_phase wrong t = wrong

  -- and after all these steps
  abbrev pub follow : Phase → List Did → Phase
  follow p [] = p
  follow p (t ∷ ts) = follow (next_phase p t) ts

-- how a call ends that may return none
abbrev pub ending : Option ℕ → Phase
ending (Some x) = found x
ending None = missed
