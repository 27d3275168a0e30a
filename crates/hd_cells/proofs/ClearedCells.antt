-- Lemmas on the cells above the allocation pointer, which are 0 but for what was left by objects that were
-- taken out.
use Rattle.hd_cells.proofs.Basics.{CELLS, Contents, HEADER, IsCleared, IsObject, List, arith, cases_lt, cell, count_at, get_or-replicate, get_or-set_other, inl, inr, replicate, set, ℕ, ◌+◌, ◌<◌, ◌∙◌, ◌≡◌, ◌≤◌}
use Rattle.hd_cells.proofs.Contents.{IsRead, object_below}

-- a region in which nothing was put
pub cleared_empty : IsCleared (replicate CELLS 0) 0 0
cleared_empty = record {
  within = omega arith;
  nulls = λ k past late short. get_or-replicate CELLS k 0 0 short;
}

-- all objects are taken out
pub cleared_reset : {c : List ℕ} {fill stale : ℕ} (now : ℕ) → IsCleared c fill stale → fill ≤ now → stale ≤ now
    → now ≤ CELLS
    → IsCleared c 0 now
cleared_reset now is filled old short = record {
  within = short;
  nulls = λ k past late below. is.nulls k (omega (arith, filled, late)) (omega (arith, old, late)) below;
}

-- a cell below the allocation pointer is written
pub cleared_set : {c : List ℕ} {fill stale : ℕ} (j v : ℕ) → IsCleared c fill stale → j < fill
    → IsCleared (set c j v) fill stale
cleared_set {c} j v is low = record {
  within = is.within;
  nulls = λ k past late short. get_or-set_other c j k v 0 (λ e. omega (arith, e, past, low))
      ∙ is.nulls k past late short;
}

-- one of an object is
pub cleared_within : {c : List ℕ} {fill stale : ℕ} {r : Contents} (read : IsRead c fill r) (at : ℕ)
    → IsObject r at → (j v : ℕ) → j < at + (count_at c at + HEADER) → IsCleared c fill stale
    → IsCleared (set c j v) fill stale
cleared_within read at there j v low is =
    cleared_set j v is (omega (arith, low, object_below read at there))

-- the allocation pointer rises, and no cell from there on is written
pub cleared_put : {c d : List ℕ} {fill stale : ℕ} (end : ℕ) → IsCleared c fill stale → fill ≤ end
    → ((k : ℕ) → end ≤ k → cell d k ≡ cell c k) → IsCleared d end stale
cleared_put end is up same = record {
  within = is.within;
  nulls = λ k past late short. same k past ∙ is.nulls k (omega (arith, up, past)) late short;
}

-- what was left is cleared
pub all_cleared : {c : List ℕ} (e : List ℕ) {fill stale : ℕ} → IsCleared c fill stale
    → ((k : ℕ) → fill ≤ k → k < stale → cell e k ≡ 0) → ((k : ℕ) → stale ≤ k → cell e k ≡ cell c k) → (k : ℕ)
    → fill ≤ k
    → k < CELLS → cell e k ≡ 0
all_cleared e {stale = stale} is zeros same k past short = elim (cases_lt k stale) [
  | inl left ↦ zeros k past left
  | inr late ↦ same k late ∙ is.nulls k past late short
]

-- and two cells of a new object are written
pub cleared_new : (e : List ℕ) (fill id s end : ℕ) → fill + 2 ≤ end
    → ((k : ℕ) → fill ≤ k → k < CELLS → cell e k ≡ 0)
    → IsCleared (set (set e fill id) (fill + 1) s) end 0
cleared_new e fill id s end up zeros = record {
  within = omega arith;
  nulls = λ k past late short. get_or-set_other (set e fill id) (fill + 1) k s 0 (λ e. omega (arith, e, up, past))
      ∙ get_or-set_other e fill k id 0 (λ e. omega (arith, e, up, past))
      ∙ zeros k (omega (arith, up, past)) short;
}
