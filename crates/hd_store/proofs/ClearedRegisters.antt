-- Registers of a caller are cleared, one by one.
use Rattle.hd_store.proofs.StoreWords.{Id, List, None, Option, State, [], ap, arith, get_or, refl, set, suc, sym, with_register, zero, ℕ, ◌+◌, ◌∷◌, ◌≡◌}
use Rattle.hd_store.specs.Hosted.{cleared, with_cleared}

abbrev Row : Type 0
Row = List (Option Id)

cleared-none : (first : ℕ) (row : Row) → cleared first 0 row ≡ row
unfolding cleared
cleared-none first [] = refl
cleared-none zero (x ∷ row) = refl
cleared-none (suc first) (x ∷ row) = ap (λ rest. x ∷ rest) (cleared-none first row)

cleared-next : (first n i : ℕ) → i ≡ first + n → (row : Row)
    → set (cleared first n row) i None ≡ cleared first (suc n) row
unfolding cleared
cleared-next first n i at [] = refl
cleared-next zero zero zero at (x ∷ row) = ap (λ rest. None ∷ rest) (sym (cleared-none 0 row))
cleared-next zero zero (suc i) at (x ∷ row) = absurd (omega (arith, at))
cleared-next zero (suc n) zero at (x ∷ row) = absurd (omega (arith, at))
cleared-next zero (suc n) (suc i) at (x ∷ row) =
    ap (λ rest. None ∷ rest) (cleared-next zero n i (omega (arith, at)) row)
cleared-next (suc first) n zero at (x ∷ row) = absurd (omega (arith, at))
cleared-next (suc first) n (suc i) at (x ∷ row) =
    ap (λ rest. x ∷ rest) (cleared-next first n i (omega (arith, at)) row)

rows-none : (rows : List Row) (c first : ℕ) → set rows c (cleared first 0 (get_or rows c [])) ≡ rows
rows-none [] c first = refl
rows-none (row ∷ rows) zero first = ap (λ r. r ∷ rows) (cleared-none first row)
rows-none (row ∷ rows) (suc c) first = ap (λ rest. row ∷ rest) (rows-none rows c first)

rows-next : (rows : List Row) (c first n : ℕ)
    → set (set rows c (cleared first n (get_or rows c []))) c
    (set (get_or (set rows c (cleared first n (get_or rows c []))) c []) (first + n) None)
    ≡ set rows c (cleared first (suc n) (get_or rows c []))
rows-next [] c first n = refl
rows-next (row ∷ rows) zero first n = ap (λ r. r ∷ rows) (cleared-next first n (first + n) refl row)
rows-next (row ∷ rows) (suc c) first n = ap (λ rest. row ∷ rest) (rows-next rows c first n)

module _ (s : State) (caller first : ℕ) where
  pub clears-none : with_cleared s caller first 0 ≡ s
  clears-none = λ j. record s { registers = rows-none s.registers caller first j }

  pub clears-suc : (n : ℕ)
      → with_register (with_cleared s caller first n) caller (first + n) None ≡ with_cleared s caller first (suc n)
  clears-suc n = λ j. record s { registers = rows-next s.registers caller first n j }
