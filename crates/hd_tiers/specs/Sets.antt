-- Sets of numbers with a least member. A block is 64 numbers, which one mask keeps: number i is bit i % 64 of
-- mask i / 64. This project's own format.
use Rattle.std.specs.Prelude.{◌≡◌, ℕ, ◌*◌, ◌/◌, ◌%◌, ◌==◌, ◌<◌, ◌≤◌, Bool, true, false, List, filter, length, refl, slice_index}
use Rattle.std.specs.Coded.{Coded, code_by, coded×, coded_ℕ}
use Rattle.std.specs.FinSet.{FinSet, code, contains, from_list}
use Rattle.std.specs.Int.{bit_at}
use Rattle.std.specs.List.{range_with_len}
use Rattle.std.specs.Ordering.{nat_cmp}
use Rattle.hd_mask.specs.declared.TheConstants.{BITS}

-- a set of numbers below a limit, its room
pub record NumberSet : Type 0 where
  pub room : ℕ
  pub members : FinSet nat_cmp

abbrev pub number_set_code : Coded NumberSet
number_set_code =
    code_by (ℕ × FinSet nat_cmp) (coded× coded_ℕ (code coded_ℕ)) (λ s. (s.room, s.members))
    (λ p. record { room = p.0; members = p.1 }) (λ _. refl)

-- whether a number is in the set of some masks
abbrev pub is_marked : List ℕ → ℕ → Bool
is_marked masks i = bit_at (slice_index masks (i / BITS)) (i % BITS) == 1

-- the set of numbers whose bits are set in the masks
unfoldable pub set_of : List ℕ → FinSet nat_cmp
set_of masks = from_list (filter (is_marked masks) (range_with_len 0 (BITS * length masks)))

-- the numbers of one block
unfoldable pub numbers_of : ℕ → FinSet nat_cmp
numbers_of block = from_list (range_with_len (BITS * block) BITS)

-- the least member from a number on
pub record IsLeastFrom (s : FinSet nat_cmp) (from i : ℕ) : Type 0 where
  pub low : from ≤ i
  pub member : contains s i ≡ true
  pub least : (k : ℕ) → from ≤ k → k < i → contains s k ≡ false

-- there is no member from a number on
abbrev pub HasNoneFrom : FinSet nat_cmp → ℕ → Type 0
HasNoneFrom s from = (k : ℕ) → from ≤ k → contains s k ≡ false

-- the least member from a number on and below another
pub record IsLeastBetween (s : FinSet nat_cmp) (from to i : ℕ) : Type 0 where
  pub low : from ≤ i
  pub high : i < to
  pub member : contains s i ≡ true
  pub least : (k : ℕ) → from ≤ k → k < i → contains s k ≡ false

-- there is no member from a number on and below another
abbrev pub HasNoneBetween : FinSet nat_cmp → ℕ → ℕ → Type 0
HasNoneBetween s from to = (k : ℕ) → from ≤ k → k < to → contains s k ≡ false

-- all numbers from one on and below another are members
abbrev pub HasAllBetween : FinSet nat_cmp → ℕ → ℕ → Type 0
HasAllBetween s from to = (k : ℕ) → from ≤ k → k < to → contains s k ≡ true

-- the least number from one on that is no member
pub record IsGapFrom (s : FinSet nat_cmp) (from i : ℕ) : Type 0 where
  pub low : from ≤ i
  pub outside : contains s i ≡ false
  pub inside : HasAllBetween s from i

-- all numbers of a block are members
abbrev pub HasAllOf : FinSet nat_cmp → ℕ → Type 0
HasAllOf s block = (i : ℕ) → i / BITS ≡ block → contains s i ≡ true

-- no number of a block is a member
abbrev pub HasNoneOf : FinSet nat_cmp → ℕ → Type 0
HasNoneOf s block = (i : ℕ) → i / BITS ≡ block → contains s i ≡ false

-- some number of a block is a member
pub record HasSomeOf (s : FinSet nat_cmp) (block : ℕ) : Type 0 where
  pub number : ℕ
  pub of_block : number / BITS ≡ block
  pub member : contains s number ≡ true

-- the least member of a block
pub record IsLeastOf (s : FinSet nat_cmp) (block i : ℕ) : Type 0 where
  pub of_block : i / BITS ≡ block
  pub member : contains s i ≡ true
  pub least : (k : ℕ) → k / BITS ≡ block → k < i → contains s k ≡ false
