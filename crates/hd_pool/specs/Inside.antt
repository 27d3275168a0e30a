-- What private clauses alone cite: what is always true of the fields of a pool.
use Rattle.std.specs.Prelude.{◌≡◌, ℕ, ◌/◌, ◌<◌, ◌≤◌, true, false, cond, ◌+◌, ◌*◌, List, length, slice_index_or, Option, Some, None, IsSome, refl}
use Rattle.std.specs.Coded.{Coded, code_by, coded×, coded_ℕ}
use Rattle.std.specs.{FinSet.FinSet, FinSet.code, FinSet.contains, FinSet.insert, Ordering.nat_cmp}
use Rattle.hd_model.specs.{declared.data.Kind.Kind, Kinds.kind_number}
use Rattle.hd_model.specs.declared.limits.TheConstants.{HOST_BLOCKS, KINDS, ROWS}
use Rattle.hd_tiers.specs.Sets.{NumberSet, HasAllOf, HasSomeOf}

-- the kind of a block, if it was added
abbrev pub kind_at : List (Option Kind) → ℕ → Option Kind
kind_at kinds block = slice_index_or kinds block None

-- some of the numbers of the blocks of all kinds, below a limit, the room: each kind has `stride` numbers
pub record KindBlocks : Type 0 where
  pub stride : ℕ
  pub room : ℕ
  pub members : FinSet nat_cmp

abbrev pub kind_blocks_code : Coded KindBlocks
kind_blocks_code =
    code_by (ℕ × (ℕ × FinSet nat_cmp)) (coded× coded_ℕ (coded× coded_ℕ (code coded_ℕ)))
    (λ s. (s.stride, (s.room, s.members)))
    (λ p. record { stride = p.0; room = p.1.0; members = p.1.1 }) (λ _. refl)

-- the number of a block of a kind
abbrev pub index_of : ℕ → Kind → ℕ → ℕ
index_of stride kind block = kind_number kind * stride + block

-- only slots of added blocks are free, and the blocks with a free slot are listed under their kinds
pub record IsPool (kinds : List (Option Kind)) (free : NumberSet) (ready : KindBlocks) : Type 0 where
  pub some : 1 ≤ length kinds
  pub limit : length kinds ≤ HOST_BLOCKS + 1
  pub wide : length kinds ≤ ready.stride
  pub room : ROWS * length kinds ≤ free.room
  pub ready_room : KINDS * ready.stride ≤ ready.room
  pub added : (slot : ℕ) → contains free.members slot ≡ true → IsSome (kind_at kinds (slot / ROWS))
  pub opened : (kind : Kind) (slot : ℕ) → kind_at kinds (slot / ROWS) ≡ Some kind
      → contains free.members slot ≡ true
      → contains ready.members (index_of ready.stride kind (slot / ROWS)) ≡ true
  pub has_free : (kind : Kind) (block : ℕ) → block < ready.stride
      → contains ready.members (index_of ready.stride kind block) ≡ true
      → (kind_at kinds block ≡ Some kind) × HasSomeOf free.members block

-- the blocks whose slots are all free are listed under their kinds
pub record IsWholes (kinds : List (Option Kind)) (free : NumberSet) (stride : ℕ) (wholes : NumberSet) : Type 0
  where
    pub room : KINDS * stride ≤ wholes.room
    pub listed : (kind : Kind) (block : ℕ) → kind_at kinds block ≡ Some kind → HasAllOf free.members block
        → contains wholes.members (index_of stride kind block) ≡ true
    pub all_free : (kind : Kind) (block : ℕ) → block < stride
        → contains wholes.members (index_of stride kind block) ≡ true
        → (kind_at kinds block ≡ Some kind) × HasAllOf free.members block

-- a set with a block in it, at its number of a stride `to`, where an old set has it at that of a stride `from`
abbrev pub with_block : (from to : ℕ) → Option Kind → ℕ → (old new : FinSet nat_cmp) → FinSet nat_cmp
with_block from to None block old new = new
with_block from to (Some kind) block old new =
    cond (contains old (index_of from kind block)) (insert new (index_of to kind block)) new

-- a set has, at the numbers of a stride `to`, what another has at those of a stride `from`, for the blocks
-- below one
pub record IsMoved (kinds : List (Option Kind)) (from to upto : ℕ) (old new : FinSet nat_cmp) : Type 0 where
  pub kept : (kind : Kind) (block : ℕ) → block < upto → kind_at kinds block ≡ Some kind
      → contains new (index_of to kind block) ≡ contains old (index_of from kind block)
  pub only : (kind : Kind) (block : ℕ) → block < to → contains new (index_of to kind block) ≡ true
      → (kind_at kinds block ≡ Some kind) × ((block < upto) × (contains old (index_of from kind block) ≡ true))

-- the least member from a number on and below another, or a number that is not below the other
pub record IsLeastOrEnd (s : FinSet nat_cmp) (from to n : ℕ) : Type 0 where
  pub low : from ≤ n
  pub least : (k : ℕ) → from ≤ k → k < to → k < n → contains s k ≡ false
  pub member : n < to → contains s n ≡ true

-- for each kind, by its number, the least member of the kind, or a number past all of the kind
pub record AreLeast (stride : ℕ) (s : FinSet nat_cmp) (least : List ℕ) : Type 0 where
  pub limit : stride ≤ HOST_BLOCKS + 1
  pub many : length least ≡ KINDS
  pub each : (kind : ℕ) → kind < KINDS
      → IsLeastOrEnd s (kind * stride) (kind * stride + stride) (slice_index_or least kind 0)
