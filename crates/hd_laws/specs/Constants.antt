-- Every limit, bound and number of a word of this crate, written out. Definitions cite the constants; here
-- each equals the numeral that it is meant to be.
use Rattle.std.specs.Prelude.{◌≡◌, ℕ, ◌+◌, ◌*◌, [], ◌∷◌, map}
use Rattle.hd_model.specs.declared.data.TheConstants.Kind.{ALL}
use Rattle.hd_model.specs.declared.limits.TheConstants.{CALLERS, HOST_CONTEXTS, REGISTERS, FIELDS, HEADER, OLDEST, REGION, REGIONS, CARD, LEFT, OPEN, HEAP, BLOCKS, HOST_HEAP, HOST_BLOCKS, KINDS, ROWS, CLUMP, CLUMPS, MOST_BYTES, MOST_COMMANDS, MOST_ROUNDS, LOAD_CALLERS, ROUNDS_TO_COLLECTION}
use Rattle.hd_model.specs.Kinds.{all_kinds, kind_number}
use Rattle.hd_model.specs.State.{identity_of, first_slot}

-- the numbers of a script and its callers
pub record ScriptNumbers : Type 0 where
  pub callers : CALLERS ≡ 16
  pub registers : REGISTERS ≡ 16
  pub fields : FIELDS ≡ 61
  pub oldest : OLDEST ≡ 2
  pub heap : HEAP ≡ 1000000
  pub blocks : BLOCKS ≡ 256
  pub bytes : MOST_BYTES ≡ 8388608
  pub commands : MOST_COMMANDS ≡ 100000

-- the numbers of a host
pub record HostNumbers : Type 0 where
  pub contexts : HOST_CONTEXTS ≡ 65536
  pub heap : HOST_HEAP ≡ 1073741824
  pub blocks : HOST_BLOCKS ≡ 65536

-- the numbers of a load
pub record LoadNumbers : Type 0 where
  pub rounds : MOST_ROUNDS ≡ 3000
  pub callers : LOAD_CALLERS ≡ 4
  pub to_collection : ROUNDS_TO_COLLECTION ≡ 16

-- the numbers of the heap, in cells but for those of regions. A region is left where 193 of its cells are
-- taken, and three may be open.
pub record HeapNumbers : Type 0 where
  pub header : HEADER ≡ 3
  pub region : REGION ≡ 256
  pub regions : REGIONS ≡ 16777216
  pub card : CARD ≡ 32
  pub left : LEFT ≡ 193
  pub open_regions : OPEN ≡ 3

-- the numbers of the table: kinds, slots of a block, slots of a clump, clumps of a block
pub record TableNumbers : Type 0 where
  pub kinds : KINDS ≡ 7
  pub rows : ROWS ≡ 64
  pub clump : CLUMP ≡ 16
  pub clumps : CLUMPS ≡ 4

-- an identity is its caller's number times 2^32 and a serial, and a block's slots begin at 64 times its
-- number
pub record NameNumbers : Type 0 where
  pub identity : (caller serial : ℕ) → (identity_of caller serial).0 ≡ caller * 4294967296 + serial
  pub slot : (block : ℕ) → (first_slot block).0 ≡ block * 64

-- the numbers of the kinds, in their order, and the constant that lists them
pub record KindNumbers : Type 0 where
  pub numbers : map kind_number all_kinds ≡ 0 ∷ 1 ∷ 2 ∷ 3 ∷ 4 ∷ 5 ∷ 6 ∷ []
  pub all : ALL ≡ all_kinds

-- all numbers are these
pub record NumbersAreThese : Type 0 where
  pub script : ScriptNumbers
  pub host : HostNumbers
  pub load : LoadNumbers
  pub heap : HeapNumbers
  pub table : TableNumbers
  pub kinds : KindNumbers
  pub names : NameNumbers
