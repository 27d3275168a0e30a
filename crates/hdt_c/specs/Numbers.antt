-- The numbers of `hdt.h`, written out: what C compares.
use Rattle.std.specs.Prelude.{◌≡◌, ℕ, ◌==◌, ◌&&◌, Bool, true, not, List, [], ◌∷◌, map}
use Rattle.std.specs.List.{list_any}
use Rattle.hd_model.specs.Kinds.{all_kinds, kind_number}
use Rattle.hd_model.specs.declared.limits.TheConstants.{HOST_HEAP, HOST_BLOCKS, HOST_CONTEXTS}
use Rattle.hd_model.specs.declared.data.Kind.TheVariants as kind
use Rattle.hd_model.specs.declared.data.Strength.TheVariants as strength
use Rattle.hd_host.specs.declared.fault.Fault.TheVariants as fault
use Rattle.hdt_c.specs.Arguments.{strength_number}
use Rattle.hdt_c.specs.Status.{status_of}
use Rattle.hdt_c.specs.declared.on_host.TheConstants.{ABI}
use Rattle.hdt_c.specs.declared.arguments.TheConstants.{FINALIZABLE}
use Rattle.hdt_c.specs.declared.status.TheConstants.{OK, CLOSED, IS_OPEN, ARGUMENT, NO_MEMORY, EXHAUSTED, STALE, WRONG_KIND, COUNT_ZERO, NULL, NO_FIELD, PRESENT, HEAP_FULL, TABLE_FULL, NONE, BUSY, ROOM}

-- whether no number comes twice
abbrev pub no_two_alike : List ℕ → Bool
no_two_alike [] = true
no_two_alike (n ∷ ns) = not (list_any (λ m. m == n) ns) && no_two_alike ns

-- the statuses
pub record StatusesAreThese : Type 0 where
  pub ok : OK ≡ 0
  pub closed : CLOSED ≡ 1
  pub is_open : IS_OPEN ≡ 2
  pub argument : ARGUMENT ≡ 3
  pub no_memory : NO_MEMORY ≡ 4
  pub exhausted : EXHAUSTED ≡ 5
  pub stale : STALE ≡ 6
  pub wrong_kind : WRONG_KIND ≡ 7
  pub count_zero : COUNT_ZERO ≡ 8
  pub null : NULL ≡ 9
  pub no_field : NO_FIELD ≡ 10
  pub present : PRESENT ≡ 11
  pub heap_full : HEAP_FULL ≡ 12
  pub table_full : TABLE_FULL ≡ 13
  pub none : NONE ≡ 14
  pub busy : BUSY ≡ 15
  pub room : ROOM ≡ 16
  pub apart : no_two_alike
      (OK ∷ CLOSED ∷ IS_OPEN ∷ ARGUMENT ∷ NO_MEMORY ∷ EXHAUSTED ∷ STALE ∷ WRONG_KIND ∷ COUNT_ZERO ∷ NULL
      ∷ NO_FIELD ∷ PRESENT ∷ HEAP_FULL ∷ TABLE_FULL ∷ NONE ∷ BUSY ∷ ROOM ∷ [])
      ≡ true

-- the status of each fault
pub record FaultsHaveThese : Type 0 where
  pub memory : status_of fault.Memory ≡ 4
  pub exhausted : status_of fault.Exhausted ≡ 5
  pub stale : status_of fault.Stale ≡ 6
  pub wrong_kind : status_of fault.WrongKind ≡ 7
  pub count_zero : status_of fault.CountZero ≡ 8
  pub null : status_of fault.Null ≡ 9
  pub no_field : status_of fault.NoField ≡ 10
  pub present : status_of fault.Present ≡ 11
  pub heap_full : (used size : ℕ) → status_of (fault.HeapFull used size) ≡ 12
  pub table_full : (given : ℕ) → status_of (fault.TableFull given) ≡ 13

-- the kinds
pub record KindsAreThese : Type 0 where
  pub short : kind_number kind.Short ≡ 0
  pub long : kind_number kind.Long ≡ 1
  pub strong : kind_number kind.Strong ≡ 2
  pub pinned : kind_number kind.Pinned ≡ 3
  pub variable : kind_number kind.Variable ≡ 4
  pub counted : kind_number kind.Counted ≡ 5
  pub dependent : kind_number kind.Dependent ≡ 6
  pub apart : no_two_alike (map kind_number all_kinds) ≡ true

-- the strengths of variable handles: each is the number of the kind that it is like
pub record StrengthsAreThese : Type 0 where
  pub short : strength_number strength.Short ≡ 0
  pub long : strength_number strength.Long ≡ 1
  pub strong : strength_number strength.Strong ≡ 2
  pub pinned : strength_number strength.Pinned ≡ 3

-- the flags of a new object
pub record FlagsAreThese : Type 0 where
  pub finalizable : FINALIZABLE ≡ 1

-- the most cells, blocks and contexts of a host
pub record LimitsAreThese : Type 0 where
  pub cells : HOST_HEAP ≡ 1073741824
  pub blocks : HOST_BLOCKS ≡ 65536
  pub contexts : HOST_CONTEXTS ≡ 65536

pub record NumbersAreThese : Type 0 where
  pub version : ABI ≡ 2
  pub statuses : StatusesAreThese
  pub faults : FaultsHaveThese
  pub kinds : KindsAreThese
  pub strengths : StrengthsAreThese
  pub flags : FlagsAreThese
  pub limits : LimitsAreThese
