-- What contracts see of the weak table: which slots it holds, and the key in each, if it has one. Dividing
-- keys into buckets is this project's own, after .NET's ConditionalWeakTable in outline.
use Rattle.std.specs.Prelude.{◌≡◌, ℕ, ◌+◌, ◌*◌, ◌/◌, ◌%◌, ◌<◌, ◌≤◌, ◌==◌, ◌⊎◌, Bool, false, cond, length, filter, is_none, Option, Some, None, IsSome, refl}
use Rattle.std.specs.Coded.{Coded, code_by, coded×, coded_ℕ, coded_option}
use Rattle.std.specs.FinMap as map
use Rattle.std.specs.FinMap.{FinMap, get, len, entries}
use Rattle.std.specs.Ordering.{nat_cmp}
use Rattle.hd_model.specs.{declared.data.Id.Id, declared.data.Slot.Slot, declared.limits.TheConstants.HOST_BLOCKS, declared.limits.TheConstants.ROWS, Code.id_code, Table.Table, Table.live_at}
use Rattle.hd_cwt.specs.declared.entries.TheConstants.{BUCKETS}

-- the number of blocks that there may be, that of the buckets of keys, and for each held slot, by its number,
-- its key or none
pub record WeakTable : Type 0 where
  pub blocks : ℕ
  pub buckets : ℕ
  pub held : FinMap nat_cmp (Option Id)

abbrev pub weak_table_code : Coded WeakTable
weak_table_code =
    code_by (ℕ × (ℕ × FinMap nat_cmp (Option Id)))
    (coded× coded_ℕ (coded× coded_ℕ (map.code coded_ℕ (coded_option id_code))))
    (λ t. (t.blocks, (t.buckets, t.held)))
    (λ p. record { blocks = p.0; buckets = p.1.0; held = p.1.1 }) (λ _. refl)

-- the slots that the blocks have, and how many of them may be held: those of one block of each pair
abbrev pub slots_of : WeakTable → ℕ
slots_of t = ROWS * (t.blocks + 1)

abbrev pub room_of : WeakTable → ℕ
room_of t = ROWS * (t.blocks / 2)

-- a held slot without a key, and the least of them
abbrev pub IsIdle : WeakTable → ℕ → Type 0
IsIdle t slot = get t.held slot ≡ Some None

pub record IsLeastIdle (t : WeakTable) (slot : Slot) : Type 0 where
  pub idle : IsIdle t slot.0
  pub least : (other : ℕ) → IsIdle t other → slot.0 ≤ other

-- a slot with a key
abbrev pub HasKey : WeakTable → Id → ℕ → Type 0
HasKey t key slot = get t.held slot ≡ Some (Some key)

-- the table has a key, in some slot
pub record IsIn (t : WeakTable) (key : Id) : Type 0 where
  pub slot : ℕ
  pub has : HasKey t key slot

-- a slot that can be given a key: an idle one, or one that is not held while there is room
abbrev pub CanTake : WeakTable → ℕ → Type 0
CanTake t slot = IsIdle t slot ⊎ ((get t.held slot ≡ None) × (len t.held < room_of t))

-- no key is in two slots, each held slot is one of the blocks' and there are no more than there is room for
pub record IsWeakTable (t : WeakTable) : Type 0 where
  pub limit : t.blocks ≤ HOST_BLOCKS
  pub apart : (key : Id) (a b : ℕ) → HasKey t key a → HasKey t key b → a ≡ b
  pub within : (slot : ℕ) → IsSome (get t.held slot) → slot < slots_of t
  pub fits : len t.held ≤ room_of t

-- the bucket of a key, of so many, and whether an entry is in a bucket
abbrev pub bucket_of : (buckets : ℕ) → Id → ℕ
bucket_of buckets key = key.0 % buckets

abbrev pub is_in_bucket : (buckets bucket : ℕ) → Option Id → Bool
is_in_bucket buckets bucket None = false
is_in_bucket buckets bucket (Some key) = bucket_of buckets key == bucket

-- the number of entries in a bucket
abbrev pub entries_in : (buckets : ℕ) → FinMap nat_cmp (Option Id) → (bucket : ℕ) → ℕ
entries_in buckets held bucket =
    length (filter (λ (e : ℕ × Option Id). is_in_bucket buckets bucket e.1) (entries held))

-- a search of a bucket looks at each of its entries where the key is in none, and else at one at least and at
-- no more than these
abbrev pub LooksAt : {A : Type 0} → Option A → (many before after : ℕ) → Type 0
LooksAt None many before after = after ≡ before + many
LooksAt (Some found) many before after = (before + 1 ≤ after) × (after ≤ before + many)

-- the keys of a table that is opened without a number of buckets are divided into 4,096
abbrev pub BucketsAreThese : Type 0
BucketsAreThese = BUCKETS ≡ 4096

-- what a held slot has after a sweep: no key where its row has no target
abbrev pub kept_key : Table → ℕ → Option Id → Option Id
kept_key seg slot key = cond (is_none (live_at seg slot).target) None key
