-- What private clauses alone cite.
use Rattle.std.specs.Prelude.{◌≡◌, ℕ, ◌<◌, List, [], ◌∷◌, length, slice_index_or, slice_set, ◌≢◌, ◌+◌, ◌-◌, ◌*◌, ◌≤◌, true, false, Bool, is_none, Option, Some, None, Contains, AllPairs, ◌^◌}
use Rattle.std.specs.FinMap.{get, insert, len}
use Rattle.std.specs.FinSet.{contains}
use Rattle.hd_model.specs.{declared.data.Id.Id, declared.limits.TheConstants.HOST_BLOCKS, declared.limits.TheConstants.ROWS, Table.Table, Table.live_at}
use Rattle.hd_tiers.specs.Sets.{NumberSet}
use Rattle.hd_cwt.specs.WeakTable.{WeakTable, bucket_of, room_of, slots_of, IsWeakTable}

-- ---- rings of nodes, as lists of the next and of the previous node of each

-- what a list of nodes has for a node
abbrev pub node_at : List ℕ → ℕ → ℕ
node_at nodes x = slice_index_or nodes x 0

-- the next nodes, where two nodes exchanged theirs, and the previous ones
abbrev pub exchanged : List ℕ → ℕ → ℕ → List ℕ
exchanged next a b = slice_set (slice_set next a (node_at next b)) b (node_at next a)

abbrev pub turned : List ℕ → List ℕ → ℕ → ℕ → List ℕ
turned next previous a b = slice_set (slice_set previous (node_at next b) a) (node_at next a) b

-- from a node on the next nodes are those of a list, and then an end
abbrev pub IsWalk : List ℕ → ℕ → List ℕ → ℕ → Type 0
IsWalk next x [] end = node_at next x ≡ end
IsWalk next x (s ∷ ss) end = (node_at next x ≡ s) × IsWalk next s ss end

-- next and previous are each other's inverse
pub record IsRings (next previous : List ℕ) : Type 0 where
  pub size : length previous ≡ length next
  pub within : (x : ℕ) → x < length next → node_at next x < length next
  pub back_within : (x : ℕ) → x < length next → node_at previous x < length next
  pub ahead : (x : ℕ) → x < length next → node_at previous (node_at next x) ≡ x
  pub behind : (x : ℕ) → x < length next → node_at next (node_at previous x) ≡ x

-- ---- what is always true of the fields of a weak table

-- whether a slot is held, and its key
abbrev pub entry_at : List (Option (Option Id)) → ℕ → Option (Option Id)
entry_at held slot = slice_index_or held slot None

-- the bucket of a slot's key
abbrev pub bucket_in : (buckets : ℕ) → Option (Option Id) → Option ℕ
bucket_in buckets None = None
bucket_in buckets (Some None) = None
bucket_in buckets (Some (Some key)) = Some (bucket_of buckets key)

-- whether a slot is held and has no key
abbrev pub idle_in : Option (Option Id) → Bool
idle_in None = false
idle_in (Some None) = true
idle_in (Some (Some key)) = false

-- the slots of a bucket's keys, each once, along the ring of the node `end`
pub record IsBucket (buckets : ℕ) (held : List (Option (Option Id))) (next : List ℕ) (end bucket : ℕ)
    (list : List ℕ) : Type 0 where
  pub walk : IsWalk next end list end
  pub once : AllPairs (λ x y. x ≢ y) list
  pub into : (s : ℕ) → bucket_in buckets (entry_at held s) ≡ Some bucket → Contains list s
  pub from : (s : ℕ) → Contains list s → bucket_in buckets (entry_at held s) ≡ Some bucket

-- some list of slots is the ring of a bucket
pub record HasBucket (buckets : ℕ) (held : List (Option (Option Id))) (next : List ℕ) (end bucket : ℕ)
    : Type 0 where
  pub list : List ℕ
  pub is : IsBucket buckets held next end bucket list

-- the nodes are the slots, and then one for each bucket, whose ring is the bucket; a slot without a key is
-- alone
pub record IsLinked (buckets : ℕ) (held : List (Option (Option Id))) (next previous : List ℕ) : Type 0 where
  pub rings : IsRings next previous
  pub nodes : length next ≡ length held + buckets
  pub each : (b : ℕ) → b < buckets → HasBucket buckets held next (length held + b) b
  pub alone : (s : ℕ) → s < length held → bucket_in buckets (entry_at held s) ≡ None → node_at next s ≡ s

-- a set has exactly the idle slots, and room for each slot
pub record HasIdle (held : List (Option (Option Id))) (idle : NumberSet) : Type 0 where
  pub room : length held ≤ idle.room
  pub each : (s : ℕ) → contains idle.members s ≡ idle_in (entry_at held s)

-- what is always true of the entries
pub record IsEntries (blocks buckets : ℕ) (held : List (Option (Option Id))) (next previous : List ℕ)
    (idle : NumberSet) : Type 0 where
  pub limit : blocks ≤ HOST_BLOCKS
  pub some : 0 < buckets
  pub few : buckets < 2 ^ 31
  pub size : length held ≡ ROWS * (blocks + 1)
  pub linked : IsLinked buckets held next previous
  pub idle_slots : HasIdle held idle

-- whether a slot is held and has a key
abbrev pub keyed_in : Option (Option Id) → Bool
keyed_in None = false
keyed_in (Some None) = false
keyed_in (Some (Some key)) = true

-- a slot is listed at its index
abbrev pub IsListedAt : (slots indexes : List ℕ) (slot : ℕ) → Type 0
IsListedAt slots indexes slot =
    (node_at indexes slot < length slots) × (node_at slots (node_at indexes slot) ≡ slot)

-- the number of the held slots, and the list of those with a key, each of which has its index there
pub record IsListed (t : WeakTable) (count : ℕ) (slots indexes : List ℕ) (capacity : ℕ) : Type 0 where
  pub table : IsWeakTable t
  pub counted : count ≡ len t.held
  pub room : room_of t ≤ capacity
  pub size : slots_of t ≤ length indexes
  pub into : (s : ℕ) → keyed_in (get t.held s) ≡ true → IsListedAt slots indexes s
  pub from : (i : ℕ) → i < length slots → keyed_in (get t.held (node_at slots i)) ≡ true
  pub placed : (i : ℕ) → i < length slots → node_at indexes (node_at slots i) ≡ i

-- a slot was taken off the list, and the last one has taken its index
pub record IsUnlisted (slots indexes new_slots new_indexes : List ℕ) (slot : ℕ) : Type 0 where
  pub shorter : length new_slots + 1 ≡ length slots
  pub moved :
      node_at indexes slot + 1 < length slots
      → node_at new_slots (node_at indexes slot) ≡ node_at slots (length slots - 1)
  pub kept :
      (i : ℕ) → i ≢ node_at indexes slot → i + 1 < length slots → node_at new_slots i ≡ node_at slots i
  pub replaced : new_indexes ≡ slice_set indexes (node_at slots (length slots - 1)) (node_at indexes slot)

-- a table with what a slot has in another, if anything
abbrev pub copied : WeakTable → ℕ → Option (Option Id) → WeakTable
copied t slot None = t
copied t slot (Some entry) = record t { held = insert t.held slot entry }

-- a slot with a key is swept: where its row has no target, its key is taken and it is listed no more
pub record IsTaken (seg : Table) (slot : ℕ) (old new : WeakTable)
    (slots indexes new_slots new_indexes : List ℕ) : Type 0 where
  pub null : is_none (live_at seg slot).target ≡ true
  pub entries : new ≡ record old { held = insert old.held slot None }
  pub lists : IsUnlisted slots indexes new_slots new_indexes slot

-- a slot with a key is swept: where its row has a target, nothing changes
pub record IsLeft (seg : Table) (slot : ℕ) (old new : WeakTable)
    (slots indexes new_slots new_indexes : List ℕ) : Type 0 where
  pub target : is_none (live_at seg slot).target ≡ false
  pub entries : new ≡ old
  pub slots_are : new_slots ≡ slots
  pub indexes_are : new_indexes ≡ indexes
