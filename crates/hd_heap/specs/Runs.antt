-- Objects that go together from one region to one other, and what copying them leaves.
use Rattle.std.specs.Prelude.{◌≡◌, ◌≢◌, ℕ, zero, suc, ◌+◌, ◌<◌, ◌≤◌, ◌&&◌, Bool, true, nat_eq, nat_lt, List, length}
use Rattle.hd_model.specs.declared.limits.TheConstants.{REGION}
use Rattle.hd_model.specs.declared.data.Addr.{Addr}
use Rattle.hd_model.specs.Scene.{IsField}
use Rattle.hd_model.specs.Heap.{Heap, cells_of, has_object, is_in_use, object_at, placed_at, region_at, region_of}
use Rattle.hd_heap.specs.declared.moves.Move.{Move}
use Rattle.hd_heap.specs.Calls.{with_moved}
use Rattle.hd_heap.specs.Moves.{is_following, move_at}

-- the k-th move is of an object that goes after the one before it, from the region of another one and to the
-- same
abbrev pub goes_with : List Move → ℕ → Move → Bool
goes_with ms k head = nat_lt k (length ms) && is_following (move_at ms k).fate
    && nat_eq (region_of (move_at ms k).from) (region_of head.from)
    && nat_eq (region_of (move_at ms k).to) (region_of head.to)

-- the moves from `first` up to `end` go with the first of them
pub record IsRun (ms : List Move) (first end : ℕ) : Type 0 where
  pub some : first < end
  pub within : end ≤ length ms
  pub with_first : (k : ℕ) → first < k → k < end → goes_with ms k (move_at ms first) ≡ true

-- ---- in a heap

-- a heap after the objects of n moves from the first on were copied
unfoldable pub run_copied : (Addr → Addr) → Heap → List Move → (first n : ℕ) → Heap
run_copied forwarding h ms first zero = h
run_copied forwarding h ms first (suc n) =
    let m = move_at ms (first + n) in
    with_moved (run_copied forwarding h ms first n) m.from (region_of m.to) forwarding

-- what each object that goes with the first needs: it is there, what it references is kept and has an
-- address, and after those before it there is room for it
pub record MayRun (kept : Addr → Bool) (forwarding : Addr → Addr) (h : Heap) (ms : List Move) (first : ℕ)
    : Type 0
  where
    pub within : first < length ms
    pub apart : region_of (move_at ms first).from ≢ region_of (move_at ms first).to
    pub held : is_in_use h (region_of (move_at ms first).to) ≡ true
    pub objects : (k : ℕ) → IsRun ms first (k + 1) → has_object h (move_at ms k).from ≡ true
    pub kept_fields : (k : ℕ) → IsRun ms first (k + 1)
        → (y : Addr) → IsField (object_at h) (move_at ms k).from y → kept y ≡ true
    pub room : (n : ℕ) → IsRun ms first (first + n + 1)
        → let r = region_of (move_at ms first).to in
        (region_at (run_copied forwarding h ms first n) r).fill + cells_of (placed_at h (move_at ms (first + n)).from)
        ≤ REGION
