-- The heap and the table under a state: which object is at which address, which handle is in which row, what
-- keeps its address over a command, and how a collection leaves the heap.
use Rattle.std.specs.Prelude.{◌≡◌, ◌↔◌, ℕ, ◌+◌, ◌/◌, ◌≤◌, true, false, Some, option_map}
use Rattle.std.specs.FinMap.{FinMap, get, len}
use Rattle.std.specs.Ordering.{nat_cmp}
use Rattle.hd_model.specs.{declared.data.Id.Id, declared.data.Entry.Entry, declared.data.Report.Report, declared.limits.TheConstants.LEFT, declared.limits.TheConstants.OPEN, State.Handle, State.State, State.rename_handle, State.row_of, Table.Table, Table.row_at, Step.pinned_target, Reach.IsPinned, Ages.HasSoundCards, Text.is_collect, Counting.Counts}
use Rattle.hd_model.specs.declared.data.Reply.TheVariants as reply
use Rattle.hd_model.specs.declared.command.Cmd.TheVariants as cmd
use Rattle.hd_model.specs.Heap.{Placed, Heap, object_at, id_at, is_carded, is_set, used_of, HasIdentities}
use Rattle.hd_plan.specs.Commit.{NeedsCard}
use Rattle.hd_store.specs.Reading.{objects_by_id}

-- the object with an identity is at an address: the header there has the identity
abbrev pub IsStoredAt : Heap → Id → ℕ → Type 0
IsStoredAt h x address = option_map (λ (p : Placed). p.id) (get h.objects address) ≡ Some x

-- a state is that of a heap: its objects are those of the heap, each under the identity in its header, which
-- no other has; each pinned address is that of its object; and an object with a field to a younger one has
-- its card set
pub record IsOfHeap (s : State) (h : Heap) : Type 0 where
  pub objects : s.objects ≡ objects_by_id h
  pub identities : HasIdentities h
  pub pinned : (x address : ℕ) → get s.pinned x ≡ Some address → IsStoredAt h (record { 0 = x }) address
  pub cards : HasSoundCards (object_at h) (is_carded h)

-- a state is that of a table: with each address read as the identity there, the row of a slot is its handle,
-- or the dependent handle by which the weak table attaches a value to a key, which is null in an idle slot; a
-- slot with none of these has no row; and each block has the use that the state says
pub record IsOfTable (s : State) (h : Heap) (t : Table) : Type 0 where
  pub rows : (slot : ℕ) → option_map (rename_handle (id_at h)) (row_at t slot) ≡ row_of s slot
  pub uses : t.uses ≡ s.blocks

-- `addr` returns the address of what the handle pins (GCHandle.AddrOfPinnedObject); over an entry an object
-- keeps its address where a handle pins it, and each object does where the entry is of no collection
pub record KeepsStored (e : Entry) (s : State) (old new : Heap) : Type 0 where
  pub returned :
      (h address : ℕ) (x : Id) → e.cmd ≡ cmd.AddrOf h → e.reply ≡ reply.Place address
      → pinned_target s e.caller h ≡ Some x → IsStoredAt new x address
  pub pinned :
      (x : Id) (address : ℕ) → IsPinned (λ slot. get s.handles slot) x
      → IsStoredAt old x address → IsStoredAt new x address
  pub others :
      is_collect e.cmd ≡ false
      → (x : Id) (address : ℕ) → IsStoredAt old x address → IsStoredAt new x address

-- the regions in use are at most used / 193 + 3, and one more for each object that a handle pins
pub record IsCompactStore (handles : FinMap nat_cmp (Handle Id)) (heap : Heap) : Type 0 where
  pub pinned : ℕ
  pub pinned_is : Counts (IsPinned (λ slot. get handles slot)) pinned
  pub regions : len heap.regions ≤ used_of heap / LEFT + OPEN + pinned

-- after a collection that returns a report the cards are set exactly where they are needed, and after one of
-- generation 2 the heap is compact
pub record LeavesHeap (e : Entry) (handles : FinMap nat_cmp (Handle Id)) (heap : Heap) : Type 0 where
  pub cards :
      (n : ℕ) (report : Report) → e.cmd ≡ cmd.Collect n → e.reply ≡ reply.Report report
      → (card : ℕ) → (is_set heap card ≡ true) ↔ NeedsCard heap card
  pub compact :
      (report : Report) → e.cmd ≡ cmd.Collect 2 → e.reply ≡ reply.Report report
      → IsCompactStore handles heap
