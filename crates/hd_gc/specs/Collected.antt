-- What a collection leaves.
use Rattle.std.specs.Prelude.{◌≡◌, ◌↔◌, ℕ, ◌+◌, ◌<◌, ◌≤◌, true, length, max}
use Rattle.std.specs.FinMap.{len}
use Rattle.hd_model.specs.{declared.data.Id.Id, declared.data.Addr.Addr, declared.data.Report.Report, declared.limits.TheConstants.OLDEST, Reach.IsPinned, Collect.Collects, Counting.Counts, Ages.grown, Compact.IsCompact, Table.Table, Table.row_at, Visits.IsSameTable}
use Rattle.hd_model.specs.Scene.{Scene, IsReading, IsCondemned, generation_at}
use Rattle.hd_model.specs.Heap.{Heap, has_object, object_at, id_at, is_set, used_of}
use Rattle.hd_plan.specs.{Commit.NeedsCard, Commit.all_regions, Plan.NeedsFree, PackedRegions.IsPacked}
use Rattle.hd_gc.specs.Ready.{Parts, scene_of, IsReady}
use Rattle.hd_gc.specs.Steps.{collected_steps}

-- after a collection of n the regions that were no older ones before are few: for each condemned object that
-- a handle pins, one may stay; the others are packed
pub record LeavesPacked (h h2 : Heap) (t : Table) (n : ℕ) : Type 0 where
  pub pinned : ℕ
  pub pinned_is : Counts (λ x. IsCondemned (object_at h) n x × IsPinned (row_at t) x) pinned
  pub regions : IsPacked h h2 n pinned

-- no region is lost, and none is added where as many are free as all condemned objects may need
pub record HoldsRegions (h h2 : Heap) (n : ℕ) : Type 0 where
  pub needed : ℕ
  pub needs : NeedsFree h n needed
  pub number : all_regions h2 ≡ len h.regions + max needed (length h.free)

-- whatever reads the state before and after by identity sees a collection of n with the report; the state is
-- ready for another one; an object that a handle pins keeps its address; cards are set exactly where they are
-- needed; the objects take no more cells than before; the regions in use are packed, and after a collection
-- of the oldest generation the heap is compact
pub record Collected (p q : Parts) (n : ℕ) (report : Report) (before after : ℕ) : Type 0 where
  pub collects :
      (u v : Scene Id) → IsReading (id_at p.heap) (scene_of p) u → IsReading (id_at q.heap) (scene_of q) v
      → Collects (λ (x : Id). x.0) n u v report
  pub ready : IsReady q
  pub pinned :
      (x : Addr) → IsPinned (row_at p.table) x
      → (has_object q.heap x ≡ true) × (id_at q.heap x ≡ id_at p.heap x)
  pub older :
      (x : Addr) → n < generation_at (object_at p.heap) x
      → (has_object q.heap x ≡ true) × (id_at q.heap x ≡ id_at p.heap x)
  pub aged : q.ages ≡ grown n p.ages
  pub cards : (card : ℕ) → (is_set q.heap card ≡ true) ↔ NeedsCard q.heap card
  pub used : used_of q.heap ≤ used_of p.heap
  pub limit : q.heap.limit ≡ p.heap.limit
  pub table : IsSameTable p.table q.table
  pub room : q.queue.room ≡ p.queue.room
  pub steps : after ≡ collected_steps p.table p.ages n before
  pub packed : LeavesPacked p.heap q.heap p.table n
  pub compact : n ≡ OLDEST → IsCompact q.heap (row_at q.table)
