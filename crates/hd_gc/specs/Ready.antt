-- What a collection looks at, and what must be true of it.
use Rattle.std.specs.Prelude.{◌≡◌, ℕ, ◌*◌, ◌≤◌, List, Option, length}
use Rattle.std.specs.FinMap.{len}
use Rattle.hd_model.specs.{declared.data.Addr.Addr, declared.limits.TheConstants.CLUMPS, Scene.Scene, Scene.IsWhole, Ages.HasSoundAges, Ages.HasSoundCards}
use Rattle.hd_model.specs.Heap.{Heap, object_at, is_carded, HasIdentities}
use Rattle.hd_model.specs.Table.{Table, Queue, row_at}
use Rattle.hd_plan.specs.Plan.{HasNoEmptyRegion}

-- the heap, the table and the ages of its clumps, the finalization queue, and what registers and statics
-- reference
pub record Parts : Type 0 where
  pub heap : Heap
  pub table : Table
  pub ages : List ℕ
  pub queue : Queue
  pub roots : List (Option Addr)

abbrev pub parts : Heap → Table → List ℕ → Queue → List (Option Addr) → Parts
parts h t ages q roots = record { heap = h; table = t; ages = ages; queue = q; roots = roots }

-- the scene by address
abbrev pub scene_of : Parts → Scene Addr
scene_of p = record {
  object = object_at p.heap;
  handle = row_at p.table;
  named = p.roots;
  queue = p.queue.queued;
}

-- each reference is to an object, no two objects have one identity, ages and cards rule out what may be
-- skipped, each region in use has an object, there is an age for each clump, and the queue has room for all
-- objects
pub record IsReady (p : Parts) : Type 0 where
  pub whole : IsWhole (scene_of p)
  pub identities : HasIdentities p.heap
  pub ages_sound : HasSoundAges (object_at p.heap) (row_at p.table) p.ages
  pub cards_sound : HasSoundCards (object_at p.heap) (is_carded p.heap)
  pub full : HasNoEmptyRegion p.heap
  pub clumps : length p.ages ≡ CLUMPS * p.table.blocks
  pub room : len p.heap.objects ≤ p.queue.room
