-- What private clauses alone cite.
use Rattle.std.specs.Prelude.{ℕ, Bool, ◌+◌, ◌*◌, List, ◌≡◌, ◌↔◌, ◌⊎◌, true, ◌<◌, false, ◌++◌, option_map, length, slice_index_or, Contains, AllPairs, ◌≤◌, cond, Option, Some, None, map, take, drop}
use Rattle.std.specs.{Bool.Decides, FinMap.len}
use Rattle.hd_model.specs.{declared.data.Addr.Addr, declared.data.Report.Report, Counting.Counts, Marking.IsKeeping, Ages.HasSoundCards, Ages.is_due}
use Rattle.hd_model.specs.State.{Handle, secondary_of, rename_handle}
use Rattle.hd_model.specs.Table.{Table, row_at, Queue}
use Rattle.hd_model.specs.Visits.{IsSameTable, visits_of, MayVisitDue}
use Rattle.hd_mark.specs.Marks.{MarksOf, promoted_in, pinned_in, IsSettledMarks}
use Rattle.hd_scan.specs.{Passes.PassView, Passes.view_at, Whole.WholeClear}
use Rattle.hd_model.specs.Heap.{Basis, Heap, object_at, objects_of, id_at, HasIdentities, is_carded}
use Rattle.hd_scan.specs.Tasks.{root_tasks, short_tasks, long_tasks}
use Rattle.hd_model.specs.Leads.{Grows, Leads, IsClosed}
use Rattle.hd_model.specs.Reach.{IsHeld, IsPinned, IsReached, IsToBeFinalized, IsKept, IsEdge}
use Rattle.hd_model.specs.Scene.{Rows, IsField, IsYoungField, IsCondemned, is_object, Scene}
use Rattle.hd_heap.specs.Calls.{is_old_carded}
use Rattle.hd_model.specs.Role.{short, long, attaches}
use Rattle.hd_model.specs.Collect.{cleared, LosesAs, Decision}
use Rattle.hd_plan.specs.Plan.{PlanOf, IsLaid, kept_in, forwarding_in, stays_in}
use Rattle.hd_final.specs.Resurrection.{IsOut}
use Rattle.hd_gc.specs.Ready.{Parts, scene_of, parts}
use Rattle.hd_gc.specs.{Steps.task_visits, declared.phases.ClearedCounts.ClearedCounts, declared.phases.Context.Context}
use Rattle.hd_model.specs.declared.data.Kind.TheVariants as kind

-- what the marks of a collection of generation n are of
abbrev pub basis_of : Parts → ℕ → Basis
basis_of p n = record { heap = p.heap; condemned = n }

-- roots from an index on and below another are null
abbrev pub AreNull : List (Option Addr) → ℕ → ℕ → Type 0
AreNull roots from to = (k : ℕ) → from ≤ k → k < to → slice_index_or roots k None ≡ None

-- there are four from an index on, and they are null
abbrev pub AreFourNull : List (Option Addr) → ℕ → Type 0
AreFourNull roots at = (at + 4 ≤ length roots) × AreNull roots at (at + 4)

-- ---- the clearing of weak handles

-- a table and marks, as a pass has them
abbrev pub marked_table : Table → MarksOf → PassView
marked_table t m = view_at t (promoted_in m) (pinned_in m)

-- all handles that pass a test lose a target that is not promoted, and `count` do
pub record Clears (f : Handle Addr → Bool) (old new : Table) (m : MarksOf) (count : ℕ) : Type 0 where
  pub whole : WholeClear f (marked_table old m) new count
  pub table : IsSameTable old new

-- ---- the steps of a collection: one for each clump that a pass visits

-- the steps of the marking: each task that promotes makes a pass, and one pass follows dependent handles
abbrev pub traced_steps : Table → List ℕ → ℕ → ℕ → ℕ
traced_steps t ages n before = before + task_visits t ages n root_tasks + visits_of t ages n kind.Dependent

-- the steps of the clearing: each task that clears makes a pass, and dependent handles have two, one that
-- follows them from what is resurrected and one that clears them
abbrev pub cleared_steps : Table → List ℕ → ℕ → ℕ → ℕ
cleared_steps t ages n before =
    before + task_visits t ages n short_tasks + task_visits t ages n long_tasks
    + 2 * visits_of t ages n kind.Dependent

-- the steps of both
abbrev pub marked_steps : Table → List ℕ → ℕ → ℕ → ℕ
marked_steps t ages n before = cleared_steps t ages n (traced_steps t ages n before)

-- ---- what is promoted from where, before and after each part of the marking

-- marks that may promote what is in a set: they leave nothing to scan, and it is of objects of their heap
pub record MayPromote (Start : Addr → Type 0) (m : MarksOf) : Type 0 where
  pub settled : IsSettledMarks m
  pub objects : (x : Addr) → Start x → is_object (objects_of m.basis) x ≡ true

-- marks that promoted some objects, with what these lead to, and pinned nothing
pub record Promotes (Start : Addr → Type 0) (old new : MarksOf) : Type 0 where
  pub settled : IsSettledMarks new
  pub basis : new.basis ≡ old.basis
  pub pinned : pinned_in new ≡ pinned_in old
  pub grows : Grows (IsYoungField (objects_of old.basis) old.basis.condemned) Start (promoted_in old)
      (promoted_in new)

-- marks that promoted what the roots before one reference come to have promoted what those before another do
abbrev pub PromotesOn : List (Option Addr) → ℕ → ℕ → (old new : MarksOf) → Type 0
PromotesOn roots from to old new =
    (m : MarksOf) → Promotes (λ x. Contains (take from roots) (Some x)) m old
    → Promotes (λ x. Contains (take to roots) (Some x)) m new

-- y is in a field of an older object in a set card
pub record IsOldField (h : Heap) (n : ℕ) (y : Addr) : Type 0 where
  pub from : Addr
  pub carded : is_old_carded h n from ≡ true
  pub field : IsField (object_at h) from y

-- all that a handle holds is promoted, with what it leads to; of condemned objects, what a handle pins is
-- pinned, and no other
pub record Holds (rows : Rows Addr) (old new : MarksOf) : Type 0 where
  pub settled : IsSettledMarks new
  pub basis : new.basis ≡ old.basis
  pub grows : Grows (IsYoungField (objects_of old.basis) old.basis.condemned) (IsHeld rows) (promoted_in old)
      (promoted_in new)
  pub pins : (x : Addr) → IsCondemned (objects_of old.basis) old.basis.condemned x
      → (pinned_in new x ≡ true) ↔ ((pinned_in old x ≡ true) ⊎ IsPinned rows x)

-- ---- what is true between the marking and the moving

-- what is reached, resurrected and kept by address, the resurrected in rising identity, and the numbers of
-- those that lose their target or are resurrected
pub record FoundSets (p : Parts) (n : ℕ) (found : ClearedCounts) : Type 0 where
  pub decision : Decision Addr
  pub open decision use *
  pub reach_is : (x : Addr) → Decides (reach x) (IsReached (scene_of p) n x)
  pub resurrected_is : (x : Addr) → Decides (resurrected x) (IsToBeFinalized (scene_of p) n x)
  pub kept_is : (x : Addr) → Decides (kept x) (IsKept (scene_of p) n x)
  pub joins_are : (x : Addr) → Decides (resurrected x) (Contains joins x)
  pub rising : AllPairs (λ x y. (id_at p.heap x).0 < (id_at p.heap y).0) joins
  pub short : Counts (LosesAs (scene_of p) reach kept short) found.short
  pub long : Counts (LosesAs (scene_of p) reach kept long) found.long
  pub dep : Counts (LosesAs (scene_of p) reach kept attaches) found.dep
  pub resurrections : Counts (λ x. resurrected x ≡ true) found.revived

-- the handles are cleared, the resurrected have joined the queue, and the plan keeps what is kept, the
-- targets of pinning handles in place
pub record MarkedAndCleared (p q : Parts) (n : ℕ) (plan : PlanOf) (found : ClearedCounts) : Type 0 where
  pub sets : FoundSets p n found
  pub rows : (slot : ℕ)
      → row_at q.table slot ≡ option_map (cleared sets.reach sets.kept) (row_at p.table slot)
  pub table : IsSameTable p.table q.table
  pub queue : q.queue ≡ record p.queue { queued = p.queue.queued ++ sets.joins }
  pub laid : IsLaid plan
  pub basis : plan.basis ≡ basis_of p n
  pub keeping : IsKeeping (object_at p.heap) n (kept_in plan) (forwarding_in plan)
  pub plan_kept : (x : Addr) → kept_in plan x ≡ sets.kept x
  pub pinned : (x : Addr) → IsPinned (row_at p.table) x → forwarding_in plan x ≡ x
  pub stays : Counts (λ x. IsCondemned (object_at p.heap) n x × IsPinned (row_at p.table) x) (stays_in plan)
  pub kept : Counts (λ x. IsCondemned (object_at p.heap) n x × (kept_in plan x ≡ true)) found.kept

-- the numbers of a report: what the plan keeps and what it does not, and what was found
pub record Reports (plan : PlanOf) (found : ClearedCounts) (report : Report) : Type 0 where
  pub kept : Counts (λ a. IsCondemned (objects_of plan.basis) plan.basis.condemned a
      × (kept_in plan a ≡ true)) report.kept
  pub removed : Counts (λ a. (is_object (objects_of plan.basis) a ≡ true) × (kept_in plan a ≡ false))
      report.removed
  pub short : report.short ≡ found.short
  pub long : report.long ≡ found.long
  pub dep : report.dep ≡ found.dep
  pub resurrected : report.revived ≡ found.revived

-- ---- what is promoted and pinned after the marking, and after the resurrection

-- exactly what is reached is promoted; of condemned objects, exactly what a handle pins is pinned
pub record Traced (p : Parts) (n : ℕ) (m : MarksOf) : Type 0 where
  pub reach_is : (x : Addr) → Decides (promoted_in m x) (IsReached (scene_of p) n x)
  pub pins :
      (x : Addr) → IsCondemned (object_at p.heap) n x → (pinned_in m x ≡ true) ↔ IsPinned (row_at p.table) x

-- what the resurrection needs: what is promoted has the queue and is closed under edges, cards rule out what
-- may be skipped, no two objects have one identity, and the queue has room for all objects
pub record MayRevive (p : Parts) (m : MarksOf) : Type 0 where
  pub cards : HasSoundCards (object_at p.heap) (is_carded p.heap)
  pub edges : IsClosed (IsEdge (object_at p.heap) (row_at p.table)) (promoted_in m)
  pub queued : (x : Addr) → Contains p.queue.queued x → promoted_in m x ≡ true
  pub identities : HasIdentities p.heap
  pub room : len p.heap.objects ≤ p.queue.room

-- q is p with what is registered, condemned and outside p, and with what chains of edges lead to; those
-- outside join the queue in rising rank
pub record Resurrection {N : Type 0} (rank : N → ℕ) (s : Scene N) (n : ℕ) (p q : N → Bool) (after : List N)
    : Type 0 where
  pub keeps : (x : N) → p x ≡ true → q x ≡ true
  pub resurrects : (x : N) → IsOut s.object n p x → q x ≡ true
  pub closed : IsClosed (IsEdge s.object s.handle) q
  pub only : (x : N) → q x ≡ true
      → (r : N) × (((p r ≡ true) ⊎ IsOut s.object n p r) × Leads (IsEdge s.object s.handle) r x)
  pub joins : List N
  pub queue_is : after ≡ s.queue ++ joins
  pub joins_are : (x : N) → Contains joins x ↔ IsOut s.object n p x
  pub rising : AllPairs (λ x y. rank x < rank y) joins

-- marks and a queue that the resurrection left
pub record Resurrected (p : Parts) (n : ℕ) (old new : MarksOf) (after : List Addr) : Type 0 where
  pub pinned : pinned_in new ≡ pinned_in old
  pub resurrection :
      Resurrection (λ x. (id_at p.heap x).0) (scene_of p) n (promoted_in old) (promoted_in new) after

-- ---- what the moving leaves

-- each target and each secondary is in a set
pub record NamesKept {N : Type 0} (kept : N → Bool) (rows : Rows N) : Type 0 where
  pub targets : (slot : ℕ) (h : Handle N) (x : N) → rows slot ≡ Some h → h.target ≡ Some x → kept x ≡ true
  pub secondaries :
      (slot : ℕ) (h : Handle N) (x : N) → rows slot ≡ Some h → secondary_of h.extra ≡ Some x → kept x ≡ true

-- in a visited slot each reference is the new address
abbrev pub IsRenamed : {N : Type 0} → List ℕ → ℕ → (N → N) → (before after : Rows N) → Type 0
IsRenamed ages n forwarding before after =
    (slot : ℕ)
    → after slot ≡ option_map (λ h. cond (is_due ages n slot) (rename_handle forwarding h) h) (before slot)

-- roots of which the first i have their new addresses
abbrev pub first_moved : PlanOf → ℕ → List (Option Addr) → List (Option Addr)
first_moved plan i roots = map (option_map (forwarding_in plan)) (take i roots) ++ drop i roots

-- roots of which the first i have their new addresses, and that referenced kept objects before
pub record WereKept (plan : PlanOf) (i : ℕ) (roots : List (Option Addr)) : Type 0 where
  pub before : List (Option Addr)
  pub moved : roots ≡ first_moved plan i before
  pub kept : (x : Addr) → Contains before (Some x) → kept_in plan x ≡ true

-- roots of which those before one have their new addresses come to have those of all before another
abbrev pub MovesOn : PlanOf → ℕ → ℕ → (old new : List (Option Addr)) → Type 0
MovesOn plan from to old new =
    (before : List (Option Addr)) → old ≡ first_moved plan from before → new ≡ first_moved plan to before

-- ---- what a collection keeps while it marks and clears

-- the parts of a collection: what it reads, and a table and a queue
abbrev pub parts_in : Context → Table → Queue → Parts
parts_in c t q = parts c.heap.now t c.ages.now q c.roots.now

-- the heap that a collection reads, with the condemned generation
abbrev pub basis_in : Context → Basis
basis_in c = record { heap = c.heap.now; condemned = c.condemned }

-- the marks are of the heap that is collected and leave nothing to scan, and passes may visit the due clumps
-- of the table
pub record IsTracing (g : Basis) (t : Table) (ages : List ℕ) (m : MarksOf) : Type 0 where
  pub settled : IsSettledMarks m
  pub basis : m.basis ≡ g
  pub due : MayVisitDue m.basis t ages g.condemned
