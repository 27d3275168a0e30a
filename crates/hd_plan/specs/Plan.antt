-- The value of a plan, what it keeps and where, and what a laid one states.
use Rattle.std.specs.Prelude.{◌≡◌, ℕ, ◌+◌, ◌/◌, ◌^◌, ◌<◌, ◌≤◌, ◌||◌, Bool, true, List, [], length, max, nat_lt, sum_by, AllPairs, Contains, ◌≢◌, refl}
use Rattle.std.specs.Coded.{Coded, code_by, coded×, coded_list}
use Rattle.hd_model.specs.{declared.data.Addr.Addr, Code.basis_code, Leads.IsClosed, Marking.IsKeeping, declared.limits.TheConstants.OLDEST, declared.limits.TheConstants.LEFT, declared.limits.TheConstants.OPEN, Scene.generation_at, Scene.IsField, Scene.IsCondemned}
use Rattle.hd_model.specs.Heap.{Heap, Basis, objects_of, object_at, placed_at, cells_of, is_in_use, region_of, has_object}
use Rattle.hd_heap.specs.{Sound.IsSound, declared.moves.Move.Move}
use Rattle.hd_plan.specs.declared.moves.Condemned.{Condemned}
use Rattle.hd_heap.specs.contracts.moves.Move as move_contract
use Rattle.hd_plan.specs.contracts.moves.Condemned as condemned_contract
use Rattle.hd_plan.specs.Layout.{find_move, forwarding_by, is_kept_by, stays_among, AreMoves, AreRegions, IsCondemnedRegion}

-- what it was taken for, a move for each condemned object of each region in which one is kept, and what
-- becomes of each condemned region
pub record PlanOf : Type 0 where
  pub basis : Basis
  pub moves : List Move
  pub regions : List Condemned

abbrev pub plan_code : Coded PlanOf
plan_code =
    code_by (Basis × (List Move × List Condemned))
    (coded× basis_code (coded× (coded_list move_contract.the_row.coded)
    (coded_list condemned_contract.the_row.coded)))
    (λ p. (p.basis, (p.moves, p.regions))) (λ q. record { basis = q.0; moves = q.1.0; regions = q.1.1 })
    (λ _. refl)

-- what is kept: all that is older, and what a move keeps
abbrev pub kept_in : PlanOf → Addr → Bool
kept_in p a =
    nat_lt p.basis.condemned (generation_at (objects_of p.basis) a) || is_kept_by (find_move p.moves a)

-- where an object goes; one without a move stays where it is
abbrev pub forwarding_in : PlanOf → Addr → Addr
forwarding_in p a = forwarding_by (find_move p.moves a) a

-- how many objects stay in place because they are pinned
abbrev pub stays_in : PlanOf → ℕ
stays_in p = stays_among p.moves

-- all kept objects have new addresses, no two equal, and fields of kept objects reference kept ones
pub record IsLaid (p : PlanOf) : Type 0 where
  pub sound : IsSound p.basis.heap
  pub generation : p.basis.condemned ≤ OLDEST
  pub moves : AreMoves p.basis.heap p.basis.condemned p.moves
  pub regions : AreRegions p.basis.heap p.basis.condemned p.moves p.regions
  pub keeping : IsKeeping (objects_of p.basis) p.basis.condemned (kept_in p) (forwarding_in p)
  pub closed : IsClosed (IsField (objects_of p.basis)) (kept_in p)

-- the objects of a property take this number of cells together
pub record Takes (h : Heap) (P : Addr → Type 0) (cells : ℕ) : Type 0 where
  pub members : List Addr
  pub apart : AllPairs (λ x y. x ≢ y) members
  pub each : (a : Addr) → Contains members a → P a
  pub all : (a : Addr) → P a → Contains members a
  pub sum : sum_by (λ a. cells_of (placed_at h a)) members ≡ cells

-- there are free regions for all condemned objects: each but the last one of a generation is left with at
-- least LEFT cells in use
pub record HasFreeRegions (h : Heap) (n : ℕ) : Type 0 where
  pub cells : ℕ
  pub cells_are : Takes h (IsCondemned (object_at h) n) cells
  pub small : cells < 2 ^ 38
  pub enough : cells / LEFT + OPEN ≤ length h.free

-- this number of free regions is needed for all condemned objects
pub record NeedsFree (h : Heap) (n needed : ℕ) : Type 0 where
  pub cells : ℕ
  pub cells_are : Takes h (IsCondemned (object_at h) n) cells
  pub needed_is : needed ≡ cells / LEFT + OPEN

-- as many regions are free as are needed, or as were before where they are more
pub record FreeNeeded (old new : Heap) (n : ℕ) : Type 0 where
  pub needed : ℕ
  pub needs : NeedsFree old n needed
  pub free : length new.free ≡ max needed (length old.free)

-- no more regions are free than are needed, or than were before where they are more
pub record FreeAtMost (old new : Heap) (n : ℕ) : Type 0 where
  pub needed : ℕ
  pub needs : NeedsFree old n needed
  pub free : length new.free ≤ max needed (length old.free)

-- nothing is laid yet, and there is room for all that is condemned
pub record IsTakenPlan (p : PlanOf) : Type 0 where
  pub generation : p.basis.condemned ≤ OLDEST
  pub moves : p.moves ≡ []
  pub regions : p.regions ≡ []
  pub free : HasFreeRegions p.basis.heap p.basis.condemned

-- some object starts in this region
pub record StartsInRegion (h : Heap) (r : ℕ) : Type 0 where
  pub at : Addr
  pub object : has_object h at ≡ true
  pub region : region_of at ≡ r

-- each condemned region has an object
abbrev pub HasNoEmptyCondemned : Heap → ℕ → Type 0
HasNoEmptyCondemned h n = (r : ℕ) → IsCondemnedRegion h n r → StartsInRegion h r

-- each region in use has an object
abbrev pub HasNoEmptyRegion : Heap → Type 0
HasNoEmptyRegion h = (r : ℕ) → is_in_use h r ≡ true → StartsInRegion h r
