-- What a collection of generation n keeps, after the mark phase of CoreCLR's collector.
use Rattle.std.specs.Prelude.{◌≡◌, ℕ, ◌<◌, ◌≤◌, ◌⊎◌, true, Some, Contains}
use Rattle.hd_model.specs.State.{Object, Handle, secondary_of}
use Rattle.hd_model.specs.Role.{holds, attaches, role, pins}
use Rattle.hd_model.specs.Leads.{Leads}
use Rattle.hd_model.specs.Scene.{Scene, Objects, Rows, IsField, generation_at}

-- some dependent handle has target x and secondary y (.NET's DependentHandle and ConditionalWeakTable)
pub record IsAttached {N : Type 0} (rows : Rows N) (x y : N) : Type 0 where
  pub slot : ℕ
  pub handle : Handle N
  pub is_stored : rows slot ≡ Some handle
  pub attaches : role handle ≡ attaches
  pub target : handle.target ≡ Some x
  pub secondary : secondary_of handle.extra ≡ Some y

-- an edge from x to y, along which a collection keeps y where it keeps x: a field of x references y, or a
-- dependent handle attaches y to x (DependentHandle: the dependent lives while the target does)
abbrev pub IsEdge : {N : Type 0} → Objects N → Rows N → N → N → Type 0
IsEdge o rows x y = IsField o x y ⊎ IsAttached rows x y

-- some handle that holds its target has the target x (GCHandleType.Normal and its kin)
pub record IsHeld {N : Type 0} (rows : Rows N) (x : N) : Type 0 where
  pub slot : ℕ
  pub handle : Handle N
  pub is_stored : rows slot ≡ Some handle
  pub holds : role handle ≡ holds
  pub target : handle.target ≡ Some x

-- some handle that pins has the target x (GCHandleType.Pinned and its kin)
pub record IsPinned {N : Type 0} (rows : Rows N) (x : N) : Type 0 where
  pub slot : ℕ
  pub handle : Handle N
  pub is_stored : rows slot ≡ Some handle
  pub pins : pins handle ≡ true
  pub target : handle.target ≡ Some x

-- a root of n: what registers and statics reference, what is queued for finalization, what a handle holds,
-- and every object of a generation above n (.NET keeps older generations whole: each of their objects is a
-- root)
pub data IsRoot {N : Type 0} (s : Scene N) (n : ℕ) (x : N) : Type 0 where
  named : Contains s.named (Some x) → IsRoot s n x
  queued : Contains s.queue x → IsRoot s n x
  held : IsHeld s.handle x → IsRoot s n x
  older : n < generation_at s.object x → IsRoot s n x

-- a chain of edges leads to x from a root
abbrev pub IsReached : {N : Type 0} → Scene N → ℕ → N → Type 0
IsReached {N} s n x = (r : N) × (IsRoot s n r × Leads (IsEdge s.object s.handle) r x)

-- x is to be finalized: it is registered for finalization, condemned and not reached (.NET makes such an
-- object reachable again, to be finalized)
pub record IsToBeFinalized {N : Type 0} (s : Scene N) (n : ℕ) (x : N) : Type 0 where
  pub object : Object N
  pub is_stored : s.object x ≡ Some object
  pub registered : object.registered ≡ true
  pub young : object.generation ≤ n
  pub lost : IsReached s n x → ⊥

-- a chain of edges leads to x from what is reached or resurrected
abbrev pub IsKept : {N : Type 0} → Scene N → ℕ → N → Type 0
IsKept {N} s n x =
    (r : N) × ((IsReached s n r ⊎ IsToBeFinalized s n r) × Leads (IsEdge s.object s.handle) r x)
