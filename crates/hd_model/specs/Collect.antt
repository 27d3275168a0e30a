-- A collection of generation n, by the scenes before and after it. The order is that of CoreCLR's collector:
-- weak short handles by what is reached, then resurrection, then weak long and dependent handles by what is
-- kept.
use Rattle.std.specs.Prelude.{◌≡◌, ℕ, ◌<◌, ◌&&◌, not, cond, Bool, true, false, List, ◌++◌, Option, Some, None, option_map, Contains, AllPairs, Decides}
use Rattle.std.specs.FinMap.{get}
use Rattle.hd_model.specs.Data.{Id, Report}
use Rattle.hd_model.specs.State.{Object, secondary, Handle, WeakEntry, State}
use Rattle.hd_model.specs.Role.{Role, holds, short, long, attaches, role}
use Rattle.hd_model.specs.Counting.{Counts}
use Rattle.hd_model.specs.Scene.{Scene, scene_of, is_object, IsCondemned}
use Rattle.hd_model.specs.Ages.{raised}
use Rattle.hd_model.specs.Reach.{IsReached, IsToBeFinalized, IsKept}
use Rattle.hd_model.specs.PinnedAddresses.{is_pinned}

-- whether a target is outside a set; null is outside none
abbrev pub is_lost : {N : Type 0} → (N → Bool) → Option N → Bool
is_lost p None = false
is_lost p (Some x) = not (p x)

-- whether a handle of a role loses its target (.NET's WeakReference: a short one does so before finalization,
-- a long one, by trackResurrection, only once the object is not kept)
abbrev pub loses_by : {N : Type 0} → Role → (reach kept : N → Bool) → Option N → Bool
loses_by holds reach kept o = false
loses_by short reach kept o = is_lost reach o
loses_by long reach kept o = is_lost kept o
loses_by attaches reach kept o = is_lost kept o

-- whether a handle loses its target
abbrev pub loses : {N : Type 0} → (reach kept : N → Bool) → Handle N → Bool
loses reach kept h = loses_by (role h) reach kept h.target

-- whether a role is that of dependent handles
abbrev pub is_attaching : Role → Bool
is_attaching holds = false
is_attaching short = false
is_attaching long = false
is_attaching attaches = true

-- a handle after the collection: its target is null where it loses it, and a dependent one loses its
-- secondary with it
abbrev pub cleared : {N : Type 0} → (reach kept : N → Bool) → Handle N → Handle N
cleared reach kept h = record {
  kind = h.kind;
  target = cond (loses reach kept h) None h.target;
  extra = cond (is_attaching (role h) && is_lost kept h.target) (secondary None) h.extra;
}

-- a kept object after the collection: its generation is raised (a survivor's promotion), and a resurrected
-- one is no longer registered, as a finalizer runs once
abbrev pub survivor : {N : Type 0} → ℕ → Bool → Object N → Object N
survivor n resurrected o = record {
  fields = o.fields;
  value = o.value;
  generation = raised n o.generation;
  registered = o.registered && not resurrected;
}

-- the slot's handle has a role and loses its target
pub record LosesAs {N : Type 0} (s : Scene N) (reach kept : N → Bool) (wanted : Role)
    (slot : ℕ) : Type 0 where
  pub handle : Handle N
  pub is_stored : s.handle slot ≡ Some handle
  pub role_is : role handle ≡ wanted
  pub loses : loses reach kept handle ≡ true

-- a condemned object that stays, and an object that is removed
pub record IsSurviving {N : Type 0} (n : ℕ) (s : Scene N) (kept : N → Bool) (x : N) : Type 0 where
  pub condemned : IsCondemned s.object n x
  pub stays : kept x ≡ true

pub record IsRemoved {N : Type 0} (s : Scene N) (kept : N → Bool) (x : N) : Type 0 where
  pub object : is_object s.object x ≡ true
  pub lost : kept x ≡ false

-- what a collection decides: what is reached, resurrected and kept, and what joins the queue, in its order
pub record Decision (N : Type 0) : Type 0 where
  pub reach : N → Bool
  pub resurrected : N → Bool
  pub kept : N → Bool
  pub joins : List N

-- the numbers of a report (this project's own): condemned objects that stay, removed objects, handles that
-- lose their target by their role, entries of the weak table among the dependent ones, and resurrected
-- objects
pub record IsReport {N : Type 0} (n : ℕ) (s : Scene N) (d : Decision N) (report : Report) : Type 0 where
  pub kept : Counts (IsSurviving n s d.kept) report.kept
  pub removed : Counts (IsRemoved s d.kept) report.removed
  pub short : Counts (LosesAs s d.reach d.kept short) report.short
  pub long : Counts (LosesAs s d.reach d.kept long) report.long
  pub dep : Counts (LosesAs s d.reach d.kept attaches) report.dep
  pub resurrected : Counts (λ x. d.resurrected x ≡ true) report.revived

-- a collection of n of s decides so, with the resurrected objects in the order of `rank`, the number of their
-- identity, and reports it
pub record GoesBy {N : Type 0} (rank : N → ℕ) (n : ℕ) (s : Scene N) (d : Decision N) (report : Report)
    : Type 0 where
  pub reach_is : (x : N) → Decides (d.reach x) (IsReached s n x)
  pub resurrected_is : (x : N) → Decides (d.resurrected x) (IsToBeFinalized s n x)
  pub kept_is : (x : N) → Decides (d.kept x) (IsKept s n x)
  pub joins_are : (x : N) → Decides (d.resurrected x) (Contains d.joins x)
  pub rising : AllPairs (λ x y. rank x < rank y) d.joins
  pub report_is : IsReport n s d report

-- the scene after it: what is kept stays, handles are cleared, what registers and statics reference is as it
-- was, and what is resurrected is appended to the queue
abbrev pub left_by : {N : Type 0} → ℕ → Decision N → Scene N → Scene N
left_by n d s = record {
  object = λ x. cond (d.kept x) (option_map (survivor n (d.resurrected x)) (s.object x)) None;
  handle = λ slot. option_map (cleared d.reach d.kept) (s.handle slot);
  named = s.named;
  queue = s.queue ++ d.joins;
}

-- a collection of n leads from scene s to scene t
pub record Collects {N : Type 0} (rank : N → ℕ) (n : ℕ) (s t : Scene N) (report : Report) : Type 0 where
  pub decision : Decision N
  pub open decision use *
  pub goes_by : GoesBy rank n s decision report
  pub open goes_by use *
  pub objects : (x : N) → t.object x ≡ (left_by n decision s).object x
  pub handles : (slot : ℕ) → t.handle slot ≡ (left_by n decision s).handle slot
  pub named : t.named ≡ s.named
  pub queue : t.queue ≡ s.queue ++ joins

-- an entry of the weak table leaves it where its key is not kept; its slot stays the table's and is idle
-- (ConditionalWeakTable: an entry lives as long as its key)
abbrev pub swept : {N : Type 0} → (kept : N → Bool) → Option (WeakEntry N) → Option (WeakEntry N)
swept kept None = None
swept kept (Some e) = cond (kept e.key) (Some e) None

-- `collect n` leads from state s to state t: the slots of handles and of the weak table stay what they are,
-- exactly the addresses of pinned objects stay, and all that a scene does not have is as it was
pub record CollectsState (n : ℕ) (s t : State) (report : Report) : Type 0 where
  pub scene : Collects (λ (x : Id). x.0) n (scene_of s) (scene_of t) report
  pub handles : (slot : ℕ) → get t.handles slot ≡ option_map (cleared scene.reach scene.kept)
      (get s.handles slot)
  pub weak : (slot : ℕ) → get t.weak slot ≡ option_map (swept scene.kept) (get s.weak slot)
  pub pinned : (x : ℕ) → get t.pinned x ≡ cond (is_pinned s.handles x) (get s.pinned x) None
  pub registers : t.registers ≡ s.registers
  pub statics : t.statics ≡ s.statics
  pub handle_registers : t.handle_registers ≡ s.handle_registers
  pub board : t.board ≡ s.board
  pub blocks : t.blocks ≡ s.blocks
  pub serials : t.serials ≡ s.serials
