-- Laws of collections and ages in the machine's own words. Each is the contract of a public function of this
-- crate.
use Rattle.std.specs.Prelude.{◌≡◌, ◌↔◌, ℕ, ◌+◌, ◌<◌, ◌≤◌, ◌⊎◌, min, true, false, List, ◌++◌, length, Option, Some, None, IsSome, Contains, AllPairs}
use Rattle.std.specs.FinMap.{get, len}
use Rattle.hd_model.specs.Data.{Id, Addr, Entry, Report, Slot}
use Rattle.hd_model.specs.declared.data.Kind.TheVariants as kind
use Rattle.hd_model.specs.declared.limits.TheConstants.{OLDEST}
use Rattle.hd_model.specs.State.{Numbers, Object, Handle, secondary, State, secondary_of, register_of, static_of, row_of, without_handle}
use Rattle.hd_model.specs.Role.{Role, short, long, attaches, role}
use Rattle.hd_model.specs.Scene.{Objects, Rows, Scene, scene_of, is_object, generation_at, IsCondemned, IsWhole, IsReading}
use Rattle.hd_model.specs.Reach.{IsReached, IsToBeFinalized, IsKept}
use Rattle.hd_model.specs.InUse.{IsUsed, IsInUse, IsResurrected, IsRescued, IsGarbage}
use Rattle.hd_model.specs.Counting.{Counts}
use Rattle.hd_model.specs.Collect.{CollectsState}
use Rattle.hd_model.specs.Ages.{HasSoundAges, lowered, grown}
use Rattle.hd_model.specs.Aging.{AgedRun}
use Rattle.hd_model.specs.WellFormed.{Names, IsWellFormed}

-- a collection of n leads from a well formed state s to t
pub record Collected (m : Numbers) (n : ℕ) (s t : State) (r : Report) : Type 0 where
  pub well_formed : IsWellFormed m s
  pub collects : CollectsState n s t r

-- the state after a collection is well formed
abbrev pub CollectionsKeepWellFormed : Type 0
CollectionsKeepWellFormed =
    (m : Numbers) (n : ℕ) (s t : State) (r : Report) → Collected m n s t r → IsWellFormed m t

-- a collection removes no object that is used, and so none that is queued for finalization
abbrev pub UsedObjectsStay : Type 0
UsedObjectsStay =
    (m : Numbers) (n : ℕ) (s t : State) (r : Report) (x : Id) → Collected m n s t r → IsUsed s x
    → IsSome (get t.objects x.0)

-- what a register or a static references after a collection is an object
pub record NoneDangles (t : State) : Type 0 where
  pub registers : (c d : ℕ) → Names t (register_of t c d)
  pub statics : (k : ℕ) → Names t (static_of t k)

abbrev pub NoneDanglesAfter : Type 0
NoneDanglesAfter = (m : Numbers) (n : ℕ) (s t : State) (r : Report) → Collected m n s t r → NoneDangles t

-- a collection of n leaves every object of an older generation as it was: fields, value, generation and
-- registration
abbrev pub OlderObjectsStay : Type 0
OlderObjectsStay =
    (m : Numbers) (n : ℕ) (s t : State) (r : Report) (id : ℕ) (o : Object Id) → Collected m n s t r
    → get s.objects id ≡ Some o → n < o.generation → get t.objects id ≡ Some o

-- a handle of a role whose target is null after the collection and was not before; an entry that leaves the
-- weak table counts as a dependent one
pub record LosesTarget (s t : State) (wanted : Role) (slot : ℕ) : Type 0 where
  pub old : Handle Id
  pub was_stored : row_of s slot ≡ Some old
  pub role_is : role old ≡ wanted
  pub had : IsSome old.target
  pub new : Handle Id
  pub is_stored : row_of t slot ≡ Some new
  pub lost : new.target ≡ None

-- a condemned object that stays, and an object that is removed
abbrev pub Stays : ℕ → State → State → Id → Type 0
Stays n s t x = IsCondemned (scene_of s).object n x × IsSome (get t.objects x.0)

abbrev pub Goes : State → State → Id → Type 0
Goes s t x = IsSome (get s.objects x.0) × (get t.objects x.0 ≡ None)

-- the numbers of a report, read off the states before and after: kept and removed together are the condemned
-- objects, each loss of a target is counted by the handle's role, and the queue grows by the resurrected
-- objects
pub record ReportSays (n : ℕ) (s t : State) (r : Report) : Type 0 where
  pub kept : Counts (Stays n s t) r.kept
  pub removed : Counts (Goes s t) r.removed
  pub together : Counts (IsCondemned (scene_of s).object n) (r.kept + r.removed)
  pub objects : len t.objects + r.removed ≡ len s.objects
  pub short : Counts (LosesTarget s t short) r.short
  pub long : Counts (LosesTarget s t long) r.long
  pub dep : Counts (LosesTarget s t attaches) r.dep
  pub resurrected : length t.queue ≡ length s.queue + r.revived

-- a collection that did nothing but raise generations
pub record IsIdle (t u : State) (q : Report) : Type 0 where
  pub removed : q.removed ≡ 0
  pub short : q.short ≡ 0
  pub long : q.long ≡ 0
  pub dep : q.dep ≡ 0
  pub resurrected : q.revived ≡ 0
  pub handles : u.handles ≡ t.handles
  pub weak : u.weak ≡ t.weak
  pub queue : u.queue ≡ t.queue

-- of two collections of the same n, one right after the other, the second is idle
abbrev pub SecondCollectionIsIdle : Type 0
SecondCollectionIsIdle =
    (m : Numbers) (n : ℕ) (s t u : State) (r q : Report) → Collected m n s t r → CollectsState n t u q
    → IsIdle t u q

-- an object is reached, resurrected and kept alike under both names
pub record IsSameTo {N M : Type 0} (f : N → M) (n : ℕ) (s : Scene N) (t : Scene M) (x : N) : Type 0 where
  pub reached : IsReached s n x ↔ IsReached t n (f x)
  pub resurrected : IsToBeFinalized s n x ↔ IsToBeFinalized t n (f x)
  pub kept : IsKept s n x ↔ IsKept t n (f x)

-- what is reached, resurrected and kept is the same by address and by identity
abbrev pub ReadingsKeepWhatIsKept : Type 0
ReadingsKeepWhatIsKept =
    (f : Addr → Id) (n : ℕ) (s : Scene Addr) (t : Scene Id) (x : Addr) → IsWhole s → IsReading f s t
    → is_object s.object x ≡ true → IsSameTo f n s t x

-- a handle's target and secondary are of generation g or older
pub record IsFrom (o : Objects Addr) (g : ℕ) (h : Handle Addr) : Type 0 where
  pub target : (x : Addr) → h.target ≡ Some x → g ≤ generation_at o x
  pub secondary : (x : Addr) → secondary_of h.extra ≡ Some x → g ≤ generation_at o x

-- each row was there before, or is in the slot and references nothing younger than g
pub record Stores (o : Objects Addr) (old new : Rows Addr) (slot g : ℕ) : Type 0 where
  pub rows :
      (other : ℕ) (h : Handle Addr) → new other ≡ Some h
      → (old other ≡ Some h) ⊎ ((other ≡ slot) × IsFrom o g h)

-- ages stay sound where an age is lowered to the generation of what is stored in a slot
abbrev pub LoweredAgesAreSound : Type 0
LoweredAgesAreSound =
    (o : Objects Addr) (old new : Rows Addr) (ages : List ℕ) (slot g : ℕ) → HasSoundAges o old ages
    → Stores o old new slot g → HasSoundAges o new (lowered ages slot g)

-- ages stay sound where a collection of n raises generations and ages alike
abbrev pub GrownAgesAreSound : Type 0
GrownAgesAreSound =
    (m : Numbers) (n : ℕ) (s t : State) (r : Report) (ages : List ℕ) → Collected m n s t r
    → HasSoundAges (scene_of s).object (scene_of s).handle ages
    → HasSoundAges (scene_of t).object (scene_of t).handle (grown n ages)

-- the ages that a run leaves are sound
abbrev pub AgesOfRunsAreSound : Type 0
AgesOfRunsAreSound =
    (n : Numbers) (journal : List Entry) (s : State) (ages : List ℕ) → AgedRun n journal s ages
    → HasSoundAges (scene_of s).object (scene_of s).handle ages

-- an object stays with its fields and its value
pub record KeepsContents (s t : State) (x : Id) : Type 0 where
  pub old : Object Id
  pub was_stored : get s.objects x.0 ≡ Some old
  pub new : Object Id
  pub is_stored : get t.objects x.0 ≡ Some new
  pub fields : new.fields ≡ old.fields
  pub value : new.value ≡ old.value

-- an object is left alone: it stays with its registration too, no handle to it changes, and it does not join
-- the queue
pub record IsLeftAlone (s t : State) (x : Id) : Type 0 where
  pub object : KeepsContents s t x
  pub registered : object.new.registered ≡ object.old.registered
  pub handles :
      (slot : ℕ) (h : Handle Id) → get s.handles slot ≡ Some h → h.target ≡ Some x
      → get t.handles slot ≡ Some h
  pub queue : Contains t.queue x → Contains s.queue x

-- what is in use is left alone: no handle to it is ever cleared
abbrev pub InUseIsLeftAlone : Type 0
InUseIsLeftAlone =
    (m : Numbers) (n : ℕ) (s t : State) (r : Report) (x : Id) → Collected m n s t r → IsInUse n s x
    → IsLeftAlone s t x

-- what the definition of a collection reaches is exactly what is in use
abbrev pub InUseIsReached : Type 0
InUseIsReached = (n : ℕ) (s : State) (x : Id) → IsInUse n s x ↔ IsReached (scene_of s) n x

-- what is kept for finalization alone stays as it was, for its finalizer to find
abbrev pub RescuedObjectsStay : Type 0
RescuedObjectsStay =
    (m : Numbers) (n : ℕ) (s t : State) (r : Report) (x : Id) → Collected m n s t r → IsRescued n s x
    → KeepsContents s t x

-- a live handle has a target, or null
pub record HasTarget (t : State) (slot : ℕ) (o : Option Id) : Type 0 where
  pub handle : Handle Id
  pub is_stored : get t.handles slot ≡ Some handle
  pub target : handle.target ≡ o

-- an object is gone, and each handle to it is null
pub record IsGone (s t : State) (x : Id) : Type 0 where
  pub object : get t.objects x.0 ≡ None
  pub handles :
      (slot : ℕ) (h : Handle Id) → get s.handles slot ≡ Some h → h.target ≡ Some x → HasTarget t slot None

-- what nothing keeps is removed, and the handles to it are null
abbrev pub GarbageGoes : Type 0
GarbageGoes =
    (m : Numbers) (n : ℕ) (s t : State) (r : Report) (x : Id) → Collected m n s t r → IsGarbage n s x
    → IsGone s t x

-- an object joins the queue
pub record Joins (s t : State) (x : Id) : Type 0 where
  pub queued : Contains t.queue x
  pub before : Contains s.queue x → ⊥

-- an object stays, and is not registered
pub record IsUnregistered (t : State) (x : Id) : Type 0 where
  pub object : Object Id
  pub is_stored : get t.objects x.0 ≡ Some object
  pub registered : object.registered ≡ false

-- exactly what was condemned, registered and out of use joins the queue, and stays, no longer registered
pub record ResurrectsOnce (n : ℕ) (s t : State) : Type 0 where
  pub joins : (x : Id) → Joins s t x ↔ IsResurrected n s x
  pub after : (x : Id) → Joins s t x → IsUnregistered t x

-- resurrected once: a finalizer runs for each such object, and not again unless it is registered again
abbrev pub ObjectsAreResurrectedOnce : Type 0
ObjectsAreResurrectedOnce =
    (m : Numbers) (n : ℕ) (s t : State) (r : Report) → Collected m n s t r → ResurrectsOnce n s t

-- objects are appended to the queue in rising identity
pub record AppendsInTurn (s t : State) : Type 0 where
  pub joins : List Id
  pub queue : t.queue ≡ s.queue ++ joins
  pub rising : AllPairs (λ x y. x.0 < y.0) joins

-- first in, first out: what was queued before is finalized first, in its order
abbrev pub QueueGrowsInTurn : Type 0
QueueGrowsInTurn =
    (m : Numbers) (n : ℕ) (s t : State) (r : Report) → Collected m n s t r → AppendsInTurn s t

-- a generation of at most n is one higher after a collection of n, at most 2, and a higher one is the same
pub record RisesOnce (n old new : ℕ) : Type 0 where
  pub young : old ≤ n → new ≡ min (old + 1) OLDEST
  pub older : n < old → new ≡ old

-- a generation is raised once in a collection
abbrev pub GenerationsRiseOnce : Type 0
GenerationsRiseOnce =
    (m : Numbers) (n : ℕ) (s t : State) (r : Report) (id : ℕ) (old new : Object Id) → Collected m n s t r
    → get s.objects id ≡ Some old → get t.objects id ≡ Some new → RisesOnce n old.generation new.generation

-- a dependent handle of a state, by its slot, and its target
pub record IsDependent (s : State) (slot : Slot) (x : Id) : Type 0 where
  pub handle : Handle Id
  pub is_stored : get s.handles slot.0 ≡ Some handle
  pub kind_is : handle.kind ≡ kind.Dependent
  pub target : handle.target ≡ Some x

-- where the target stays, the handle is as it was and its secondary stays; where the target is removed, both
-- are null
pub record Follows (s t : State) (slot : ℕ) (h : Handle Id) (x : Id) : Type 0 where
  pub same : IsSome (get t.objects x.0) → get t.handles slot ≡ Some h
  pub stays :
      IsSome (get t.objects x.0) → (y : Id) → secondary_of h.extra ≡ Some y → IsSome (get t.objects y.0)
  pub cleared :
      get t.objects x.0 ≡ None
      → get t.handles slot ≡ Some (record { kind = kind.Dependent; target = None; extra = secondary None })

-- a dependent handle keeps its secondary exactly as long as its target stays
abbrev pub SecondariesFollowTargets : Type 0
SecondariesFollowTargets =
    (m : Numbers) (n : ℕ) (s t : State) (r : Report) (slot : Slot) (x : Id) → Collected m n s t r
    → (d : IsDependent s slot x) → Follows s t slot.0 d.handle x

-- a dependent handle never brings its target into use
abbrev pub DependentsUseNoTarget : Type 0
DependentsUseNoTarget =
    (m : Numbers) (n : ℕ) (s : State) (slot : Slot) (x : Id) → IsWellFormed m s → IsDependent s slot x
    → IsInUse n s x ↔ IsInUse n (without_handle s slot) x

-- and never keeps it: the target stays exactly where it stays without the handle
abbrev pub DependentsKeepNoTarget : Type 0
DependentsKeepNoTarget =
    (m : Numbers) (n : ℕ) (s t u : State) (r q : Report) (slot : Slot) (x : Id) → Collected m n s t r
    → CollectsState n (without_handle s slot) u q → IsDependent s slot x
    → IsSome (get t.objects x.0) ↔ IsSome (get u.objects x.0)
