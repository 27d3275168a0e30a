-- What a collection of n finds that visits the handles of due clumps alone, and condemned objects alone.
-- Clumps and their ages are after CoreCLR's handle table.
use Rattle.std.specs.Prelude.{◌≡◌, ◌↔◌, ℕ, ◌⊎◌, true, false, List, Some, Contains}
use Rattle.std.specs.FinMap.{get}
use Rattle.hd_model.specs.{declared.data.Id.Id}
use Rattle.hd_model.specs.declared.data.Kind.TheVariants as kind
use Rattle.hd_model.specs.State.{Object, Handle, State, secondary_of, field_of, register_of, static_of, row_of}
use Rattle.hd_model.specs.Role.{holds, role}
use Rattle.hd_model.specs.Scene.{scene_of, IsCondemned}
use Rattle.hd_model.specs.Ages.{is_due}
use Rattle.hd_model.specs.InUse.{IsOlder, IsLedTo, IsInUse, IsResurrected}

-- a live handle in a clump that is due, or what the weak table attaches by a slot of it
pub record IsDueHandle (ages : List ℕ) (n : ℕ) (s : State) (slot : ℕ) (h : Handle Id) : Type 0 where
  pub is_stored : row_of s slot ≡ Some h
  pub due : is_due ages n slot ≡ true

-- where marking begins: what registers, statics and the queue reference, what a due handle holds, what a
-- field of an older object references, and the secondary of a due dependent handle to an older object
pub data IsDueRoot (ages : List ℕ) (n : ℕ) (s : State) (x : Id) : Type 0 where
  due_register : (c d : ℕ) → register_of s c d ≡ Some x → IsDueRoot ages n s x
  due_static : (k : ℕ) → static_of s k ≡ Some x → IsDueRoot ages n s x
  due_queue : Contains s.queue x → IsDueRoot ages n s x
  due_holder : (slot : ℕ) (h : Handle Id) → IsDueHandle ages n s slot h → role h ≡ holds → h.target ≡ Some x
      → IsDueRoot ages n s x
  older_field : (y : Id) (old : IsOlder n s y) (i : ℕ) → field_of old.object i ≡ Some x → IsDueRoot ages n s x
  older_target : (y : Id) → IsOlder n s y → (slot : ℕ) (h : Handle Id) → IsDueHandle ages n s slot h
      → h.kind ≡ kind.Dependent → h.target ≡ Some y → secondary_of h.extra ≡ Some x → IsDueRoot ages n s x

-- what it marks: condemned objects, from starts along fields and due dependent handles
pub data IsMarked (ages : List ℕ) (n : ℕ) (s : State) (Start : Id → Type 0) : Id → Type 0 where
  mark_start : {x : Id} → Start x → IsCondemned (scene_of s).object n x → IsMarked ages n s Start x
  mark_field : {x y : Id} → IsMarked ages n s Start x → (object : Object Id) (i : ℕ)
      → get s.objects x.0 ≡ Some object → field_of object i ≡ Some y → IsCondemned (scene_of s).object n y
      → IsMarked ages n s Start y
  mark_secondary : {x y : Id} → IsMarked ages n s Start x → (slot : ℕ) (h : Handle Id)
      → IsDueHandle ages n s slot h → h.kind ≡ kind.Dependent → h.target ≡ Some x
      → secondary_of h.extra ≡ Some y → IsCondemned (scene_of s).object n y → IsMarked ages n s Start y

-- of the condemned objects, exactly those in use are marked from these roots, and exactly those that are kept
-- are marked from these roots and what is resurrected; each handle that is not due, and each slot of the weak
-- table that is not, stays as it was
pub record HidesNothing (ages : List ℕ) (n : ℕ) (s t : State) : Type 0 where
  pub used : (x : Id) → IsCondemned (scene_of s).object n x
      → IsInUse n s x ↔ IsMarked ages n s (IsDueRoot ages n s) x
  pub kept : (x : Id) → IsCondemned (scene_of s).object n x
      → (IsInUse n s x ⊎ IsLedTo s (IsResurrected n s) x)
      ↔ IsMarked ages n s (λ y. IsDueRoot ages n s y ⊎ IsResurrected n s y) x
  pub handles : (slot : ℕ) → is_due ages n slot ≡ false → get t.handles slot ≡ get s.handles slot
  pub weak : (slot : ℕ) → is_due ages n slot ≡ false → get t.weak slot ≡ get s.weak slot
