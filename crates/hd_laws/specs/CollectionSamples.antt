-- Two states in which the premises of each law of collections hold.
use Rattle.std.specs.Prelude.{◌≡◌, ℕ, Bool, true, false, List, [], ◌∷◌, Option, Some, None}
use Rattle.std.specs.FinMap.{get}
use Rattle.hd_model.specs.{declared.data.Id.Id, declared.data.Slot.Slot, declared.data.Kind.Kind, declared.data.Report.Report}
use Rattle.hd_model.specs.declared.data.Kind.TheVariants as kind
use Rattle.hd_model.specs.State.{Numbers, Object, nothing, secondary, Handle, handles_of, State, start_of, with_register, with_object, with_handle, with_use, with_serial, without_handle, WeakEntry, with_weak}
use Rattle.hd_model.specs.Scene.{scene_of}
use Rattle.hd_model.specs.Ages.{is_due, HasSoundAges}
use Rattle.hd_model.specs.Collect.{CollectsState}
use Rattle.hd_model.specs.WellFormed.{IsWellFormed}
use Rattle.hd_model.specs.InUse.{IsOlder, IsInUse, IsResurrected, IsRescued, IsGarbage}
use Rattle.hd_laws.specs.CollectionLaws.{IsWeakPair, HasCollection}
use Rattle.hd_model.specs.CollectionLaws.{IsDependent}

abbrev pub few : Numbers
few = record { heap = 100; blocks = 4; callers = 1 }

abbrev pub id_of : ℕ → Id
id_of k = record { 0 = k }

abbrev pub slot_of : ℕ → Slot
slot_of k = record { 0 = k }

abbrev pub object_with : List (Option Id) → ℕ → Bool → Object Id
object_with fields generation registered =
    record { fields = fields; value = 0; generation = generation; registered = registered }

abbrev pub weak_to : Kind → ℕ → Handle Id
weak_to k target = record { kind = k; target = Some (id_of target); extra = nothing }

-- object 1, of generation 1, is in a register, and a weak short handle and a weak long one have it as their
-- target: nothing is resurrected. Caller 0 has made five objects.
abbrev pub made_one : State
made_one =
    with_register (with_object (with_serial (start_of few) 0 5) (id_of 1) (object_with [] 1 false)) 0 0
    (Some (id_of 1))

abbrev pub with_blocks : State
with_blocks =
    with_use (with_use (with_use made_one 1 (handles_of kind.Short)) 2 (handles_of kind.Long)) 3
    (handles_of kind.Dependent)

abbrev pub calm : State
calm = with_handle (with_handle with_blocks (slot_of 65) (weak_to kind.Short 1)) (slot_of 129)
    (weak_to kind.Long 1)

-- besides, of four objects of generation 0, 2 is garbage, and 3 is registered and out of use, with a field
-- to 4
abbrev pub with_objects : State
with_objects =
    with_object
    (with_object
    (with_object (with_object calm (id_of 2) (object_with [] 0 false)) (id_of 4) (object_with [] 0 false))
    (id_of 3) (object_with (Some (id_of 4) ∷ []) 0 true)) (id_of 5) (object_with [] 0 false)

-- a weak short handle and a weak long one have 4, a weak short one in another clump has 1, and a dependent
-- one attaches 5 to 1
abbrev pub attaching : Handle Id
attaching =
    record { kind = kind.Dependent; target = Some (id_of 1); extra = secondary (Some (id_of 5)) }

abbrev pub busy : State
busy =
    with_handle
    (with_handle
    (with_handle (with_handle with_objects (slot_of 64) (weak_to kind.Short 4)) (slot_of 128)
    (weak_to kind.Long 4)) (slot_of 80) (weak_to kind.Short 1)) (slot_of 192) attaching

-- the ages of its clumps: that of slot 80 alone is above 0
abbrev pub ages_of_busy : List ℕ
ages_of_busy = 0 ∷ 1 ∷ []

-- the same state with an entry of the weak table, which attaches 5 to 1
abbrev pub entry_of_one : WeakEntry Id
entry_of_one = record { key = id_of 1; value = Some (id_of 5) }

abbrev pub entered : State
entered = with_weak busy (slot_of 193) (Some entry_of_one)

-- what the laws of collections ask for is met in these states: in one for a collection of 1, and in the other
-- for one of 0
pub record PremisesAreMet : Type 0 where
  pub calm_is : IsWellFormed few calm
  pub busy_is : IsWellFormed few busy
  pub after_calm : HasCollection 1 calm
  pub after_busy : HasCollection 0 busy
  pub in_use : IsInUse 0 busy (id_of 5)
  pub garbage : IsGarbage 0 busy (id_of 2)
  pub resurrected : IsResurrected 0 busy (id_of 3)
  pub rescued : IsRescued 0 busy (id_of 4)
  pub older : IsOlder 0 busy (id_of 1)
  pub apart : IsWeakPair busy 64 128 (id_of 4)
  pub alike : IsWeakPair calm 65 129 (id_of 1)
  pub none_resurrected : (t : State) (r : Report) → CollectsState 1 calm t r → r.revived ≡ 0
  pub dependent : IsDependent busy (slot_of 192) (id_of 1)
  pub without : HasCollection 0 (without_handle busy (slot_of 192))
  pub entered_is : IsWellFormed few entered
  pub entry : get entered.weak 193 ≡ Some (Some entry_of_one)
  pub after_entered : HasCollection 0 entered
  pub taken_out : HasCollection 0 (with_weak entered (slot_of 193) None)
  pub ages : HasSoundAges (scene_of busy).object (scene_of busy).handle ages_of_busy
  pub not_due : is_due ages_of_busy 0 80 ≡ false
  pub due : is_due ages_of_busy 0 64 ≡ true
