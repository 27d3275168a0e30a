-- What private clauses alone cite: what the checks of a state find before a collection.
use Rattle.std.specs.Prelude.{◌≡◌, ◌≢◌, ℕ, ◌<◌, ◌≤◌, true, List, Some, None, slice_index_or}
use Rattle.hd_model.specs.{declared.data.Addr.Addr, Scene.fields_at, Scene.generation_at, Ages.age_of}
use Rattle.hd_model.specs.State.{Handle, secondary_of}
use Rattle.hd_model.specs.Heap.{Heap, has_object, object_at, id_at}
use Rattle.hd_model.specs.Table.{Table, row_at}

-- all fields of an object are null, and all of all objects
abbrev pub HasNullFields : Heap → Addr → Type 0
HasNullFields h x = (k : ℕ) → slice_index_or (fields_at (object_at h) x) k None ≡ None

abbrev pub IsBare : Heap → Type 0
IsBare h = (x : Addr) → has_object h x ≡ true → HasNullFields h x

-- no object after this one has its identity
abbrev pub IsAlone : Heap → Addr → Type 0
IsAlone h x = (y : Addr) → has_object h y ≡ true → x.0 < y.0 → id_at h x ≢ id_at h y

abbrev pub AreAlone : Heap → Type 0
AreAlone h = (x : Addr) → has_object h x ≡ true → IsAlone h x

-- a row without a secondary, whose target is null or an object that is not younger than its clump's age
pub record IsPlain (h : Heap) (ages : List ℕ) (slot : ℕ) (row : Handle Addr) : Type 0 where
  pub object : (x : Addr) → row.target ≡ Some x → has_object h x ≡ true
  pub age : (x : Addr) → row.target ≡ Some x → age_of ages slot ≤ generation_at (object_at h) x
  pub alone : secondary_of row.extra ≡ None

abbrev pub ArePlain : Heap → Table → List ℕ → Type 0
ArePlain h t ages = (slot : ℕ) (row : Handle Addr) → row_at t slot ≡ Some row → IsPlain h ages slot row
