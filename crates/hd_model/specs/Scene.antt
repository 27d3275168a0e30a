-- What a collection looks at: objects by name, handles by slot, what registers and statics reference, and the
-- queue. A name is an identity in the machine and an address in a heap: each definition of a collection is
-- written once for both.
use Rattle.std.specs.Prelude.{◌≡◌, ℕ, ◌≤◌, Bool, true, List, [], ◌++◌, ◌∷◌, Option, Some, None, is_some, option_map, map, Contains}
use Rattle.std.specs.FinMap.{get}
use Rattle.hd_model.specs.Data.{Id}
use Rattle.hd_model.specs.Role.{attaches, role}
use Rattle.hd_model.specs.State.{Object, Handle, State, row_of, secondary_of, rename_object, rename_handle}

-- lookups: the object with a name, if there is one, and the handle in a slot, if the slot is live
abbrev pub Objects : Type 0 → Type 0
Objects N = N → Option (Object N)

abbrev pub Rows : Type 0 → Type 0
Rows N = ℕ → Option (Handle N)

-- objects, handles, what registers and statics reference (.NET's stack and static roots), and the
-- finalization queue
pub record Scene (N : Type 0) : Type 0 where
  pub object : N → Option (Object N)
  pub handle : ℕ → Option (Handle N)
  pub named : List (Option N)
  pub queue : List N

-- the lists concatenated
abbrev pub joined : {A : Type 0} → List (List A) → List A
joined [] = []
joined (xs ∷ xss) = xs ++ joined xss

-- the scene of the machine: a slot of the weak table is in it as a dependent handle, and all callers' object
-- registers and then the statics are one list
abbrev pub scene_of : State → Scene Id
scene_of s = record {
  object = λ x. get s.objects x.0;
  handle = row_of s;
  named = joined s.registers ++ s.statics;
  queue = s.queue;
}

-- whether a name is that of an object
abbrev pub is_object : {N : Type 0} → Objects N → N → Bool
is_object o x = is_some (o x)

-- the fields and the generation of the object with a name: none and 0 where there is no object
abbrev pub fields_in : {N : Type 0} → Option (Object N) → List (Option N)
fields_in None = []
fields_in (Some o) = o.fields

abbrev pub generation_in : {N : Type 0} → Option (Object N) → ℕ
generation_in None = 0
generation_in (Some o) = o.generation

abbrev pub fields_at : {N : Type 0} → Objects N → N → List (Option N)
fields_at o x = fields_in (o x)

abbrev pub generation_at : {N : Type 0} → Objects N → N → ℕ
generation_at o x = generation_in (o x)

-- a condemned object of a collection of n: one of generation at most n (GC.Collect(n) collects from
-- generation 0 through n)
pub record IsCondemned {N : Type 0} (o : Objects N) (n : ℕ) (x : N) : Type 0 where
  pub object : is_object o x ≡ true
  pub young : generation_at o x ≤ n

-- a field of x references y
abbrev pub IsField : {N : Type 0} → Objects N → N → N → Type 0
IsField o x y = Contains (fields_at o x) (Some y)

-- a field of x references y, and x is condemned
pub record IsYoungField {N : Type 0} (o : Objects N) (n : ℕ) (x y : N) : Type 0 where
  pub condemned : IsCondemned o n x
  pub field : IsField o x y

-- every name is that of an object, a handle without a target has no secondary, and only a dependent handle
-- has one
pub record IsWhole {N : Type 0} (s : Scene N) : Type 0 where
  pub fields : (x y : N) → IsField s.object x y → is_object s.object y ≡ true
  pub named : (x : N) → Contains s.named (Some x) → is_object s.object x ≡ true
  pub queue : (x : N) → Contains s.queue x → is_object s.object x ≡ true
  pub targets : (slot : ℕ) (h : Handle N) (x : N) → s.handle slot ≡ Some h → h.target ≡ Some x
      → is_object s.object x ≡ true
  pub secondaries :
      (slot : ℕ) (h : Handle N) (x : N) → s.handle slot ≡ Some h → secondary_of h.extra ≡ Some x
      → is_object s.object x ≡ true
  pub paired : (slot : ℕ) (h : Handle N) → s.handle slot ≡ Some h → h.target ≡ None
      → secondary_of h.extra ≡ None
  pub fits : (slot : ℕ) (h : Handle N) (x : N) → s.handle slot ≡ Some h → secondary_of h.extra ≡ Some x
      → role h ≡ attaches

-- t is s with each name x replaced by f x: objects keep their contents but for names, and no two objects get
-- one name
pub record IsReading {N M : Type 0} (f : N → M) (s : Scene N) (t : Scene M) : Type 0 where
  pub objects : (x : N) → is_object s.object x ≡ true
      → t.object (f x) ≡ option_map (rename_object f) (s.object x)
  pub only : (y : M) → is_object t.object y ≡ true → (x : N) × ((is_object s.object x ≡ true) × (f x ≡ y))
  pub apart : (x y : N) → is_object s.object x ≡ true → is_object s.object y ≡ true → f x ≡ f y → x ≡ y
  pub handles : (slot : ℕ) → t.handle slot ≡ option_map (rename_handle f) (s.handle slot)
  pub named : t.named ≡ map (option_map f) s.named
  pub queue : t.queue ≡ map f s.queue
