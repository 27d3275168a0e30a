-- A well formed state has a whole scene, and what a whole scene says of a state's references.
use Rattle.hd_model.proofs.Basics.{Contains, Contains-append_cases, Contains-append_left, Contains-append_right, Handle, HasSoundReferences, Id, IfSome, IsField, IsSome, IsWellFormed, IsWhole, List, Names, None, Numbers, Object, Option, Some, State, WeakEntry, [], ap, attaches, cases_lt, field_of, fields_in, get, get_or, get_or_default, get_or_past, is_some, joined, length, none-some, refl, register_of, role, row_of, scene_of, secondary_of, static_of, subst, sym, weak_handle, ℕ, ⊎_elim, ◌∙◌, ◌≡◌}
use Rattle.hd_model.proofs.Members.{not_in_none, member_at, joined_in, joined_from}
use Rattle.hd_model.proofs.KindExtras.{fits_secondary}
use Rattle.hd_model.proofs.WeakSlots.{handle_row, weak_row, row_cases, weak_attaches}

-- what holds of each value that an option may have
pub if_some_from : {A : Type 0} (P : A → Type 0) (o : Option A) → ((x : A) → o ≡ Some x → P x) → IfSome o P
if_some_from P None each = tt
if_some_from P (Some x) each = each x refl

pub if_some_at : {A : Type 0} (P : A → Type 0) (o : Option A) (x : A) → IfSome o P → o ≡ Some x → P x
if_some_at P o x h e = subst (λ q. IfSome q P) e h

-- what a list has at an index is one of its members
pub named_at : {A : Type 0} (xs : List (Option A)) (i : ℕ) (x : A) → get_or xs i None ≡ Some x
    → Contains xs (Some x)
named_at xs i x e =
    ⊎_elim (λ inside. member_at xs i None (Some x) inside e)
    (λ past. absurd (none-some x (sym (get_or_past xs i None past) ∙ e))) (cases_lt i (length xs))

pub at_named : {A : Type 0} (xs : List (Option A)) (x : A) → Contains xs (Some x) → (i : ℕ)
    × (get_or xs i None ≡ Some x)
at_named xs x h = (h.0, get_or_default xs h.0 None (Some x) h.1 ∙ h.2)

module _ (s : State) where
  -- what a register or a static references is in the scene's list, and what is there is referenced by one of
  -- them
  pub register_named : (c d : ℕ) (x : Id) → register_of s c d ≡ Some x → Contains (scene_of s).named (Some x)
  register_named c d x e =
      ⊎_elim
      (λ inside. Contains-append_left (joined s.registers) s.statics (Some x)
      (joined_in s.registers (get_or s.registers c []) (Some x) (member_at s.registers c [] _ inside refl)
      (named_at (get_or s.registers c []) d x e)))
      (λ past. absurd (none-some x (sym
      (ap (λ (row : List (Option Id)). get_or row d None) (get_or_past s.registers c [] past)) ∙ e)))
      (cases_lt c (length s.registers))

  pub static_named : (k : ℕ) (x : Id) → static_of s k ≡ Some x → Contains (scene_of s).named (Some x)
  static_named k x e = Contains-append_right (joined s.registers) s.statics (Some x)
      (named_at s.statics k x e)

  -- a field by its number
  pub field_in : (id : ℕ) (object : Object Id) (i : ℕ) (y : Id) → get s.objects id ≡ Some object
      → field_of object i ≡ Some y → IsField (scene_of s).object (record { 0 = id }) y
  field_in id object i y is_stored e =
      subst (λ (o : Option (Object Id)). Contains (fields_in o) (Some y)) (sym is_stored)
      (named_at object.fields i y e)

module _ (s : State) (w : HasSoundReferences s) where
  field_object : (x y : Id) (o : Option (Object Id)) → get s.objects x.0 ≡ o → Contains (fields_in o) (Some y)
      → IsSome (get s.objects y.0)
  field_object x y None e h = absurd (not_in_none (Some y) h)
  field_object x y (Some object) e h =
      let (i, at) = at_named object.fields y h in
      if_some_at (λ (id : Id). IsSome (get s.objects id.0)) (field_of object i) y (w.fields x.0 object e i) at

  named_object : (x : Id) → Contains (scene_of s).named (Some x) → IsSome (get s.objects x.0)
  named_object x h =
      ⊎_elim
      (λ in_row. let (row, rest) = joined_from s.registers (Some x) in_row in
      let (c, low, at_row) = rest.0 in
      let (d, at) = at_named row x rest.1 in
      if_some_at (λ (id : Id). IsSome (get s.objects id.0)) (register_of s c d) x (w.registers c d)
      (ap (λ (r : List (Option Id)). get_or r d None) (get_or_default s.registers c [] row low ∙ at_row)
      ∙ at))
      (λ in_statics. let (k, at) = at_named s.statics x in_statics in
      if_some_at (λ (id : Id). IsSome (get s.objects id.0)) (static_of s k) x (w.statics k) at)
      (Contains-append_cases (joined s.registers) s.statics (Some x) h)

-- what the row of a slot references is an object, and it fits
module _ (n : Numbers) (s : State) (w : IsWellFormed n s) where
  entry_names : (slot : ℕ) (c : Option (WeakEntry Id)) → get s.weak slot ≡ Some c
      → Names s (weak_handle c).target × Names s (secondary_of (weak_handle c).extra)
  entry_names slot None is = (tt, tt)
  entry_names slot (Some e) is = (w.names.keys slot e is, w.names.values slot e is)

  row_names : (slot : ℕ) (h : Handle Id) → row_of s slot ≡ Some h
      → Names s h.target × Names s (secondary_of h.extra)
  row_names slot h e =
      ⊎_elim (λ is. (w.names.targets slot h is, w.names.secondaries slot h is))
      (λ weak. subst (λ (g : Handle Id). Names s g.target × Names s (secondary_of g.extra)) weak.1.1.1
      (entry_names slot weak.1.0 weak.1.1.0)) (row_cases s slot h e)

  entry_paired : (c : Option (WeakEntry Id)) → (weak_handle c).target ≡ None
      → secondary_of (weak_handle c).extra ≡ None
  entry_paired None none = refl
  entry_paired (Some e) none = absurd (none-some e.key (sym none))

  row_paired : (slot : ℕ) (h : Handle Id) → row_of s slot ≡ Some h → h.target ≡ None
      → secondary_of h.extra ≡ None
  row_paired slot h e =
      ⊎_elim (λ is. w.handles.dependents slot h is)
      (λ weak. subst (λ (g : Handle Id). g.target ≡ None → secondary_of g.extra ≡ None) weak.1.1.1
      (entry_paired weak.1.0)) (row_cases s slot h e)

  row_fits : (slot : ℕ) (h : Handle Id) (x : Id) → row_of s slot ≡ Some h → secondary_of h.extra ≡ Some x
      → role h ≡ attaches
  row_fits slot h x e second =
      ⊎_elim (λ is. fits_secondary h.kind h.extra x (w.handles.extras slot h is) second)
      (λ weak. subst (λ (g : Handle Id). role g ≡ attaches) weak.1.1.1 (weak_attaches weak.1.0))
      (row_cases s slot h e)

-- a well formed state has a whole scene
pub whole_scene : (n : Numbers) (s : State) → IsWellFormed n s → IsWhole (scene_of s)
whole_scene n s w = record {
  fields = λ x y f. field_object s w.names x y (get s.objects x.0) refl f;
  named = λ x h. named_object s w.names x h;
  queue = λ x h. w.names.queue x h;
  targets = λ slot h x is_stored e. if_some_at (λ (id : Id). IsSome (get s.objects id.0)) h.target x
      (row_names n s w slot h is_stored).0 e;
  secondaries = λ slot h x is_stored e.
      if_some_at (λ (id : Id). IsSome (get s.objects id.0)) (secondary_of h.extra) x
      (row_names n s w slot h is_stored).1 e;
  paired = λ slot h is_stored none. row_paired n s w slot h is_stored none;
  fits = λ slot h x is_stored e. row_fits n s w slot h x is_stored e;
}

-- a state with a whole scene, whose pinned addresses are those of objects, references objects
pub names_of_whole : (s : State) → IsWhole (scene_of s)
    → ((slot : ℕ) → IsSome (get s.weak slot) → get s.handles slot ≡ None)
    → ((id : ℕ) → IsSome (get s.pinned id) → IsSome (get s.objects id)) → HasSoundReferences s
names_of_whole s w apart pinned = record {
  fields = λ id object is_stored i. if_some_from (λ (x : Id). IsSome (get s.objects x.0)) (field_of object i)
      (λ y e. w.fields (record { 0 = id }) y (field_in s id object i y is_stored e));
  registers = λ c d. if_some_from (λ (x : Id). IsSome (get s.objects x.0)) (register_of s c d)
      (λ x e. w.named x (register_named s c d x e));
  statics = λ k. if_some_from (λ (x : Id). IsSome (get s.objects x.0)) (static_of s k)
      (λ x e. w.named x (static_named s k x e));
  targets = λ slot h is_stored. if_some_from (λ (x : Id). IsSome (get s.objects x.0)) h.target
      (λ x e. w.targets slot h x (handle_row s slot h is_stored) e);
  secondaries = λ slot h is_stored.
      if_some_from (λ (x : Id). IsSome (get s.objects x.0)) (secondary_of h.extra)
      (λ x e. w.secondaries slot h x (handle_row s slot h is_stored) e);
  queue = λ id h. w.queue id h;
  pinned = pinned;
  keys = λ slot c is. w.targets slot (weak_handle (Some c)) c.key
      (weak_row s slot (Some c) (apart slot (ap is_some is)) is) refl;
  values = λ slot c is. if_some_from (λ (x : Id). IsSome (get s.objects x.0)) c.value
      (λ x e. w.secondaries slot (weak_handle (Some c)) x
      (weak_row s slot (Some c) (apart slot (ap is_some is)) is) e);
}
