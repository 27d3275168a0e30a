-- What holds of each way in which a command can come out holds of its outcome.
use Rattle.hd_model.proofs.Basics.{Bool, Handle, Id, Kind, None, Option, Outcome, Slot, Some, State, false, handle_at, handle_register_of, if◌then◌else◌, is_kind, length, ltb-false, ltb-true, nat_lt, object_by_id, on_field, on_handle, on_handle_of, on_object, option_map_or, refl, refuses, register_of, true, ℕ, ◌<◌, ◌≡◌, ◌≤◌}
use Rattle.hd_model.specs.declared.data.Refusal.TheVariants as refusal

pub option_cases : {A B : Type 0} (P : B → Type 0) (act : A → B) (o : Option A) (r : B) → (o ≡ None → P r)
    → ((x : A) → o ≡ Some x → P (act x)) → P (option_map_or act o r)
option_cases P act None r none some = none refl
option_cases P act (Some x) r none some = some x refl

pub test_cases : {B : Type 0} (P : B → Type 0) (b : Bool) (x y : B) → (b ≡ true → P x) → (b ≡ false → P y)
    → P (if b then x else y)
test_cases P true x y on off = on refl
test_cases P false x y on off = off refl

module _ (P : Outcome → Type 0) (s : State) (c : ℕ) where
  pub on_object_cases : (o : ℕ) (act : Id → Outcome) → (register_of s c o ≡ None → P (refuses refusal.Null s))
      → ((id : Id) → register_of s c o ≡ Some id → P (act id)) → P (on_object s c o act)
  on_object_cases o act none some = option_cases P act (register_of s c o) (refuses refusal.Null s) none some

  pub on_field_cases : (o i : ℕ) (act : Id → Outcome)
      → (register_of s c o ≡ None → P (refuses refusal.Null s))
      → ((id : Id) → register_of s c o ≡ Some id → length (object_by_id s id).fields ≤ i
      → P (refuses refusal.BadField s)) → ((id : Id) → register_of s c o ≡ Some id
      → i < length (object_by_id s id).fields → P (act id)) → P (on_field s c o i act)
  on_field_cases o i act none past some =
      on_object_cases o _ none (λ id e. test_cases P (nat_lt i (length (object_by_id s id).fields)) (act id)
      (refuses refusal.BadField s) (λ b. some id e (ltb-true _ _ b)) (λ b. past id e (ltb-false _ _ b)))

  pub on_handle_cases : (h : ℕ) (act : Slot → Handle Id → Outcome)
      → (handle_register_of s c h ≡ None → P (refuses refusal.EmptyRegister s))
      → ((slot : Slot) → handle_register_of s c h ≡ Some slot → handle_at s slot ≡ None
      → P (refuses refusal.NotLive s)) → ((slot : Slot) (handle : Handle Id)
      → handle_register_of s c h ≡ Some slot → handle_at s slot ≡ Some handle → P (act slot handle))
      → P (on_handle s c h act)
  on_handle_cases h act empty gone some =
      option_cases P (λ slot. option_map_or (act slot) (handle_at s slot) (refuses refusal.NotLive s))
      (handle_register_of s c h) (refuses refusal.EmptyRegister s) empty
      (λ slot e. option_cases P (act slot) (handle_at s slot) (refuses refusal.NotLive s) (gone slot e)
      (λ handle f. some slot handle e f))

  pub on_handle_of_cases : (h : ℕ) (wanted : Kind) (act : Slot → Handle Id → Outcome)
      → (handle_register_of s c h ≡ None → P (refuses refusal.EmptyRegister s))
      → ((slot : Slot) → handle_register_of s c h ≡ Some slot → handle_at s slot ≡ None
      → P (refuses refusal.NotLive s)) → ((slot : Slot) (handle : Handle Id)
      → handle_register_of s c h ≡ Some slot → handle_at s slot ≡ Some handle
      → is_kind handle.kind wanted ≡ false → P (refuses refusal.WrongKind s))
      → ((slot : Slot) (handle : Handle Id) → handle_register_of s c h ≡ Some slot
      → handle_at s slot ≡ Some handle → is_kind handle.kind wanted ≡ true → P (act slot handle))
      → P (on_handle_of s c h wanted act)
  on_handle_of_cases h wanted act empty gone other some =
      on_handle_cases h _ empty gone
      (λ slot handle e f. test_cases P (is_kind handle.kind wanted) (act slot handle)
      (refuses refusal.WrongKind s) (some slot handle e f) (other slot handle e f))
