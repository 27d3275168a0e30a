-- What is in use and what is not, as someone who holds a handle sees it: chains of edges in a state.
use Rattle.std.specs.Prelude.{◌≡◌, ℕ, ◌<◌, ◌≤◌, ◌⊎◌, true, Some, IsSome, Contains}
use Rattle.std.specs.FinMap.{get}
use Rattle.hd_model.specs.Data.{Id}
use Rattle.hd_model.specs.declared.data.Kind.TheVariants as kind
use Rattle.hd_model.specs.State.{Object, Handle, State, secondary_of, field_of, register_of, static_of, row_of}
use Rattle.hd_model.specs.Role.{holds, role}

-- what keeps an object by itself: a register or static that references it, the queue, or a handle that holds
-- it
pub data IsUsed (s : State) (x : Id) : Type 0 where
  in_register : (c d : ℕ) → register_of s c d ≡ Some x → IsUsed s x
  in_static : (k : ℕ) → static_of s k ≡ Some x → IsUsed s x
  in_queue : Contains s.queue x → IsUsed s x
  by_handle : (slot : ℕ) (h : Handle Id) → row_of s slot ≡ Some h → role h ≡ holds → h.target ≡ Some x
      → IsUsed s x

-- an object of a generation above n, which a collection of n does not condemn
pub record IsOlder (n : ℕ) (s : State) (x : Id) : Type 0 where
  pub object : Object Id
  pub is_stored : get s.objects x.0 ≡ Some object
  pub above : n < object.generation

-- what chains of edges lead to from starts: the starts, what their fields reference, the secondaries of
-- dependent handles to them, and the values of the weak table's entries of which they are the keys
pub data IsLedTo (s : State) (Start : Id → Type 0) : Id → Type 0 where
  from_start : {x : Id} → Start x → IsLedTo s Start x
  by_field : {x y : Id} → IsLedTo s Start x → (object : Object Id) (i : ℕ)
      → get s.objects x.0 ≡ Some object → field_of object i ≡ Some y → IsLedTo s Start y
  by_dependent : {x y : Id} → IsLedTo s Start x → (slot : ℕ) (h : Handle Id) → row_of s slot ≡ Some h
      → h.kind ≡ kind.Dependent → h.target ≡ Some x → secondary_of h.extra ≡ Some y → IsLedTo s Start y

-- what a collection of n may not touch: chains lead to it from what is used or older
abbrev pub IsInUse : ℕ → State → Id → Type 0
IsInUse n s = IsLedTo s (λ x. IsUsed s x ⊎ IsOlder n s x)

-- what a collection of n resurrects: a condemned object that is registered and out of use
pub record IsResurrected (n : ℕ) (s : State) (x : Id) : Type 0 where
  pub object : Object Id
  pub is_stored : get s.objects x.0 ≡ Some object
  pub registered : object.registered ≡ true
  pub young : object.generation ≤ n
  pub out_of_use : IsInUse n s x → ⊥

-- what a collection of n keeps for finalization alone: out of use, and a chain leads to it from what is
-- resurrected
pub record IsRescued (n : ℕ) (s : State) (x : Id) : Type 0 where
  pub led_to : IsLedTo s (IsResurrected n s) x
  pub out_of_use : IsInUse n s x → ⊥

-- an object that nothing keeps: out of use, and no chain leads to it from what is resurrected
pub record IsGarbage (n : ℕ) (s : State) (x : Id) : Type 0 where
  pub object : IsSome (get s.objects x.0)
  pub out_of_use : IsInUse n s x → ⊥
  pub not_rescued : IsLedTo s (IsResurrected n s) x → ⊥
