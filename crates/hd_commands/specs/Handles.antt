-- Handles over any names, in the words of the machine.
use Rattle.std.specs.Prelude.{◌≡◌, ℕ, ◌≤◌, true, None, Result, Ok, Err, IfSome, if◌then◌else◌}
use Rattle.std.specs.Option.{option_map_or}
use Rattle.hd_model.specs.declared.data.{Id.Id, Slot.Slot, Refusal.Refusal}
use Rattle.hd_model.specs.declared.data.Refusal.TheVariants as refusal
use Rattle.hd_model.specs.State as model
use Rattle.hd_model.specs.State.{State, block_of, rename_handle, secondary_of, handle_register_of, handle_at}
use Rattle.hd_model.specs.{Ages.age_of, Table.fits}
use Rattle.hd_model.specs.Role.{pins}
use Rattle.hd_model.specs.declared.handle.Handle.{Handle}
use Rattle.hd_model.specs.Handles.{handle_of}
use Rattle.hd_commands.specs.Seen.{Seen, name_in, IsNamed, object_named}

-- a handle with its names read as identities
abbrev pub handle_named : {N R : Type 0} → Seen N R → Handle N → model.Handle Id
handle_named p h = rename_handle (name_in p) (handle_of h)

-- a handle may be stored in a slot: its extra fits its kind, what it references are objects, one without a
-- target has no secondary, and the age of the slot's clump is at most the generation of what it references
pub record MayBeStored {N R : Type 0} (p : Seen N R) (slot : Slot) (h : model.Handle N) : Type 0 where
  pub fits : fits h.kind h.extra ≡ true
  pub target : IsNamed p h.target
  pub secondary : IsNamed p (secondary_of h.extra)
  pub paired : h.target ≡ None → secondary_of h.extra ≡ None
  pub target_age : IfSome h.target (λ a. age_of p.ages slot.0 ≤ (object_named p a).generation)
  pub secondary_age :
      IfSome (secondary_of h.extra) (λ a. age_of p.ages slot.0 ≤ (object_named p a).generation)

-- a slot is one of the table's
abbrev pub IsWithin : {N R : Type 0} → Seen N R → Slot → Type 0
IsWithin p slot = (1 ≤ block_of slot) × (block_of slot ≤ p.numbers.blocks)

-- the slot in a handle register with its handle, or why there is none
abbrev pub live_in : State → ℕ → ℕ → Result (Slot × model.Handle Id) Refusal
live_in s caller h =
    option_map_or
    (λ slot. option_map_or (λ handle. Ok (slot, handle)) (handle_at s slot) (Err refusal.NotLive))
    (handle_register_of s caller h) (Err refusal.EmptyRegister)

-- the live handle that a command finds, in the words of the machine
abbrev pub as_found : {N R : Type 0} → Seen N R → Result (Slot × Handle N) Refusal → Result (Slot × model.Handle Id) Refusal
as_found p (Ok found) = Ok (found.0, handle_named p found.1)
as_found p (Err refused) = Err refused

-- what a handle pins, or why it pins nothing
abbrev pub pinned_of : model.Handle Id → Result Id Refusal
pinned_of handle =
    if pins handle then option_map_or Ok handle.target (Err refusal.Null) else Err refusal.WrongKind

-- what the handle in a handle register pins, or why it pins nothing
abbrev pub pinned_in : State → ℕ → ℕ → Result Id Refusal
pinned_in s caller h =
    option_map_or (λ slot. option_map_or pinned_of (handle_at s slot) (Err refusal.NotLive))
    (handle_register_of s caller h) (Err refusal.EmptyRegister)

-- the object that a command finds pinned, in the words of the machine
abbrev pub as_pinned : {N R : Type 0} → Seen N R → Result N Refusal → Result Id Refusal
as_pinned p (Ok at) = Ok (name_in p at)
as_pinned p (Err refused) = Err refused
