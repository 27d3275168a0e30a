-- What a step leaves of the handle in a slot.
use Rattle.hd_model.proofs.Basics.{Bool, Handle, None, Option, Some, State, ap, arith, cond, empty, false, get, handle_at, handle_register_of, inl, inr, none-some, refl, same_Some, subst, sym, true, with_pinned, ℕ, ◌+◌, ◌<◌, ◌∙◌, ◌≡◌, ◌⊎◌}
use Rattle.hd_model.proofs.Effects.{effect}
use Rattle.hd_model.proofs.ReadAfterWrite.{cell_here}
use Rattle.hd_model.proofs.StepWrites.{HandleChange, extra_is_set, handle_change, handle_stays, is_collected, is_freed, is_made, target_is_set}
use Rattle.hd_model.specs.{declared.command.Cmd.Cmd, declared.data.Entry.Entry, declared.data.Id.Id, declared.data.Slot.Slot}
use Rattle.hd_model.specs.Collect.{cleared, loses}
use Rattle.hd_model.specs.declared.command.Cmd.TheVariants as cmd
use Rattle.hd_store.proofs.SoundCalls.{sound-pointed}
use Rattle.hd_store.specs.{Calls.IsSound, Calls.pointed, Store.Machine}
use Rattle.hd_host.specs.Steps.{HasStepped}
use Rattle.hd_host.proofs.SoundTurns.{stepped_goes, stepped_known}

-- what a handle is after a step: of the same kind and target; or the command sets it, frees it, or collects
pub data SlotChange (s : State) (e : Entry) (at : Slot) (was : Handle Id) (c : Cmd) (o : Option (Handle Id))
    : Type 0 where
  stays : (held : Handle Id) → o ≡ Some held → held.kind ≡ was.kind → held.target ≡ was.target
      → SlotChange s e at was c o
  set_by : (h t : ℕ) → c ≡ cmd.HSet h t → handle_register_of s e.caller h ≡ Some at
      → SlotChange s e at was c o
  freed_by : (h : ℕ) → c ≡ cmd.HFree h → handle_register_of s e.caller h ≡ Some at → SlotChange s e at was c o
  cleared_by : (k : ℕ) → c ≡ cmd.Collect k → (held : Handle Id) → o ≡ Some held → held.kind ≡ was.kind
      → (held.target ≡ was.target) ⊎ (held.target ≡ None) → SlotChange s e at was c o

lost_or_kept : {A : Type 0} (b : Bool) (o : Option A) → (cond b None o ≡ o) ⊎ (cond b None o ≡ None)
lost_or_kept true o = inr refl
lost_or_kept false o = inl refl

module _ (s : State) (e : Entry) (at : Slot) (was : Handle Id) (is : handle_at s at ≡ Some was) where
  same_held : (handle : Handle Id) → handle_at s at ≡ Some handle → handle ≡ was
  same_held handle live = same_Some handle was (sym live ∙ is)

  pub slot_change : {c : Cmd} {o : Option (Handle Id)} → HandleChange s e at c o → SlotChange s e at was c o
  slot_change handle_stays = stays was is refl refl
  slot_change (is_made given reply free) = absurd (none-some was (sym free ∙ is))
  slot_change (target_is_set {h = h} {t = t} handle found reply) = set_by h t refl found.names
  slot_change (extra_is_set handle found fits sets) =
      stays _ refl (ap (λ (h : Handle Id). h.kind) (same_held handle found.live))
      (ap (λ (h : Handle Id). h.target) (same_held handle found.live))
  slot_change (is_freed {h = h} handle found reply) = freed_by h refl found.names
  slot_change (is_collected {k = k} reach kept handle live) =
      cleared_by k refl (cleared reach kept handle) refl
      (ap (λ (h : Handle Id). h.kind) (same_held handle live))
      (subst (λ (h : Handle Id). ((cleared reach kept handle).target ≡ h.target)
      ⊎ ((cleared reach kept handle).target ≡ None)) (same_held handle live)
      (lost_or_kept (loses reach kept handle) handle.target))

-- the state in which a command is asked
abbrev pub asked_in : Machine → ℕ → Option Slot → State
asked_in old context slot = with_pinned (pointed old context slot).state empty

module _ {old new : Machine} {context : ℕ} {slot : Option Slot} {command : Cmd} {e : Entry}
    (sound : IsSound old)
    (stepped : HasStepped old context slot command new e) where
  -- the slot that the register has there
  pub named : handle_register_of (asked_in old context slot) e.caller 0 ≡ slot
  named =
      let shape = sound.well_formed.shape in
      let known = stepped_known stepped in
      ap (λ c. handle_register_of (asked_in old context slot) c 0) stepped.command_is.0
      ∙ cell_here old.state.handle_registers context 0 slot None
      (omega (arith, known, shape.handle_registers))
      (omega (arith, shape.each_handle_registers context known))

  pub stepped_change : (at : Slot) (was : Handle Id) → handle_at old.state at ≡ Some was
      → SlotChange (asked_in old context slot) e at was command (handle_at new.state at)
  stepped_change at was is =
      let moved = stepped_goes stepped in
      let s = asked_in old context slot in
      let t = with_pinned stepped.after.state moved.pinned in
      let well = (sound-pointed old context 0 slot sound (stepped_known stepped)).well_formed in
      subst (λ (m : Machine). SlotChange s e at was command (handle_at m.state at)) (sym stepped.new_is)
      (subst (λ (c : Cmd). SlotChange s e at was c (get t.handles at.0)) stepped.command_is.1
      (slot_change s e at was is
      (handle_change old.numbers s well e at e.cmd t (effect old.numbers s e t moved.step))))
