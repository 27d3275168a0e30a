-- How high the count of a ref-counted handle may be.
use Rattle.std.specs.Prelude.{◌≡◌, ℕ, ◌+◌, ◌<◌, ◌^◌, Some}
use Rattle.hd_model.specs.{declared.data.Id.Id, declared.data.Slot.Slot}
use Rattle.hd_model.specs.State.{Handle, State, count_of, handle_at, handle_register_of}

-- the count of the handle in a handle register may rise by one within its type
abbrev pub MayCountUp : State → ℕ → ℕ → Type 0
MayCountUp s caller h =
    (slot : Slot) (handle : Handle Id) → handle_register_of s caller h ≡ Some slot
    → handle_at s slot ≡ Some handle → count_of handle.extra + 1 < 2 ^ 32
