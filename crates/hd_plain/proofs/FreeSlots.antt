-- An idle slot of the weak table, and a block whose slots are all free.
use Rattle.std.proofs.Common.{IsSome, Some, ap, arith, is_some, subst, sym, ℕ, ◌*◌, ◌/◌, ◌<◌, ◌∙◌, ◌≡◌, ◌≤◌}
use Rattle.std.specs.FinMap.{get}
use Rattle.hd_model.specs.declared.data.Kind.{Kind}
use Rattle.hd_model.specs.declared.data.Slot.{Slot}
use Rattle.hd_model.specs.Command.{idle_slot}
use Rattle.hd_model.specs.State.{BlockUse, Numbers, State, IsAllFree, first_slot, handles_of, use_of}
use Rattle.hd_model.specs.WellFormed.{IsWellFormed}
use Rattle.hd_model.proofs.WeakSlots.{idle_found}
use Rattle.hd_maps.specs.WeakSlots.{IsUnnamed}
use Rattle.hd_maps.specs.TableViews.{slots_of}
use Rattle.hd_model.specs.declared.limits.TheConstants.{ROWS}

module _ (n : Numbers) (s : State) (w : IsWellFormed n s) where
  used_low : (slot : ℕ) (u : BlockUse) → use_of s (slot / ROWS) ≡ Some u → slot < slots_of n.blocks
  used_low slot u is = omega (arith, (w.handles.blocks (slot / ROWS) (ap is_some is)).1)

  -- a slot of the weak table
  pub weak_low : (slot : ℕ) → IsSome (get s.weak slot) → slot < slots_of n.blocks
  weak_low slot some = used_low slot _ (w.weak.kinds slot some)

  pub idle_unnamed : (slot : Slot) → idle_slot s ≡ Some slot → IsUnnamed (get s.weak slot.0)
  idle_unnamed slot e = subst IsUnnamed (sym (idle_found s slot e)) tt

  -- a block whose slots are all free
  pub all_free_of : (k : Kind) (block : ℕ) → IsAllFree s k block → use_of s block ≡ Some (handles_of k)
  all_free_of k block free =
      let at : (block * ROWS) / ROWS ≡ block = omega arith in
      ap (use_of s) (sym at) ∙ (free (first_slot block) at).of_kind

  pub all_free_low : (k : Kind) (block : ℕ) → IsAllFree s k block → block ≤ n.blocks
  all_free_low k block free = (w.handles.blocks block (ap is_some (all_free_of k block free))).1
