-- What private clauses alone cite.
use Rattle.std.specs.Prelude.{ℕ, ◌*◌, List, Option, option_map, option_and_then, ◌≡◌, ◌⊎◌, Bool, true, Some}
use Rattle.hd_model.specs.{declared.data.Addr.Addr, declared.data.Slot.Slot, declared.limits.TheConstants.ROWS, State.Handle, RootText.held_of, RootText.roots_in, Table.Table, Table.row_at, Role.pins}
use Rattle.hd_seg.specs.Mapped.{entries_of}
use Rattle.hd_scan.specs.{declared.gathering.Root.Root, Gathering.root_by, declared.task.Task.Task, Tasks.takes}

-- those of one block
abbrev pub roots_of_block : Table → ℕ → List Root
roots_of_block t block = roots_in root_by (entries_of (ROWS * block) ROWS (row_at t))

-- the root in a slot, if its handle is one
abbrev pub root_at : Table → Slot → Option Root
root_at t slot = option_and_then (λ (h : Handle Addr). option_map (root_by slot h.kind) (held_of h))
    (row_at t slot.0)

-- a task takes a handle with the target x
pub record IsTargetBy {N : Type 0} (task : Task) (handle : Handle N) (x : N) : Type 0 where
  pub takes : takes task handle ≡ true
  pub target : handle.target ≡ Some x

-- of the targets of one handle, the task pins that of one which it takes and which pins
pub record PinsBy {N : Type 0} (task : Task) (handle : Handle N) (before after : N → Bool) : Type 0 where
  pub keeps : (x : N) → before x ≡ true → after x ≡ true
  pub joins : (x : N) → IsTargetBy task handle x → pins handle ≡ true → after x ≡ true
  pub only : (x : N) → after x ≡ true
      → (before x ≡ true) ⊎ (IsTargetBy task handle x × (pins handle ≡ true))
