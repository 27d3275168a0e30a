-- What a pass comes to where ages are sound: the same as if it had looked at every row of its kind. Of the
-- number that a root task returns, which is of due rows alone, nothing is said here.
use Rattle.std.specs.Prelude.{◌≡◌, ◌↔◌, ℕ, ◌⊎◌, Bool, true, Some, option_map, MatchBool}
use Rattle.hd_model.specs.{declared.data.Addr.Addr, State.Handle, Role.pins, Leads.Grows, Collect.is_lost, Counting.Counts, Table.Table, Table.row_at}
use Rattle.hd_model.specs.Scene.{Objects, Rows, IsCondemned, IsYoungField}
use Rattle.hd_scan.specs.{declared.task.Task.Task, Passes.PassView}
use Rattle.hd_scan.specs.Tasks.{is_clearing, takes, swept}

-- a handle that passes a test has the target x, in whatever slot it is
pub record IsTargetOf {N : Type 0} (rows : Rows N) (f : Handle N → Bool) (x : N) : Type 0 where
  pub slot : ℕ
  pub handle : Handle N
  pub is_stored : rows slot ≡ Some handle
  pub passes : f handle ≡ true
  pub target : handle.target ≡ Some x

-- and the handle pins
pub record IsPinTargetOf {N : Type 0} (rows : Rows N) (f : Handle N → Bool) (x : N) : Type 0 where
  pub of : IsTargetOf rows f x
  pub pins : pins of.handle ≡ true

-- a slot whose handle passes a test, and whose target is not promoted
pub record IsLostAt {N : Type 0} (rows : Rows N) (f : Handle N → Bool) (p : N → Bool) (slot : ℕ)
    : Type 0 where
  pub handle : Handle N
  pub is_stored : rows slot ≡ Some handle
  pub passes : f handle ≡ true
  pub lost : is_lost p handle.target ≡ true

-- all targets of the handles that pass are promoted, with what they lead to, and nothing else is; of
-- condemned objects, exactly the targets of those that pin are pinned
pub record WholeRoots (o : Objects Addr) (n : ℕ) (f : Handle Addr → Bool) (before after : PassView)
    : Type 0 where
  pub promotes :
      Grows (IsYoungField o n) (IsTargetOf (row_at before.table) f) before.promoted after.promoted
  pub pins : (x : Addr) → IsCondemned o n x
      → (after.pinned x ≡ true) ↔ ((before.pinned x ≡ true) ⊎ IsPinTargetOf (row_at before.table) f x)

-- every handle that passes is cleared where its target is not promoted, and this is how many
pub record WholeClear (f : Handle Addr → Bool) (before : PassView) (after : Table)
    (cleared : ℕ) : Type 0 where
  pub swept :
      (slot : ℕ) → row_at after slot ≡ option_map (swept true f before.promoted) (row_at before.table slot)
  pub count : Counts (IsLostAt (row_at before.table) f before.promoted) cleared

-- what a pass comes to over all rows
abbrev pub WholePass : Objects Addr → ℕ → Task → (before after : PassView) → ℕ → Type 0
WholePass o n task before after answer =
    MatchBool (is_clearing task) (WholeClear (takes task) before after.table answer)
    (WholeRoots o n (takes task) before after)
