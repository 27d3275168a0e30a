-- What a pass does in the slots that it visits: those whose clump is due.
use Rattle.std.specs.Prelude.{◌≡◌, ℕ, ◌⊎◌, Bool, true, List, Some, option_map, MatchBool}
use Rattle.hd_model.specs.{declared.data.Addr.Addr, State.Handle, Role.pins, Leads.Grows, Ages.is_due, Collect.is_lost, Counting.Counts, Table.Table, Table.row_at, Visits.IsSameTable}
use Rattle.hd_model.specs.Scene.{Objects, Rows, IsYoungField}
use Rattle.hd_scan.specs.declared.task.Task.{Task}
use Rattle.hd_scan.specs.Tasks.{is_clearing, takes, swept}

-- a handle that a task takes, in a visited slot, has the target x
pub record IsTaken {N : Type 0} (rows : Rows N) (ages : List ℕ) (n : ℕ) (task : Task) (x : N) : Type 0 where
  pub slot : ℕ
  pub handle : Handle N
  pub is_stored : rows slot ≡ Some handle
  pub due : is_due ages n slot ≡ true
  pub takes : takes task handle ≡ true
  pub target : handle.target ≡ Some x

-- a visited slot from whose handle a task promotes
pub record IsRootAt {N : Type 0} (rows : Rows N) (ages : List ℕ) (n : ℕ) (task : Task) (slot : ℕ)
    : Type 0 where
  pub handle : Handle N
  pub object : N
  pub is_stored : rows slot ≡ Some handle
  pub due : is_due ages n slot ≡ true
  pub takes : takes task handle ≡ true
  pub target : handle.target ≡ Some object

-- a visited slot whose handle a clearing task clears
pub record IsSweptAt {N : Type 0} (rows : Rows N) (ages : List ℕ) (n : ℕ) (task : Task) (p : N → Bool)
    (slot : ℕ) : Type 0 where
  pub handle : Handle N
  pub is_stored : rows slot ≡ Some handle
  pub due : is_due ages n slot ≡ true
  pub takes : takes task handle ≡ true
  pub lost : is_lost p handle.target ≡ true

-- the rows after a clearing task
abbrev pub IsSwept : {N : Type 0} → List ℕ → ℕ → Task → (N → Bool) → (before after : Rows N) → Type 0
IsSwept ages n task p before after =
    (slot : ℕ) → after slot ≡ option_map (swept (is_due ages n slot) (takes task) p) (before slot)

-- x is the target of a handle that a task takes, in a visited slot, and that pins
pub record IsPinnedBy {N : Type 0} (rows : Rows N) (ages : List ℕ) (n : ℕ) (task : Task) (x : N)
    : Type 0 where
  pub taken : IsTaken rows ages n task x
  pub pins : pins taken.handle ≡ true

-- a task pins the targets of these handles and no others
pub record Pins {N : Type 0} (rows : Rows N) (ages : List ℕ) (n : ℕ) (task : Task) (before after : N → Bool)
    : Type 0 where
  pub keeps : (x : N) → before x ≡ true → after x ≡ true
  pub joins : (x : N) → IsPinnedBy rows ages n task x → after x ≡ true
  pub only : (x : N) → after x ≡ true → (before x ≡ true) ⊎ IsPinnedBy rows ages n task x

-- what a pass reads and changes: the table, and what is promoted and pinned
pub record PassView : Type 0 where
  pub table : Table
  pub promoted : Addr → Bool
  pub pinned : Addr → Bool

abbrev pub view_at : Table → (promoted pinned : Addr → Bool) → PassView
view_at t promoted pinned = record { table = t; promoted = promoted; pinned = pinned }

-- a root task promotes and pins, and leaves the table
pub record RootPass (o : Objects Addr) (ages : List ℕ) (n : ℕ) (task : Task) (before after : PassView)
    (answer : ℕ) : Type 0 where
  pub table : after.table ≡ before.table
  pub promotes :
      Grows (IsYoungField o n) (IsTaken (row_at before.table) ages n task) before.promoted after.promoted
  pub pins : Pins (row_at before.table) ages n task before.pinned after.pinned
  pub count : Counts (IsRootAt (row_at before.table) ages n task) answer

-- a clearing task nulls targets, and leaves what is promoted and pinned
pub record ClearPass (ages : List ℕ) (n : ℕ) (task : Task) (before after : PassView) (answer : ℕ)
    : Type 0 where
  pub table : IsSameTable before.table after.table
  pub promotes : after.promoted ≡ before.promoted
  pub pins : after.pinned ≡ before.pinned
  pub swept : IsSwept ages n task before.promoted (row_at before.table) (row_at after.table)
  pub count : Counts (IsSweptAt (row_at before.table) ages n task before.promoted) answer

-- what a pass does
abbrev pub Passed : Objects Addr → List ℕ → ℕ → Task → (before after : PassView) → ℕ → Type 0
Passed o ages n task before after answer =
    MatchBool (is_clearing task) (ClearPass ages n task before after answer)
    (RootPass o ages n task before after answer)
