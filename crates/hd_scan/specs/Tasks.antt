-- The tasks of a pass: each takes the handles of one kind that have one role.
use Rattle.std.specs.Prelude.{ℕ, ◌&&◌, ◌||◌, ◌==◌, Bool, true, false, cond, None, List, [], ◌∷◌, fold}
use Rattle.hd_model.specs.{declared.data.Kind.Kind, State.Handle, Kinds.is_kind, Collect.is_lost}
use Rattle.hd_model.specs.declared.data.Kind.TheVariants as kind
use Rattle.hd_model.specs.Role.{Role, holds, short, long, attaches, role}
use Rattle.hd_scan.specs.declared.task.Task.{Task}
use Rattle.hd_scan.specs.declared.task.Task.TheVariants as task

-- the kind of handle that a task goes over
abbrev pub task_kind : Task → Kind
task_kind task.Strong = kind.Strong
task_kind task.Pinned = kind.Pinned
task_kind task.VariableRoots = kind.Variable
task_kind task.CountedRoots = kind.Counted
task_kind task.ClearShort = kind.Short
task_kind task.ClearLong = kind.Long
task_kind task.ClearVariableShort = kind.Variable
task_kind task.ClearVariableLong = kind.Variable
task_kind task.ClearCounted = kind.Counted

-- the role of the handles that it takes: those that hold their target are roots, weak short ones are cleared
-- before finalization, weak long ones after it
abbrev pub task_role : Task → Role
task_role task.Strong = holds
task_role task.Pinned = holds
task_role task.VariableRoots = holds
task_role task.CountedRoots = holds
task_role task.ClearShort = short
task_role task.ClearLong = long
task_role task.ClearVariableShort = short
task_role task.ClearVariableLong = long
task_role task.ClearCounted = long

-- whether a task clears handles, where the others promote their targets
abbrev pub is_clearing : Task → Bool
is_clearing task.Strong = false
is_clearing task.Pinned = false
is_clearing task.VariableRoots = false
is_clearing task.CountedRoots = false
is_clearing task.ClearShort = true
is_clearing task.ClearLong = true
is_clearing task.ClearVariableShort = true
is_clearing task.ClearVariableLong = true
is_clearing task.ClearCounted = true

-- the number of a role, and whether two roles are the same one
abbrev pub role_number : Role → ℕ
role_number holds = 0
role_number short = 1
role_number long = 2
role_number attaches = 3

abbrev pub is_role : Role → Role → Bool
is_role a b = role_number a == role_number b

-- the tasks of three roles
abbrev pub root_tasks : List Task
root_tasks = task.Strong ∷ task.Pinned ∷ task.VariableRoots ∷ task.CountedRoots ∷ []

abbrev pub short_tasks : List Task
short_tasks = task.ClearShort ∷ task.ClearVariableShort ∷ []

abbrev pub long_tasks : List Task
long_tasks = task.ClearLong ∷ task.ClearVariableLong ∷ task.ClearCounted ∷ []

-- whether a task takes a handle, whether one of a list does, and whether the handle has a role
abbrev pub takes : {N : Type 0} → Task → Handle N → Bool
takes t h = is_kind (task_kind t) h.kind && is_role (task_role t) (role h)

abbrev pub takes_any : {N : Type 0} → List Task → Handle N → Bool
takes_any ts h = fold (λ b t. b || takes t h) false ts

-- a handle after a clearing of those that pass a test, which visits its slot or does not: its target is null
-- where the handle passes and the target is not promoted
abbrev pub swept : {N : Type 0} → Bool → (Handle N → Bool) → (N → Bool) → Handle N → Handle N
swept due f p h = record {
  kind = h.kind;
  target = cond (f h && (due && is_lost p h.target)) None h.target;
  extra = h.extra;
}
