-- The steps of a collection: one for each clump that a pass visits.
use Rattle.std.specs.Prelude.{ℕ, ◌+◌, ◌*◌, List, sum_by}
use Rattle.hd_model.specs.declared.data.Kind.TheVariants as kind
use Rattle.hd_model.specs.{Kinds.all_kinds, Table.Table, Visits.visits_of, Visits.visits_over}
use Rattle.hd_scan.specs.declared.task.Task.{Task}
use Rattle.hd_scan.specs.Tasks.{task_kind, root_tasks, short_tasks, long_tasks}

-- the steps of the passes of some tasks, and of those of all tasks
abbrev pub task_visits : Table → List ℕ → ℕ → List Task → ℕ
task_visits t ages n tasks = sum_by (λ (task : Task). visits_of t ages n (task_kind task)) tasks

abbrev pub all_task_visits : Table → List ℕ → ℕ → ℕ
all_task_visits t ages n =
    task_visits t ages n root_tasks + task_visits t ages n short_tasks + task_visits t ages n long_tasks

-- the steps of the whole collection: the relocation goes over the handles of every kind once more
abbrev pub collected_steps : Table → List ℕ → ℕ → ℕ → ℕ
collected_steps t ages n before =
    before + all_task_visits t ages n + visits_over t ages n all_kinds
    + 3 * visits_of t ages n kind.Dependent
