-- Tables of which clearings took targets away.
use Rattle.hd_gc.proofs.Basics.{Addr, Basis, Bool, Clears, Handle, IsReady, IsSameTable, List, MarksOf, MayVisitDue, None, Option, Parts, Some, Table, Task, [], ap, basis_of, cond, due_faded, fades_by, false, get_or, kind_number, length, promoted_in, row_at, slice_index_or, sum_by, sum_by_more, swept, sym, take, task_kind, task_visits, true, visits, visits_of, visits_same, ℕ, ◌+◌, ◌<◌, ◌∙◌, ◌≡◌, IsTracing}
use Rattle.std.proofs.lemmas.Option.{none-some}

still_target : {N : Type 0} (b : Bool) (o : Option N) (x : N) → cond b None o ≡ Some x → o ≡ Some x
still_target true o x e = absurd (none-some x e)
still_target false o x e = e

-- a pass may visit what is ready, and what a clearing left
pub ready_due : {p : Parts} → IsReady p → (n : ℕ) → MayVisitDue (basis_of p n) p.table p.ages n
ready_due r n = record {
  visit = record {
    generation = λ i. n;
    names = record { targets = r.whole.targets; secondaries = r.whole.secondaries };
    covers = r.clumps;
  };
  sound = r.ages_sound;
}

pub cleared_due : {f : Handle Addr → Bool} {old new : Table} {m : MarksOf} {count : ℕ} {g : Basis}
    {ages : List ℕ} {n : ℕ} → Clears f old new m count → MayVisitDue g old ages n → MayVisitDue g new ages n
cleared_due {f} {old} {new} {m} c =
    due_faded c.table
    (fades_by (row_at old) (row_at new) (swept true f (promoted_in m)) c.whole.swept
    (λ h x e. still_target _ h.target x e) (λ h x e. e))

-- passes may still visit what is due once handles lost their targets
pub still_tracing : {f : Handle Addr → Bool} {old new : Table} {m : MarksOf} {count : ℕ} {g : Basis}
    {ages : List ℕ} → Clears f old new m count → IsTracing g old ages m → IsTracing g new ages m
still_tracing c s = record { settled = s.settled; basis = s.basis; due = cleared_due c s.due }

-- the same clumps are visited in a table of which only rows differ
pub tasks_alike : {t u : Table} (ages : List ℕ) (n : ℕ) (tasks : List Task) → IsSameTable t u
    → task_visits u ages n tasks ≡ task_visits t ages n tasks
tasks_alike ages n tasks same =
    ap (λ chains. sum_by (λ (task : Task).
    visits ages n (slice_index_or chains (kind_number (task_kind task)) [])) tasks) same.chains

-- the steps of the first tasks of a list, and of the next
pub task_more : (t u : Table) (ages : List ℕ) (n : ℕ) (tasks : List Task) (i : ℕ) (d : Task)
    → i < length tasks → IsSameTable t u → task_visits t ages n (take (i + 1) tasks)
    ≡ task_visits t ages n (take i tasks) + visits_of u ages n (task_kind (get_or tasks i d))
task_more t u ages n tasks i d l same =
    sum_by_more (λ (task : Task). visits_of t ages n (task_kind task)) tasks i d l
    ∙ ap (λ v. task_visits t ages n (take i tasks) + v)
    (sym (visits_same t u ages n (task_kind (get_or tasks i d)) same))
