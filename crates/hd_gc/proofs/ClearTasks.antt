-- The passes of several tasks that clear, one after another.
use Rattle.hd_gc.proofs.Basics.{Clears, List, MarksOf, Table, Task, get_or, has_role, length, long, long_tasks, marked_table, refl, same_table_on, short, short_tasks, subst, sym, take, takes, takes_any, ℕ, ◌+◌, ◌<◌}
use Rattle.hd_scan.specs.Passes.{ClearPass}
use Rattle.hd_scan.specs.Whole.{WholeClear}
use Rattle.hd_scan.proofs.TaskRoles.{short_cover, long_cover}
use Rattle.hd_scan.proofs.JoinedPasses.{clears_twice, taken_more}

-- the pass of the next task of a list
pub cleared_more : (ts : List Task) (i : ℕ) (d : Task) {old now next : Table} {m : MarksOf} {a b n : ℕ}
    {ages : List ℕ} → i < length ts → Clears (takes_any (take i ts)) old now m a
    → ClearPass ages n (get_or ts i d) (marked_table now m) (marked_table next m) b
    → WholeClear (takes (get_or ts i d)) (marked_table now m) next b
    → Clears (takes_any (take (i + 1) ts)) old next m (a + b)
cleared_more ts i d {old} {now} {next} {m} {a} {b} l done pass whole =
    subst (λ f. Clears f old next m (a + b)) (sym (taken_more ts i d l)) (record {
      whole = clears_twice (takes_any (take i ts)) (takes (get_or ts i d)) (marked_table old m)
          (marked_table now m) next a b refl (λ h. refl) done.whole whole;
      table = same_table_on old now next done.table pass.table;
    })

-- the tasks of a role clear what has the role
pub short_cleared : {old new : Table} {m : MarksOf} {count : ℕ}
    → Clears (takes_any short_tasks) old new m count → Clears (has_role short) old new m count
short_cleared {old} {new} {m} {count} = subst (λ f. Clears f old new m count) short_cover

pub long_cleared : {old new : Table} {m : MarksOf} {count : ℕ}
    → Clears (takes_any long_tasks) old new m count → Clears (has_role long) old new m count
long_cleared {old} {new} {m} {count} = subst (λ f. Clears f old new m count) long_cover
