-- The passes of the tasks that promote come to all handles that hold their target.
use Rattle.hd_gc.proofs.Basics.{Addr, Basis, Bool, Handle, Holds, IsHeld, IsPinned, IsSettledMarks, IsYoungField, List, MarksOf, Rows, Table, Task, get_or, grows_like, has_role, holds, inl, inr, length, marked_table, objects_of, pins_hold, promoted_in, refl, role, root_tasks, row_at, subst, sym, take, takes, takes_any, ℕ, ⊎_elim, ◌+◌, ◌<◌, ◌∙◌, ◌≡◌}
use Rattle.hd_scan.specs.Whole.{IsTargetOf, IsPinTargetOf, WholeRoots}
use Rattle.hd_scan.proofs.TaskRoles.{roots_cover}
use Rattle.hd_scan.proofs.JoinedPasses.{roots_twice, taken_more}
use Rattle.hd_gc.proofs.HandleRoles.{same_role, is_same_role}

-- passes have promoted the targets of what passes a test, from marks on
pub record IsHolding (f : Handle Addr → Bool) (t : Table) (m k : MarksOf) : Type 0 where
  pub settled : IsSettledMarks k
  pub basis : k.basis ≡ m.basis
  pub roots : WholeRoots (objects_of m.basis) m.basis.condemned f (marked_table t m) (marked_table t k)

-- the pass of the next task of a list
pub held_more : (ts : List Task) (i : ℕ) (d : Task) {t : Table} {m k j : MarksOf} {n : ℕ} → i < length ts
    → m.basis.condemned ≡ n → IsHolding (takes_any (take i ts)) t m k → IsSettledMarks j → j.basis ≡ k.basis
    → WholeRoots (objects_of k.basis) n (takes (get_or ts i d)) (marked_table t k) (marked_table t j)
    → IsHolding (takes_any (take (i + 1) ts)) t m j
held_more ts i d {t} {m} {k} {j} l generation done settled basis whole =
    let task : Task = get_or ts i d in
    let over : WholeRoots (objects_of k.basis) m.basis.condemned (takes task) (marked_table t k)
    (marked_table t j) =
    subst (λ c. WholeRoots (objects_of k.basis) c (takes task) (marked_table t k) (marked_table t j))
    (sym generation) whole in
    subst (λ f. IsHolding f t m j) (sym (taken_more ts i d l)) (record {
      settled = settled;
      basis = basis ∙ done.basis;
      roots = roots_twice (objects_of m.basis) m.basis.condemned (takes_any (take i ts)) (takes task)
          (marked_table t m) (marked_table t k) (marked_table t j) refl done.roots
          (subst (λ (g : Basis). WholeRoots (objects_of g) m.basis.condemned (takes task) (marked_table t k)
          (marked_table t j)) done.basis over);
    })

-- what holds its target is what these tasks take
module _ (rows : Rows Addr) where
  held_target : (x : Addr) → IsTargetOf rows (has_role holds) x → IsHeld rows x
  held_target x a = record {
    slot = a.slot;
    handle = a.handle;
    is_stored = a.is_stored;
    holds = same_role holds (role a.handle) a.passes;
    target = a.target;
  }

  target_held : (x : Addr) → IsHeld rows x → IsTargetOf rows (has_role holds) x
  target_held x h = record {
    slot = h.slot;
    handle = h.handle;
    is_stored = h.is_stored;
    passes = is_same_role holds (role h.handle) h.holds;
    target = h.target;
  }

  pinned_target : (x : Addr) → IsPinTargetOf rows (has_role holds) x → IsPinned rows x
  pinned_target x a = record {
    slot = a.of.slot;
    handle = a.of.handle;
    is_stored = a.of.is_stored;
    pins = a.pins;
    target = a.of.target;
  }

  target_pinned : (x : Addr) → IsPinned rows x → IsPinTargetOf rows (has_role holds) x
  target_pinned x p = record {
    of = record {
      slot = p.slot;
      handle = p.handle;
      is_stored = p.is_stored;
      passes = is_same_role holds (role p.handle) (pins_hold p.handle.kind p.handle.extra p.pins);
      target = p.target;
    };
    pins = p.pins;
  }

pub all_held : {t : Table} {m k : MarksOf} → IsHolding (takes_any root_tasks) t m k → Holds (row_at t) m k
all_held {t} {m} {k} w =
    let o = objects_of m.basis in
    let roots : WholeRoots o m.basis.condemned (has_role holds) (marked_table t m) (marked_table t k) =
    subst (λ f. WholeRoots o m.basis.condemned f (marked_table t m) (marked_table t k)) roots_cover w.roots in
    record {
      settled = w.settled;
      basis = w.basis;
      grows =
          grows_like (IsYoungField o m.basis.condemned) (IsTargetOf (row_at t) (has_role holds))
          (IsHeld (row_at t)) (promoted_in m) (promoted_in k) (held_target (row_at t))
          (target_held (row_at t)) roots.promotes;
      pins = λ x young. (
        λ e. ⊎_elim (λ earlier. inl earlier) (λ p. inr (pinned_target (row_at t) x p))
            ((roots.pins x young).0 e),
        ⊎_elim (λ earlier. (roots.pins x young).1 (inl earlier))
            (λ p. (roots.pins x young).1 (inr (target_pinned (row_at t) x p))),
      );
    }
