-- The tasks of a role take exactly the handles that have it.
use Rattle.hd_scan.proofs.Basics.{Addr, Bool, Extra, Handle, Kind, Option, Row, Task, ap, count, extra_again, extra_of, false, holds, is_kind, is_paired, is_role, long, long_tasks, nothing, refl, role_of, root_tasks, row_of, secondary, short, short_tasks, strength, suc, sym, takes, takes_any, task_kind, task_role, true, zero, ◌&&◌, ◌||◌, ◌∙◌, ◌≡◌}
use Rattle.hd_model.specs.declared.data.Kind.TheVariants as kind
use Rattle.hd_scan.specs.declared.task.Task.TheVariants as task
use Rattle.hd_model.specs.Role.{Role}
use Rattle.hd_model.specs.Role.{role}

abbrev pub has_role : {N : Type 0} → Role → Handle N → Bool
has_role r h = is_role r (role h)

or_none : (b : Bool) → (b || false) ≡ b
or_none true = refl
or_none false = refl

module _ {N : Type 0} where
  -- no count makes a handle a weak short one
  unshort_count : (e : Extra N) → false ≡ is_role short (role_of kind.Counted e)
  unshort_count nothing = refl
  unshort_count (strength s) = refl
  unshort_count (secondary v) = refl
  unshort_count (count zero) = refl
  unshort_count (count (suc c)) = refl

  -- the tasks of three roles take a handle of a kind where it has the role
  covers : (k : Kind) (o : Option N) (e : Extra N) →
      let h : Handle N = record { kind = k; target = o; extra = e } in
      (takes_any root_tasks h ≡ has_role holds h) × (takes_any short_tasks h ≡ has_role short h)
      × (takes_any long_tasks h ≡ has_role long h)
  covers kind.Short o e = (refl, refl, refl)
  covers kind.Long o e = (refl, refl, refl)
  covers kind.Strong o e = (refl, refl, refl)
  covers kind.Pinned o e = (refl, refl, refl)
  covers kind.Variable o e = (
    or_none (is_role holds (role_of kind.Variable e)),
    refl,
    or_none (is_role long (role_of kind.Variable e)),
  )
  covers kind.Counted o e = (refl, unshort_count e, refl)
  covers kind.Dependent o e = (refl, refl, refl)

  pub roots_cover : takes_any root_tasks ≡ has_role {N = N} holds
  roots_cover = λ i h. (covers h.kind h.target h.extra).0 i

  pub short_cover : takes_any short_tasks ≡ has_role {N = N} short
  short_cover = λ i h. (covers h.kind h.target h.extra).1 i

  pub long_cover : takes_any long_tasks ≡ has_role {N = N} long
  long_cover = λ i h. (covers h.kind h.target h.extra).2 i

-- a task takes a handle of its kind by its role, and each one where the kind has no extra data
kind_itself : (k : Kind) → is_kind k k ≡ true
kind_itself kind.Short = refl
kind_itself kind.Long = refl
kind_itself kind.Strong = refl
kind_itself kind.Pinned = refl
kind_itself kind.Variable = refl
kind_itself kind.Counted = refl
kind_itself kind.Dependent = refl

takes_plain : {N : Type 0} (t : Task) (e : Extra N) → is_paired (task_kind t) ≡ false
    → is_role (task_role t) (role_of (task_kind t) e) ≡ true
takes_plain task.Strong e plain = refl
takes_plain task.Pinned e plain = refl
takes_plain task.VariableRoots e plain = cc
takes_plain task.CountedRoots e plain = cc
takes_plain task.ClearShort e plain = refl
takes_plain task.ClearLong e plain = refl
takes_plain task.ClearVariableShort e plain = cc
takes_plain task.ClearVariableLong e plain = cc
takes_plain task.ClearCounted e plain = cc

module _ (t : Task) (h : Handle Addr) (of_kind : h.kind ≡ task_kind t) where
  takes_by : takes t h ≡ is_role (task_role t) (role_of (task_kind t) h.extra)
  takes_by = ap (λ k. is_kind (task_kind t) k && is_role (task_role t) (role_of k h.extra)) of_kind
      ∙ ap (λ b. b && is_role (task_role t) (role_of (task_kind t) h.extra)) (kind_itself (task_kind t))

  pub takes_all : is_paired (task_kind t) ≡ false → true ≡ takes t h
  takes_all plain = sym (takes_by ∙ takes_plain t h.extra plain)

  pub takes_read : (row : Row) → row ≡ row_of h
      → is_role (task_role t) (role_of (task_kind t) (extra_of row.extra)) ≡ takes t h
  takes_read row is =
      ap (λ (r : Row). is_role (task_role t) (role_of (task_kind t) (extra_of r.extra))) is
      ∙ ap (λ e. is_role (task_role t) (role_of (task_kind t) e)) (extra_again h.extra) ∙ sym takes_by
