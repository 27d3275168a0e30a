-- What a clearing task makes of one handle, and of all along a walk.
use Rattle.hd_scan.proofs.Basics.{Addr, Bool, ClearPass, DueRows, Handle, HasSoundAges, IsChanging, IsDueRow, IsLostAt, IsSettled, IsSweptAt, List, None, Objects, Option, PassView, Rewrites, Some, Table, Task, WholeClear, and_from, and_left, and_parts, and_right, ap, both_ways, cases_Bool, cond, counts_like, false, is_due, is_kind, is_lost, is_role, option_map, refl, role, row_at, same_Some, same_kind, subst, swept, sym, takes, task_kind, task_role, true, undue_target, view_at, ℕ, ⊎_elim, ◌&&◌, ◌∙◌, ◌≡◌}
use Rattle.hd_model.proofs.IdleCollection.{kept_target}

module _ {N : Type 0} (task : Task) (p : N → Bool) (h : Handle N) where
  -- one that loses its target, and one that does not
  pub swept_lost : (takes task h && is_lost p h.target) ≡ true
      → record h { target = None } ≡ swept true (takes task) p h
  swept_lost lost = λ i. record {
    kind = h.kind;
    target = sym (ap (λ b. cond b None h.target) lost) i;
    extra = h.extra;
  }

  pub swept_kept : (due : Bool) → (takes task h && (due && is_lost p h.target)) ≡ false
      → swept due (takes task) p h ≡ h
  swept_kept due kept = λ i. record {
    kind = h.kind;
    target = ap (λ b. cond b None h.target) kept i;
    extra = h.extra;
  }

-- a handle that a task takes is of its kind
pub taken_kind : {N : Type 0} (task : Task) (h : Handle N) → takes task h ≡ true → h.kind ≡ task_kind task
taken_kind task h taken =
    sym (same_kind (task_kind task) h.kind
    (and_parts (is_kind (task_kind task) h.kind) (is_role (task_role task) (role h)) taken).0)

module _ (t : Table) (ages : List ℕ) (n : ℕ) (task : Task) (p : Addr → Bool) where
  abbrev pub sweep : ℕ → Handle Addr → Handle Addr
  sweep slot = swept (is_due ages n slot) (takes task) p

  -- a clearing walk, which counts what it cleared
  abbrev pub IsSweeping : Table → DueRows → (before steps cleared : ℕ) → Type 0
  IsSweeping = IsChanging t ages n (task_kind task) sweep (IsSweptAt (row_at t) ages n task p)

  -- it is to visit all that the task clears, and what it is not to visit stays as it is
  pub swept_due : (slot : ℕ) → IsSweptAt (row_at t) ages n task p slot
      → IsDueRow t ages n (task_kind task) slot
  swept_due slot r = record {
    handle = r.handle;
    is_stored = r.is_stored;
    of_kind = taken_kind task r.handle r.takes;
    due = r.due;
  }

  pub undue_kept : (slot : ℕ) (h : Handle Addr) → row_at t slot ≡ Some h
      → (IsDueRow t ages n (task_kind task) slot → ⊥) → sweep slot h ≡ h
  undue_kept slot h is_stored undue =
      swept_kept task p h (is_due ages n slot)
      (⊎_elim
      (λ taken. ⊎_elim
      (λ due. absurd (undue (record {
        handle = h;
        is_stored = is_stored;
        of_kind = taken_kind task h taken;
        due = due;
      })))
      (λ not_due. and_right (takes task h) (is_due ages n slot && is_lost p h.target)
      (and_left (is_due ages n slot) (is_lost p h.target) not_due))
      (cases_Bool (is_due ages n slot)))
      (λ not_taken. and_left (takes task h) (is_due ages n slot && is_lost p h.target) not_taken)
      (cases_Bool (takes task h)))

-- the row that it visits
module _ {t : Table} {ages : List ℕ} {n : ℕ} (task : Task) (p : Addr → Bool) where
  module _ {slot : ℕ} (due : IsDueRow t ages n (task_kind task) slot) {g : Handle Addr}
      (same : g ≡ due.handle) where
    pub swept_row : {now next : Table} → Rewrites slot (swept true (takes task) p g) now next
        → Rewrites slot (sweep t ages n task p slot due.handle) now next
    swept_row {now} {next} r =
        subst (λ h. Rewrites slot h now next) (λ i. swept (sym due.due i) (takes task) p (same i)) r

    pub swept_has : (takes task g && is_lost p g.target) ≡ true → IsSweptAt (row_at t) ages n task p slot
    swept_has lost =
        let parts = and_parts (takes task g) (is_lost p g.target) lost in
        record {
          handle = due.handle;
          is_stored = due.is_stored;
          due = due.due;
          takes = ap (takes task) (sym same) ∙ parts.0;
          lost = ap (λ (h : Handle Addr). is_lost p h.target) (sym same) ∙ parts.1;
        }

    pub swept_hasnt : (takes task g && is_lost p g.target) ≡ false → IsSweptAt (row_at t) ages n task p slot
        → ⊥
    swept_hasnt kept q =
        let e : q.handle ≡ g =
        same_Some q.handle g (sym q.is_stored ∙ due.is_stored ∙ ap (λ h. Some h) (sym same)) in
        both_ways (takes task g && is_lost p g.target) kept
        (and_from (takes task g) (is_lost p g.target) (ap (takes task) (sym e) ∙ q.takes)
        (ap (λ (h : Handle Addr). is_lost p h.target) (sym e) ∙ q.lost))

-- where ages are sound, the rows that are not visited have lost nothing
module _ (o : Objects Addr) (t : Table) (ages : List ℕ) (n : ℕ) (task : Task) (p : Addr → Bool)
    (settled : IsSettled o n p) (sound : HasSoundAges o (row_at t) ages) where
  undue_found : (slot : ℕ) (h : Handle Addr) → row_at t slot ≡ Some h → is_due ages n slot ≡ false
      → is_lost p h.target ≡ false
  undue_found slot h is_stored undue =
      kept_target p h.target
      (λ x e. settled.older x (undue_target o n (row_at t) ages sound slot h is_stored undue x e))

  whole_row : (slot : ℕ) (r : Option (Handle Addr)) → row_at t slot ≡ r
      → option_map (swept (is_due ages n slot) (takes task) p) r ≡ option_map (swept true (takes task) p) r
  whole_row slot None e = refl
  whole_row slot (Some h) e =
      ⊎_elim (λ due. ap (λ b. Some (swept b (takes task) p h)) due)
      (λ undue. let found = undue_found slot h e undue in
      let none : (b : Bool) → swept b (takes task) p h ≡ h =
      λ b. swept_kept task p h b (and_right (takes task h) (b && is_lost p h.target)
      (and_right b (is_lost p h.target) found)) in
      ap (λ g. Some g) (none (is_due ages n slot) ∙ sym (none true)))
      (cases_Bool (is_due ages n slot))

  pub sweep_whole : (pin : Addr → Bool) (after : PassView) (answer : ℕ)
      → ClearPass ages n task (view_at t p pin) after answer
      → WholeClear (takes task) (view_at t p pin) after.table answer
  sweep_whole pin after answer pass = record {
    swept = λ slot. pass.swept slot ∙ whole_row slot (row_at t slot) refl;
    count = counts_like (IsSweptAt (row_at t) ages n task p) (IsLostAt (row_at t) (takes task) p) answer
        (λ slot r. record { handle = r.handle; is_stored = r.is_stored; passes = r.takes; lost = r.lost })
        (λ slot r. record {
          handle = r.handle;
          is_stored = r.is_stored;
          due = ⊎_elim (λ due. due)
              (λ undue. absurd (both_ways (is_lost p r.handle.target)
              (undue_found slot r.handle r.is_stored undue) r.lost))
              (cases_Bool (is_due ages n slot));
          takes = r.passes;
          lost = r.lost;
        })
        pass.count;
  }
