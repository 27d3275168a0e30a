-- What the clearing of dependent handles makes of one handle, and of all along a walk.
use Rattle.hd_dep.proofs.Basics.{Addr, Bool, Counts, DueRows, Handle, HasSoundAges, IsChanging, IsDueRow, IsSettled, List, None, Objects, Option, Some, Table, and_left, and_right, ap, both_ways, cases_Bool, cond, counts_like, false, fits, is_attaching, is_due, is_lost, option_map, refl, role, role_of, row_at, same_Some, secondary, subst, sym, true, undue_target, ℕ, ⊎_elim, ◌&&◌, ◌∙◌, ◌≡◌}
use Rattle.hd_model.specs.declared.data.Kind.{Kind}
use Rattle.hd_model.proofs.IdleCollection.{kept_target}
use Rattle.hd_seg.specs.Rewriting.{Rewrites}
use Rattle.hd_dep.proofs.DueHandles.{attaches_by, due_handle}
use Rattle.hd_dep.specs.Clearing.{detached, IsDetached, IsAllDetached, IsDetachedAt, IsLostAt}
use Rattle.hd_model.specs.declared.data.Kind.TheVariants as kind

module _ {N : Type 0} (p : N → Bool) (h : Handle N) where
  -- one that loses its target and its secondary, and one that does not
  pub detached_lost : h.kind ≡ kind.Dependent → is_lost p h.target ≡ true
      → record { kind = h.kind; target = None; extra = secondary None } ≡ detached true p h
  detached_lost dependent lost =
      let both : (is_attaching (role h) && is_lost p h.target) ≡ true =
      ap (λ k. is_attaching (role_of k h.extra) && is_lost p h.target) dependent ∙ lost in
      λ i. record {
        kind = h.kind;
        target = sym (ap (λ b. cond b None h.target) both) i;
        extra = sym (ap (λ b. cond b (secondary None) h.extra) both) i;
      }

  pub detached_kept : (due : Bool) → (is_attaching (role h) && (due && is_lost p h.target)) ≡ false
      → detached due p h ≡ h
  detached_kept due kept = λ i. record {
    kind = h.kind;
    target = ap (λ b. cond b None h.target) kept i;
    extra = ap (λ b. cond b (secondary None) h.extra) kept i;
  }

-- the row of a dependent handle, written without its target and secondary, where it is lost
pub detached_written : (p : Addr → Bool) (h : Handle Addr) (slot : ℕ) (old new : Table)
    → h.kind ≡ kind.Dependent → is_lost p h.target ≡ true
    → Rewrites slot (record { kind = h.kind; target = None; extra = secondary None }) old new
    → Rewrites slot (detached true p h) old new
detached_written p h slot old new dependent lost written =
    subst (λ (q : Handle Addr). Rewrites slot q old new) (detached_lost p h dependent lost) written

pub dependent_fits : (k : Kind) → k ≡ kind.Dependent → fits {N = Addr} k (secondary None) ≡ true
dependent_fits k dependent = ap (λ (k : Kind). fits {N = Addr} k (secondary None)) dependent

module _ (t : Table) (ages : List ℕ) (n : ℕ) (p : Addr → Bool) where
  abbrev pub detach : ℕ → Handle Addr → Handle Addr
  detach slot = detached (is_due ages n slot) p

  -- a clearing walk, which counts what it cleared
  abbrev pub IsDetaching : Table → DueRows → (before steps cleared : ℕ) → Type 0
  IsDetaching = IsChanging t ages n kind.Dependent detach (IsDetachedAt (row_at t) ages n p)

  -- it is to visit all that it clears, and what it is not to visit stays as it is
  pub detached_due : (slot : ℕ) → IsDetachedAt (row_at t) ages n p slot
      → IsDueRow t ages n kind.Dependent slot
  detached_due slot r = due_handle r.is_stored (ap is_attaching r.attaches) r.due

  pub undue_kept : (slot : ℕ) (h : Handle Addr) → row_at t slot ≡ Some h
      → (IsDueRow t ages n kind.Dependent slot → ⊥) → detach slot h ≡ h
  undue_kept slot h is_stored undue =
      detached_kept p h (is_due ages n slot)
      (⊎_elim
      (λ attaching. ⊎_elim
      (λ due. absurd (undue (due_handle is_stored attaching due)))
      (λ not_due. and_right (is_attaching (role h)) (is_due ages n slot && is_lost p h.target)
      (and_left (is_due ages n slot) (is_lost p h.target) not_due))
      (cases_Bool (is_due ages n slot)))
      (λ other. and_left (is_attaching (role h)) (is_due ages n slot && is_lost p h.target) other)
      (cases_Bool (is_attaching (role h))))

-- the row that it visits
module _ {t : Table} {ages : List ℕ} {n : ℕ} (p : Addr → Bool) where
  module _ {slot : ℕ} (due : IsDueRow t ages n kind.Dependent slot) {g : Handle Addr}
      (same : g ≡ due.handle) where
    pub detached_row : {now next : Table} → Rewrites slot (detached true p g) now next
        → Rewrites slot (detach t ages n p slot due.handle) now next
    detached_row {now} {next} r =
        subst (λ h. Rewrites slot h now next) (λ i. detached (sym due.due i) p (same i)) r

    pub detached_has : is_lost p g.target ≡ true → IsDetachedAt (row_at t) ages n p slot
    detached_has lost = record {
      handle = due.handle;
      is_stored = due.is_stored;
      due = due.due;
      attaches = attaches_by due.handle due.of_kind;
      lost = ap (λ (h : Handle Addr). is_lost p h.target) (sym same) ∙ lost;
    }

    pub detached_hasnt : is_lost p g.target ≡ false → IsDetachedAt (row_at t) ages n p slot → ⊥
    detached_hasnt kept q =
        let e : q.handle ≡ g =
        same_Some q.handle g (sym q.is_stored ∙ due.is_stored ∙ ap (λ h. Some h) (sym same)) in
        both_ways (is_lost p g.target) kept (ap (λ (h : Handle Addr). is_lost p h.target) (sym e) ∙ q.lost)

-- where ages are sound, the rows that are not visited have lost nothing
module _ (o : Objects Addr) (t now : Table) (ages : List ℕ) (n : ℕ) (p : Addr → Bool)
    (settled : IsSettled o n p)
    (sound : HasSoundAges o (row_at t) ages) where
  undue_found : (slot : ℕ) (h : Handle Addr) → row_at t slot ≡ Some h → is_due ages n slot ≡ false
      → is_lost p h.target ≡ false
  undue_found slot h is_stored undue =
      kept_target p h.target
      (λ x e. settled.older x (undue_target o n (row_at t) ages sound slot h is_stored undue x e))

  whole_row : (slot : ℕ) (r : Option (Handle Addr)) → row_at t slot ≡ r
      → option_map (detached (is_due ages n slot) p) r ≡ option_map (detached true p) r
  whole_row slot None e = refl
  whole_row slot (Some h) e =
      ⊎_elim (λ due. ap (λ b. Some (detached b p h)) due)
      (λ undue. let found = undue_found slot h e undue in
      let none : (b : Bool) → detached b p h ≡ h =
      λ b. detached_kept p h b (and_right (is_attaching (role h)) (b && is_lost p h.target)
      (and_right b (is_lost p h.target) found)) in
      ap (λ g. Some g) (none (is_due ages n slot) ∙ sym (none true)))
      (cases_Bool (is_due ages n slot))

  pub detached_whole : IsDetached ages n p (row_at t) (row_at now) → IsAllDetached p (row_at t) (row_at now)
  detached_whole pass = λ slot. pass slot ∙ whole_row slot (row_at t slot) refl

  pub detached_whole_count : (answer : ℕ) → Counts (IsDetachedAt (row_at t) ages n p) answer
      → Counts (IsLostAt (row_at t) p) answer
  detached_whole_count answer counts =
      counts_like (IsDetachedAt (row_at t) ages n p) (IsLostAt (row_at t) p) answer
      (λ slot r. record { handle = r.handle; is_stored = r.is_stored; attaches = r.attaches; lost = r.lost })
      (λ slot r. record {
        handle = r.handle;
        is_stored = r.is_stored;
        due = ⊎_elim (λ due. due)
            (λ undue. absurd (both_ways (is_lost p r.handle.target)
            (undue_found slot r.handle r.is_stored undue) r.lost))
            (cases_Bool (is_due ages n slot));
        attaches = r.attaches;
        lost = r.lost;
      })
      counts

pub ruleset detached_rows = (detached_written, dependent_fits)
