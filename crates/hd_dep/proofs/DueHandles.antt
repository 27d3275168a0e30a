-- The dependent handles that a walk has visited, and what is true of each.
use Rattle.hd_dep.proofs.Basics.{Addr, Contains, DueRows, Ends, Gives, Handle, IsDueRow, IsTable, IsUnderway, List, OfVisited, Slot, Some, Table, all_past, all_to_come, ap, arith, attaches, cases_eq, chain_of, due_clumps, due_slots, due_slots_list, is_attaching, is_due, live_at, past_else, role, role_of, row_at, row_due, row_same, same_Some, slots_few, slots_to_come, subst, sym, true, visits_of, ℕ, ⊎_elim, ◌∙◌, ◌≡◌}
use Rattle.hd_model.proofs.KindExtras.{attaching_kind}
use Rattle.hd_model.specs.declared.data.Kind.TheVariants as kind

pub attaches_by : {N : Type 0} (h : Handle N) → h.kind ≡ kind.Dependent → role h ≡ attaches
attaches_by h e = ap (λ k. role_of k h.extra) e

module _ {t : Table} {ages : List ℕ} {n : ℕ} where
  pub due_handle : {slot : ℕ} {h : Handle Addr} → row_at t slot ≡ Some h → is_attaching (role h) ≡ true
      → is_due ages n slot ≡ true → IsDueRow t ages n kind.Dependent slot
  due_handle {slot} {h} is_stored attaching due = record {
    handle = h;
    is_stored = is_stored;
    of_kind = attaching_kind h.kind h.extra attaching;
    due = due;
  }

-- where no clump is due, no handle is visited
pub none_visited : (t : Table) (ages : List ℕ) (n : ℕ) (P : Handle Addr → Type 0) → IsTable t
    → visits_of t ages n kind.Dependent ≡ 0 → OfVisited (row_at t) ages n P
none_visited t ages n P is none slot h is_stored role_is due =
    let (i, within, at) = (due_slots_list t is ages n kind.Dependent).all slot
    (due_handle is_stored (ap is_attaching role_is) due) in
    absurd (omega (arith, within, none, slots_few t (due_clumps ages n (chain_of t kind.Dependent))))

module _ (t : Table) (ages : List ℕ) (n : ℕ) (w : DueRows) (P : Handle Addr → Type 0) where
  -- each dependent handle that a walk has visited has a property
  abbrev pub OfPast : Type 0
  OfPast = (slot : ℕ) (h : Handle Addr) → row_at t slot ≡ Some h → role h ≡ attaches
      → is_due ages n slot ≡ true → (Contains (slots_to_come t ages w) slot → ⊥) → P h

  pub none_past : IsTable t → slots_to_come t ages w ≡ due_slots t ages n kind.Dependent → OfPast
  none_past is slots slot h is_stored role_is due past =
      absurd (past (all_to_come t ages n kind.Dependent is w slots slot
      (due_handle is_stored (ap is_attaching role_is) due)))

module _ {t : Table} {ages : List ℕ} {n : ℕ} {old new : DueRows} {before steps : ℕ}
    (under : IsUnderway t ages n kind.Dependent t old (before, steps)) {P : Handle Addr → Type 0}
    (done : OfPast t ages n old P) where
  -- the walk has visited one more
  pub past_more : {slot : Slot} → Gives t ages old new slot → (Q : Handle Addr → Type 0)
      → ((h : Handle Addr) → P h → Q h) → Q (live_at t slot.0) → OfPast t ages n new Q
  past_more {slot} gives Q on here k h is_stored role_is due past =
      ⊎_elim
      (λ e. subst Q (same_Some (live_at t slot.0) h (ap (λ g. Some g) (row_same under gives)
      ∙ sym (row_due under gives).is_stored ∙ ap (row_at t) (sym e) ∙ is_stored)) here)
      (λ ne. on h (done k h is_stored role_is due (past_else under gives k ne past))) (cases_eq k slot.0)

  pub past_all : Ends t ages old new → OfVisited (row_at t) ages n P
  past_all ends slot h is_stored role_is due = done slot h is_stored role_is due (all_past under ends slot)
