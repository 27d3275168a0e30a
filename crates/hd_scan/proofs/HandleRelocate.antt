-- What a relocation makes of one handle, and that rows which are not visited need none.
use Rattle.hd_scan.proofs.Basics.{Addr, Bool, DueRows, Handle, HasSoundAges, IsChanging, IsDueRow, IsKeeping, Kind, List, None, Objects, Option, Rewrites, Some, Table, and_from, and_parts, and_right, ap, cases_Bool, eq-eqb, false, is_due, is_kind, kind_number, option_map, refl, rename_extra, row_at, same_kind, subst, sym, true, true≢false, undue_in_place, ℕ, ⊎_elim, ◌&&◌, ◌∙◌, ◌≡◌}
use Rattle.hd_scan.specs.Relocation.{relocated, KeepsNames, CanRelocate, Relocates, RelocatesAll}
use Rattle.hd_model.specs.State as state

-- the parts of a row with their forwarding addresses make the relocated handle
pub handle_moved : (forwarding : Addr → Addr) (h : Handle Addr) (target : Option Addr) (extra
    : state.Extra Addr) → target ≡ option_map forwarding h.target → extra ≡ rename_extra forwarding h.extra
    → record { kind = h.kind; target = target; extra = extra } ≡ relocated true forwarding h
handle_moved forwarding h target extra first second =
    λ i. record { kind = h.kind; target = first i; extra = second i }

-- an extra without a secondary stays as it is
pub extra_stays : (forwarding : Addr → Addr) (e d : state.Extra Addr) → e ≡ d → rename_extra forwarding d ≡ d
    → e ≡ rename_extra forwarding e
extra_stays forwarding e d is same = is ∙ sym same ∙ sym (ap (rename_extra forwarding) is)

-- a table is itself with a row that it has
pub same_row : (t : Table) (slot : ℕ) (h : Handle Addr) → row_at t slot ≡ Some h → Rewrites slot h t t
same_row t slot h here = record {
  at = here;
  others = λ other ne. refl;
  table = record { chains = refl; uses = refl; blocks = refl };
}

module _ (t : Table) (ages : List ℕ) (n : ℕ) (k : Kind) (forwarding : Addr → Addr) where
  abbrev pub relocation : ℕ → Handle Addr → Handle Addr
  relocation slot h = relocated (is_kind k h.kind && is_due ages n slot) forwarding h

  -- a walk that relocates, and counts nothing
  abbrev pub IsRelocating : Table → DueRows → (before steps : ℕ) → Type 0
  IsRelocating now w before steps = IsChanging t ages n k relocation (λ slot. ⊥) now w before steps 0

  left_by : (here : Bool) (h : Handle Addr) → here ≡ false → relocated here forwarding h ≡ h
  left_by true h e = absurd (true≢false e)
  left_by false h e = refl

  -- what it is not to visit stays as it is
  pub undue_left : (slot : ℕ) (h : Handle Addr) → row_at t slot ≡ Some h → (IsDueRow t ages n k slot → ⊥)
      → relocation slot h ≡ h
  undue_left slot h is_stored undue =
      left_by (is_kind k h.kind && is_due ages n slot) h
      (⊎_elim
      (λ due. let parts = and_parts (is_kind k h.kind) (is_due ages n slot) due in
      absurd (undue (record {
        handle = h;
        is_stored = is_stored;
        of_kind = sym (same_kind k h.kind parts.0);
        due = parts.1;
      })))
      (λ not_due. not_due) (cases_Bool (is_kind k h.kind && is_due ages n slot)))

  -- where ages are sound, what is not visited references nothing that moves
  pub relocates_all : (o : Objects Addr) (kept : Addr → Bool) (now : Table) → IsKeeping o n kept forwarding
      → HasSoundAges o (row_at t) ages → Relocates forwarding ages n k t now → RelocatesAll forwarding k t now
  relocates_all o kept now keeping sound relocates = λ slot. relocates slot ∙ by slot (row_at t slot) refl
    where
      undue : (here : Bool) (slot : ℕ) (h : Handle Addr) → row_at t slot ≡ Some h → is_due ages n slot ≡ false
          → h ≡ relocated here forwarding h
      undue true slot h e not_due =
          sym (undue_in_place o n (row_at t) ages sound slot h e not_due forwarding keeping.in_place)
      undue false slot h e not_due = refl

      by : (slot : ℕ) (r : Option (Handle Addr)) → row_at t slot ≡ r
          → option_map (relocation slot) r ≡ option_map (λ h. relocated (is_kind k h.kind) forwarding h) r
      by slot None e = refl
      by slot (Some h) e =
          ⊎_elim
          (λ due. ap (λ b. Some (relocated b forwarding h))
          (ap (λ b. is_kind k h.kind && b) due ∙ and_true (is_kind k h.kind)))
          (λ not_due. ap (λ g. Some g)
          (left_by (is_kind k h.kind && is_due ages n slot) h
          (and_right (is_kind k h.kind) (is_due ages n slot) not_due)
          ∙ undue (is_kind k h.kind) slot h e not_due))
          (cases_Bool (is_due ages n slot))
        where
          and_true : (b : Bool) → (b && true) ≡ b
          and_true true = refl
          and_true false = refl

-- the row that it visits
module _ {t : Table} {ages : List ℕ} {n : ℕ} {k : Kind} {slot : ℕ} (due : IsDueRow t ages n k slot)
    {g : Handle Addr} (same : g ≡ due.handle) where
  visited : (is_kind k due.handle.kind && is_due ages n slot) ≡ true
  visited =
      and_from (is_kind k due.handle.kind) (is_due ages n slot)
      (ap (is_kind k) due.of_kind ∙ eq-eqb (kind_number k) (kind_number k) refl) due.due

  pub moved_row : (forwarding : Addr → Addr) {now next : Table} → Rewrites slot (relocated true forwarding g)
      now next → Rewrites slot (relocation t ages n k forwarding slot due.handle) now next
  moved_row forwarding {now} {next} r =
      subst (λ h. Rewrites slot h now next) (λ i. relocated (sym visited i) forwarding (same i)) r

  pub kept_names : (kept : Addr → Bool) → CanRelocate kept ages n k t → KeepsNames kept g
  kept_names kept can = subst (KeepsNames kept) (sym same) (can slot due.handle due.is_stored visited)
