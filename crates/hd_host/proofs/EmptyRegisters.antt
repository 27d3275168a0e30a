-- A command that writes no handle register but the first of its context leaves all others as they were; so
-- where they have no slot and the first is cleared, none has a slot.
use Rattle.std.proofs.Common.{List, None, Option, Some, [], ap, get_or, get_or-set_other, inl, inr, refl, set, subst, suc, sym, zero, ℕ, ◌∙◌, ◌∷◌, ◌≡◌, ◌≢◌, ◌⊎◌}
use Rattle.std.proofs.lemmas.Bool.{cases_eq}
use Rattle.std.specs.Prelude.{IfSome}
use Rattle.hd_model.proofs.Effects.{Effect, makes_handle, frees_handle, picks_board, collects, effect}
use Rattle.hd_model.specs.{declared.command.Cmd.Cmd, declared.data.Entry.Entry, declared.data.Slot.Slot, Step.Step, Touched.touched_by}
use Rattle.hd_model.specs.State.{Numbers, State, board_of, handle_register_of, with_handle_register}

abbrev Rows : Type 0
Rows = List (List (Option Slot))

-- the registers with v in register d of row c, and a register of a row
abbrev with_in : Rows → ℕ → ℕ → Option Slot → Rows
with_in rows c d v = set rows c (set (get_or rows c []) d v)

abbrev in_rows : Rows → ℕ → ℕ → Option Slot
in_rows rows k h = get_or (get_or rows k []) h None

beside : (rows : Rows) (c k h : ℕ) (v : Option Slot) → (k ≢ c) ⊎ (h ≢ 0)
    → in_rows (with_in rows c 0 v) k h ≡ in_rows rows k h
beside [] c k h v away = refl
beside (row ∷ rows) zero zero h v (inl apart) = absurd (apart refl)
beside (row ∷ rows) zero zero h v (inr apart) = get_or-set_other row 0 h v None apart
beside (row ∷ rows) zero (suc k) h v away = refl
beside (row ∷ rows) (suc c) zero h v away = refl
beside (row ∷ rows) (suc c) (suc k) h v (inl apart) = beside rows c k h v (inl (λ same. apart (ap suc same)))
beside (row ∷ rows) (suc c) (suc k) h v (inr apart) = beside rows c k h v (inr apart)

cleared : (rows : Rows) (c : ℕ) → in_rows (with_in rows c 0 None) c 0 ≡ None
cleared [] c = refl
cleared ([] ∷ rows) zero = refl
cleared ((slot ∷ row) ∷ rows) zero = refl
cleared (row ∷ rows) (suc c) = cleared rows c

-- all registers but the first of a context have no slot
abbrev pub OthersEmpty : State → ℕ → Type 0
OthersEmpty s c = (k h : ℕ) → (k ≢ c) ⊎ (h ≢ 0) → handle_register_of s k h ≡ None

-- a slot in that register makes no difference, and where it is cleared all are empty
pub others_pointed : (s : State) (c : ℕ) (v : Option Slot) → OthersEmpty s c
    → OthersEmpty (with_handle_register s c 0 v) c
others_pointed s c v none k h away = beside s.handle_registers c k h v away ∙ none k h away

pub emptied : (s : State) (c : ℕ) → OthersEmpty s c → (k h : ℕ)
    → handle_register_of (with_handle_register s c 0 None) k h ≡ None
emptied s c none k h = by (cases_eq k c) (cases_eq h 0)
  where
    by : (k ≡ c) ⊎ (k ≢ c) → (h ≡ 0) ⊎ (h ≢ 0)
        → in_rows (with_in s.handle_registers c 0 None) k h ≡ None
    by (inl here) (inl first) =
        subst (λ x. in_rows (with_in s.handle_registers c 0 None) x h ≡ None) (sym here)
        (subst (λ x. in_rows (with_in s.handle_registers c 0 None) c x ≡ None) (sym first)
        (cleared s.handle_registers c))
    by (inl here) (inr apart) = others_pointed s c None none k h (inr apart)
    by (inr apart) at = others_pointed s c None none k h (inl apart)

module _ (n : Numbers) (s : State) (e : Entry) where
  stay : (c : Cmd) (t : State) → Effect n s e c t → IfSome (touched_by c).handle_register (λ h. h ≡ 0)
      → (k h : ℕ) → (k ≢ e.caller) ⊎ (h ≢ 0) → handle_register_of t k h ≡ handle_register_of s k h
  stay c t (makes_handle {d = d} slot given may p) first k h away =
      subst (λ x. in_rows (with_in s.handle_registers e.caller x (Some slot)) k h
      ≡ in_rows s.handle_registers k h) (sym first) (beside s.handle_registers e.caller k h (Some slot) away)
  stay c t (frees_handle {h = d} slot handle f p q) first k h away =
      subst (λ x. in_rows (with_in s.handle_registers e.caller x None) k h ≡ in_rows s.handle_registers k h)
      (sym first) (beside s.handle_registers e.caller k h None away)
  stay c t (picks_board {d = d} {k = b} p) first k h away =
      subst (λ x. in_rows (with_in s.handle_registers e.caller x (board_of s b)) k h
      ≡ in_rows s.handle_registers k h) (sym first)
      (beside s.handle_registers e.caller k h (board_of s b) away)
  stay c t (collects did) first k h away = ap (λ rows. in_rows rows k h) did.collects.handle_registers
  stay c t _ first k h away = refl

  -- so over a step of a context the other registers stay empty
  pub others_stay : (t : State) → Step n s e t → IfSome (touched_by e.cmd).handle_register (λ h. h ≡ 0)
      → OthersEmpty s e.caller → OthersEmpty t e.caller
  others_stay t step first none k h away =
      stay e.cmd t (effect n s e t step) first k h away ∙ none k h away
