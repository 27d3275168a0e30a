-- A slot that was put into an empty handle register and taken out again leaves the store as it was.
use Rattle.std.proofs.Common.{List, None, Option, [], ap, get_or, refl, set, suc, sym, zero, ℕ, ◌∙◌, ◌∷◌, ◌≡◌}
use Rattle.std.proofs.lemmas.List.{set-get_or}
use Rattle.std.specs.FinMap.{empty}
use Rattle.hd_model.proofs.AgedRuns.{nothing_at}
use Rattle.hd_model.specs.{declared.command.Cmd.Cmd, declared.data.Entry.Entry, declared.data.Slot.Slot}
use Rattle.hd_model.specs.State.{State, with_handle_register}
use Rattle.hd_store.specs.{Calls.HasCalled, Store.Machine}
use Rattle.hd_host.specs.{Inside.HasNoSlot, Steps.pointed}

-- what was at an index is there again
set_again : {A : Type 0} (xs : List A) (i : ℕ) (v w d : A) → get_or xs i d ≡ d → w ≡ d
    → set (set xs i v) i w ≡ xs
set_again [] i v w d at is = refl
set_again (x ∷ xs) zero v w d at is = ap (λ y. y ∷ xs) (is ∙ sym at)
set_again (x ∷ xs) (suc i) v w d at is = ap (λ ys. x ∷ ys) (set_again xs i v w d at is)

-- the rows of registers with slot v in the first of a row
abbrev with_first : List (List (Option Slot)) → ℕ → Option Slot → List (List (Option Slot))
with_first rows c v = set rows c (set (get_or rows c []) 0 v)

rows_again : (rows : List (List (Option Slot))) (c : ℕ) (v : Option Slot)
    → get_or (get_or rows c []) 0 None ≡ None → with_first (with_first rows c v) c None ≡ rows
rows_again [] c v none = refl
rows_again (row ∷ rows) zero v none = ap (λ r. r ∷ rows) (set_again row 0 v None None none refl)
rows_again (row ∷ rows) (suc c) v none = ap (λ rs. row ∷ rs) (rows_again rows c v none)

state_again : (s : State) (c : ℕ) (v : Option Slot) → HasNoSlot s c
    → with_handle_register (with_handle_register s c 0 v) c 0 None ≡ s
state_again s c v none = λ i. record s { handle_registers = rows_again s.handle_registers c v none i }

pub pointed-again : (m : Machine) (c : ℕ) (v : Option Slot) → HasNoSlot m.state c
    → pointed (pointed m c v) c None ≡ m
pointed-again m c v none = λ i. record m { state = state_again m.state c v none i }

-- nothing is put into an empty register
nothing_put : (s : State) (c : ℕ) → HasNoSlot s c → with_handle_register s c 0 None ≡ s
nothing_put s c none = λ i. record s { handle_registers = same i }
  where
    same : set s.handle_registers c (set (get_or s.handle_registers c []) 0 None) ≡ s.handle_registers
    same =
        ap (λ v. set s.handle_registers c (set (get_or s.handle_registers c []) 0 v)) (sym none)
        ∙ ap (set s.handle_registers c) (set-get_or (get_or s.handle_registers c []) 0 None)
        ∙ set-get_or s.handle_registers c []

pub not_pointed : (m : Machine) (c : ℕ) → HasNoSlot m.state c → pointed m c None ≡ m
not_pointed m c none = λ i. record m { state = nothing_put m.state c none i }

-- the numbers of a store stay over a command
pub called_numbers : {m k : Machine} {context : ℕ} {c : Cmd} {o : Option Slot} {e : Entry}
    → HasCalled m context c o k e → k.numbers ≡ m.numbers
called_numbers called = (called.effect empty (λ x at found. absurd (nothing_at x at found))).numbers
