-- Causes of operands that have to be there, beside readings.
use Rattle.hd_script.proofs.Basics.{Bool, Cmd, List, None, Option, Some, [], ap, arith, bytes_eq, caller, cases_Bool, command, cond, false, is_none, is_some, length, lt-ltb, ltb, option_map, refl, subst, sym, true, ℕ, ⊎_elim, ◌-◌, ◌∷◌, ◌≡◌, ◌≤◌, ◌∙◌}
use Rattle.std.specs.Prelude.{slice_index_or, ◌||◌}
use Rattle.std.proofs.lemmas.Slice.Eq.{bytes_eq-Decides}
use Rattle.hd_model.specs.Grammar.{reading_of, three}
use Rattle.hd_faults.specs.Causes.{cause_by, cause_of, form_of, operand_cause}
use Rattle.hd_faults.specs.Forms.{Takes}
use Rattle.hd_faults.specs.declared.fault.Cause.{Cause}
use Rattle.hd_faults.specs.declared.fault.Cause.TheVariants as cause
use Rattle.hd_model.specs.declared.operand.Operand.{Operand}

-- a name and its operands
abbrev pub IsRight : List ℕ → List (List ℕ) → Type 0
IsRight name operands = is_none (cause_of (name ∷ operands)) ≡ is_some (reading_of (name ∷ operands))

-- ---- operands that have to be there

pub number_right : (c : Cause) (o : Option ℕ)
    → is_none (cond (is_some o) None (Some c)) ≡ is_some (option_map caller o)
number_right _ None = refl
number_right _ (Some n) = refl

pub three_right : {A B C : Type 0} (c d e : Cause) (f : A → B → C → Cmd) (o : Option A) (p : Option B)
    (q : Option C)
    → is_none (cond (is_some o) (cond (is_some p) (cond (is_some q) None (Some e)) (Some d)) (Some c))
    ≡ is_some (option_map command (three f o p q))
three_right _ _ _ f None p q = refl
three_right _ _ _ f (Some a) None q = refl
three_right _ _ _ f (Some a) (Some b) None = refl
three_right _ _ _ f (Some a) (Some b) (Some c) = refl

-- ---- by the number of operands

-- the same of a name of which it is known what it takes
abbrev pub AreRight : List ℕ → Takes → List (List ℕ) → Type 0
AreRight name t operands = is_none (cause_by (Some t) operands) ≡ is_some (reading_of (name ∷ operands))

pub by_count : (name : List ℕ) (t : Takes) → AreRight name t [] → ((a : List ℕ) → AreRight name t (a ∷ []))
    → ((a b : List ℕ) → AreRight name t (a ∷ b ∷ []))
    → ((a b c : List ℕ) → AreRight name t (a ∷ b ∷ c ∷ []))
    → ((a b c d : List ℕ) → AreRight name t (a ∷ b ∷ c ∷ d ∷ []))
    → ((a b c d e : List ℕ) (more : List (List ℕ)) → AreRight name t (a ∷ b ∷ c ∷ d ∷ e ∷ more))
    → (operands : List (List ℕ)) → AreRight name t operands
by_count name t r0 r1 r2 r3 r4 r5 [] = r0
by_count name t r0 r1 r2 r3 r4 r5 (a ∷ []) = r1 a
by_count name t r0 r1 r2 r3 r4 r5 (a ∷ b ∷ []) = r2 a b
by_count name t r0 r1 r2 r3 r4 r5 (a ∷ b ∷ c ∷ []) = r3 a b c
by_count name t r0 r1 r2 r3 r4 r5 (a ∷ b ∷ c ∷ d ∷ []) = r4 a b c d
by_count name t r0 r1 r2 r3 r4 r5 (a ∷ b ∷ c ∷ d ∷ e ∷ more) = r5 a b c d e more

pub with_form : (name : List ℕ) (t : Takes) → ((kind : List ℕ) → form_of name kind ≡ Some t)
    → ((operands : List (List ℕ)) → AreRight name t operands) → (operands : List (List ℕ))
    → IsRight name operands
unfolding cause_of
with_form name t form right operands =
    ap (λ (u : Option Takes). is_none (cause_by u operands)) (form (slice_index_or operands 1 []))
    ∙ right operands

either : (c : Cause) (o : Option Cause) (x : Bool) → is_none (cond (x || true) (Some c) o) ≡ false
either c o true = refl
either c o false = refl

-- no command takes five operands
pub too_many : (t : Takes) (a b c d e : List ℕ) (more : List (List ℕ)) → length t.operands ≤ 4
    → is_none (cause_by (Some t) (a ∷ b ∷ c ∷ d ∷ e ∷ more)) ≡ false
too_many t a b c d e more few =
    let operands : List (List ℕ) = a ∷ b ∷ c ∷ d ∷ e ∷ more in
    let over : ltb (length t.operands) (length operands) ≡ true =
    lt-ltb (length t.operands) (length operands) (omega (arith, few)) in
    subst (λ (y : Bool). is_none (cond (ltb (length operands) t.least || y)
    (Some (cause.Count t.least (length t.operands) (length operands))) (operand_cause 1 t.operands operands))
    ≡ false) (sym over) (either _ _ (ltb (length operands) t.least))

-- a fact of a word, by one name that it may be
pub by_name : (name : List ℕ) (P : List ℕ → Type 0) (w : List ℕ) → P name → (bytes_eq w name ≡ false → P w)
    → P w
by_name name P w here other =
    ⊎_elim (λ is. subst P (sym ((bytes_eq-Decides w name).0 is)) here) other (cases_Bool (bytes_eq w name))
