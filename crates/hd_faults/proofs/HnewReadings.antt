-- The same of `hnew`, whose kind says what it takes.
use Rattle.hd_script.proofs.Basics.{Bool, List, None, Option, Some, [], ap, arith, bytes_eq, codes, command, cond, cond_both, false, is_none, is_some, option_map, refl, subst, sym, true, ℕ, ◌-◌, ◌∷◌, ◌≡◌, ◌∙◌}
use Rattle.std.specs.Prelude.{slice_index_or, ◌||◌}
use Rattle.std.proofs.lemmas.Slice.Eq.{bytes_eq-Decides}
use Rattle.hd_model.specs.declared.command.Cmd.TheVariants as cmd
use Rattle.hd_model.specs.declared.data.Make.TheVariants as make
use Rattle.hd_model.specs.declared.data.Make.{Make}
use Rattle.hd_model.specs.Grammar.{reading_of, three, two_words, three_words, four_words, five_words, hnew_of, make_of, strength_of, object_register_in, handle_register_in}
use Rattle.hd_faults.specs.Causes.{cause_by, cause_of, form_of, new_handle}
use Rattle.hd_faults.specs.Forms.{Takes}
use Rattle.hd_faults.specs.declared.fault.Cause.{Cause}
use Rattle.hd_model.specs.declared.operand.Operand.TheVariants.{Object, Handle, Kind, Strength}
use Rattle.hd_faults.proofs.CauseShapes.{IsRight, three_right, too_many}

-- ---- `hnew`, whose kind says what it takes

abbrev var_form : Takes
var_form = record { least = 4; operands = Handle ∷ Kind ∷ Object ∷ Strength ∷ [] }

abbrev dep_form : Takes
dep_form = record { least = 4; operands = Handle ∷ Kind ∷ Object ∷ Object ∷ [] }

abbrev made_form : Takes
made_form = record { least = 3; operands = Handle ∷ Kind ∷ Object ∷ [] }

abbrev other_form : Takes
other_form = record { least = 3; operands = Handle ∷ Kind ∷ Object ∷ Object ∷ [] }

by_kind : (P : Takes → Type 0) (b : List ℕ) → (bytes_eq b (codes "var") ≡ true → P var_form)
    → (bytes_eq b (codes "dep") ≡ true → P dep_form)
    → (bytes_eq b (codes "var") ≡ false → bytes_eq b (codes "dep") ≡ false → is_some (make_of b) ≡ true
    → P made_form)
    → (bytes_eq b (codes "var") ≡ false → bytes_eq b (codes "dep") ≡ false → is_some (make_of b) ≡ false
    → P other_form)
    → P (new_handle b)
by_kind P b var dep made other =
    cond_both (bytes_eq b (codes "var")) var_form
    (cond (bytes_eq b (codes "dep")) dep_form (cond (is_some (make_of b)) made_form other_form)) P var
    (λ no_var. cond_both (bytes_eq b (codes "dep")) dep_form
    (cond (is_some (make_of b)) made_form other_form) P dep
    (λ no_dep. cond_both (is_some (make_of b)) made_form other_form P (made no_var no_dep)
    (other no_var no_dep)))

pub none_of : {A : Type 0} (o : Option A) → is_some o ≡ false → o ≡ None
none_of None e = refl
none_of (Some a) e = absurd cc

no_made : (name b : List ℕ) → make_of name ≡ None → bytes_eq b name ≡ true → make_of b ≡ None
no_made name b none is = subst (λ (k : List ℕ). make_of k ≡ None) (sym ((bytes_eq-Decides b name).0 is)) none

no_var : make_of (codes "var") ≡ None
unfolding make_of
no_var = refl

no_dep : make_of (codes "dep") ≡ None
unfolding make_of
no_dep = refl

no_middle : (o q : Option ℕ) (m : Option Make) → m ≡ None
    → is_some (option_map command (three cmd.HNew o m q)) ≡ false
no_middle None q m e = refl
no_middle (Some a) q None e = refl
no_middle (Some a) q (Some m) e = absurd cc

made_three : (c d e : Cause) (o q : Option ℕ) (m : Option Make) (x y : Bool) → is_some m ≡ true
    → is_none
    (cond (is_some o) (cond (is_some m || x || y) (cond (is_some q) None (Some e)) (Some d)) (Some c))
    ≡ is_some (option_map command (three cmd.HNew o m q))
made_three c d e None q m x y is = refl
made_three c d e (Some a) q None x y is = absurd cc
made_three c d e (Some a) None (Some m) x y is = refl
made_three c d e (Some a) (Some b) (Some m) x y is = refl

fails_at_kind : (c d : Cause) (more : Option Cause) (o : Option ℕ) (m : Option Make) (x y : Bool)
    → is_some m ≡ false → x ≡ false → y ≡ false
    → is_none (cond (is_some o) (cond (is_some m || x || y) more (Some d)) (Some c)) ≡ false
fails_at_kind c d more None m x y e f g = refl
fails_at_kind c d more (Some a) (Some m) x y e f g = absurd cc
fails_at_kind c d more (Some a) None true y e f g = absurd cc
fails_at_kind c d more (Some a) None false true e f g = absurd cc
fails_at_kind c d more (Some a) None false false e f g = refl

hnew_three : (a b c : List ℕ) → is_none (cause_by (Some (new_handle b)) (a ∷ b ∷ c ∷ []))
    ≡ is_some (option_map command (three cmd.HNew (handle_register_in a) (make_of b) (object_register_in c)))
hnew_three a b c =
    let h = handle_register_in a in
    let o = object_register_in c in
    by_kind (λ t. is_none (cause_by (Some t) (a ∷ b ∷ c ∷ []))
    ≡ is_some (option_map command (three cmd.HNew h (make_of b) o))) b
    (λ is. sym (no_middle h o (make_of b) (no_made (codes "var") b no_var is)))
    (λ is. sym (no_middle h o (make_of b) (no_made (codes "dep") b no_dep is)))
    (λ e f made. made_three _ _ _ h o (make_of b) (bytes_eq b (codes "var")) (bytes_eq b (codes "dep")) made)
    (λ e f other. fails_at_kind _ _ _ h (make_of b) (bytes_eq b (codes "var")) (bytes_eq b (codes "dep")) other
    e f
    ∙ sym (no_middle h o (make_of b) (none_of (make_of b) other)))

no_hnew_form : (a b c d : List ℕ) → bytes_eq b (codes "var") ≡ false → bytes_eq b (codes "dep") ≡ false
    → is_some (option_map command (hnew_of a b c d)) ≡ false
unfolding hnew_of
no_hnew_form a b c d e f = simp (e, f) refl

hnew_var : (a c d : List ℕ) → is_none (cause_by (Some var_form) (a ∷ codes "var" ∷ c ∷ d ∷ []))
    ≡ is_some (option_map command (hnew_of a (codes "var") c d))
unfolding hnew_of make_of
hnew_var a c d = three_right _ _ _ (λ h t s. cmd.HNew h (make.Variable s) t) (handle_register_in a)
    (object_register_in c) (strength_of d)

hnew_dep : (a c d : List ℕ) → is_none (cause_by (Some dep_form) (a ∷ codes "dep" ∷ c ∷ d ∷ []))
    ≡ is_some (option_map command (hnew_of a (codes "dep") c d))
unfolding hnew_of make_of
hnew_dep a c d = three_right _ _ _ (λ h t s. cmd.HNew h (make.Dependent s) t) (handle_register_in a)
    (object_register_in c) (object_register_in d)

hnew_four : (a b c d : List ℕ) → is_none (cause_by (Some (new_handle b)) (a ∷ b ∷ c ∷ d ∷ []))
    ≡ is_some (option_map command (hnew_of a b c d))
hnew_four a b c d =
    by_kind (λ t. is_none (cause_by (Some t) (a ∷ b ∷ c ∷ d ∷ []))
    ≡ is_some (option_map command (hnew_of a b c d))) b
    (λ is. subst (λ (k : List ℕ). is_none (cause_by (Some var_form) (a ∷ k ∷ c ∷ d ∷ []))
    ≡ is_some (option_map command (hnew_of a k c d))) (sym ((bytes_eq-Decides b (codes "var")).0 is))
    (hnew_var a c d))
    (λ is. subst (λ (k : List ℕ). is_none (cause_by (Some dep_form) (a ∷ k ∷ c ∷ d ∷ []))
    ≡ is_some (option_map command (hnew_of a k c d))) (sym ((bytes_eq-Decides b (codes "dep")).0 is))
    (hnew_dep a c d))
    (λ e f made. sym (no_hnew_form a b c d e f))
    (λ e f other. fails_at_kind _ _ _ (handle_register_in a) (make_of b) (bytes_eq b (codes "var"))
    (bytes_eq b (codes "dep")) other e f ∙ sym (no_hnew_form a b c d e f))

hnew_two : (a b : List ℕ) → is_none (cause_by (Some (new_handle b)) (a ∷ b ∷ [])) ≡ false
hnew_two a b =
    by_kind (λ t. is_none (cause_by (Some t) (a ∷ b ∷ [])) ≡ false) b (λ e. refl) (λ e. refl) (λ e f g. refl)
    (λ e f g. refl)

hnew_more : (a b c d e : List ℕ) (more : List (List ℕ))
    → is_none (cause_by (Some (new_handle b)) (a ∷ b ∷ c ∷ d ∷ e ∷ more)) ≡ false
hnew_more a b c d e more =
    by_kind (λ t. is_none (cause_by (Some t) (a ∷ b ∷ c ∷ d ∷ e ∷ more)) ≡ false) b
    (λ is. too_many var_form a b c d e more (omega arith))
    (λ is. too_many dep_form a b c d e more (omega arith))
    (λ is f g. too_many made_form a b c d e more (omega arith))
    (λ is f g. too_many other_form a b c d e more (omega arith))

hnew_takes : (kind : List ℕ) → form_of (codes "hnew") kind ≡ Some (new_handle kind)
unfolding form_of
hnew_takes kind = refl

-- by the second operand, or no bytes
abbrev HnewRight : List ℕ → List (List ℕ) → Type 0
HnewRight kind operands =
    is_none (cause_by (Some (new_handle kind)) operands) ≡ is_some (reading_of (codes "hnew" ∷ operands))

hnew_reads : (operands : List (List ℕ)) → HnewRight (slice_index_or operands 1 []) operands
unfolding reading_of two_words three_words four_words five_words make_of
hnew_reads [] = refl
hnew_reads (a ∷ []) = refl
hnew_reads (a ∷ b ∷ []) = hnew_two a b
hnew_reads (a ∷ b ∷ c ∷ []) = hnew_three a b c
hnew_reads (a ∷ b ∷ c ∷ d ∷ []) = hnew_four a b c d
hnew_reads (a ∷ b ∷ c ∷ d ∷ e ∷ more) = hnew_more a b c d e more

pub hnew_right : (operands : List (List ℕ)) → IsRight (codes "hnew") operands
unfolding cause_of
hnew_right operands =
    let kind : List ℕ = slice_index_or operands 1 [] in
    ap (λ (u : Option Takes). is_none (cause_by u operands)) (hnew_takes kind) ∙ hnew_reads operands
