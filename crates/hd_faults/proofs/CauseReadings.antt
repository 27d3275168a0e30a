-- Words have no cause exactly where they have a reading.
use Rattle.hd_script.proofs.Basics.{Bool, Cmd, List, None, Option, Some, [], ap, arith, bytes_eq, caller, codes, command, cond, cond-false, eqb-true, false, filter, is_none, is_some, length, list_all, lt-ltb, ltb, ltb-false, ltb-true, map, not, option_map, refl, subst, sym, true, ℕ, ◌+◌, ◌-◌, ◌&&◌, ◌<◌, ◌≤◌, ◌∷◌, ◌≡◌, ◌∙◌}
use Rattle.std.specs.Prelude.{option_and_then, slice_index_or, ◌==◌}
use Rattle.std.proofs.lemmas.Bool.{and_parts, or_parts, or_right}
use Rattle.std.proofs.lemmas.Slice.Eq.{bytes_eq-Decides}
use Rattle.hd_model.specs.declared.command.Cmd.TheVariants as cmd
use Rattle.hd_model.specs.declared.limits.TheConstants.{CALLERS}
use Rattle.hd_model.specs.declared.operand.Operand.{Operand}
use Rattle.hd_model.specs.declared.operand.Operand.TheVariants.{Object, Handle, Number, Kind, PlainKind, Strength, Fin}
use Rattle.hd_model.specs.Grammar.{commands_by, is_kind, is_other_count, least, left_out, look_up, made_of, number_of, object_register_in, handle_register_in, make_of, hnew_of, three, value_in, reading_of, two_words, three_words, four_words, five_words}
use Rattle.hd_model.specs.Rows.{Form, Makes, forms}
use Rattle.hd_faults.specs.declared.fault.Cause.{Cause}
use Rattle.hd_faults.specs.declared.fault.Cause.TheVariants as cause
use Rattle.hd_faults.specs.Causes.{cause_by, cause_of, fits, form_of, new_handle, operand_cause, rows, taken_by, takes}
use Rattle.hd_faults.specs.Forms.{Takes}
use Rattle.hd_faults.specs.Laws.{CausesDecideReadings}
use Rattle.hd_faults.proofs.CauseShapes.{AreRight, IsRight, by_count, by_name, number_right, too_many, with_form}
use Rattle.hd_faults.proofs.CauseSteps.{no_operand}
use Rattle.hd_faults.proofs.HnewReadings.{hnew_right}

-- ---- operands

where_some : (x : Bool) (o : Option (Unit {0})) → o ≡ Some tt → x ≡ is_some (cond x o None)
where_some true o e = sym (ap is_some e)
where_some false o e = refl

-- a word is what an operand has to be where it has a value
fits_where : (o : Operand) (word : List ℕ) → fits o word ≡ is_some (value_in o word)
fits_where Object word = refl
fits_where Handle word = refl
fits_where (Number most) word = refl
fits_where Kind word = where_some (is_kind word) (Some tt) refl
fits_where PlainKind word = refl
fits_where Strength word = refl
fits_where Fin word = refl

-- how many must be there after the first, where so many are there
least_after : (x zero_after : Bool) (n k m : ℕ) → (n == 0) ≡ zero_after → cond (x && (n == 0)) 0 (1 + n) ≤ m
    → m ≤ k + 1 → n ≤ k
least_after x true n k m e few low = omega (arith, eqb-true n 0 e)
least_after false false n k m e few low = omega (arith, few, low)
least_after true false n k m e few low =
    let all : 1 + n ≤ m = subst (λ (z : Bool). cond z 0 (1 + n) ≤ m) e few in
    omega (arith, all, low)

module _ {V A : Type 0} where
  -- one word, and what follows
  one_more : (x : Option V) (follows : Option Cause) (c : Cause) (make : V → Option A)
      → ((v : V) → is_none follows ≡ is_some (make v))
      → is_none (cond (is_some x) follows (Some c)) ≡ is_some (option_and_then make x)
  one_more None follows c make same = refl
  one_more (Some v) follows c make same = same v

  -- no word more: the operand is left out, and so is each that follows
  none_more : (x : Option V) (n : ℕ) (make : V → Option A) → cond (is_some x && (n == 0)) 0 (1 + n) ≤ 0
      → ((v : V) → n ≤ 0 → true ≡ is_some (make v)) → true ≡ is_some (option_and_then make x)
  none_more None n make few same = absurd (omega (arith, few))
  none_more (Some v) n make few same = same v (least_after true (n == 0) n 0 0 refl few (omega arith))

-- the right number of words has a cause exactly where it makes nothing
operands_right : (os : List Operand) (make : Makes Cmd os) (words : List (List ℕ)) (i : ℕ)
    → least os ≤ length words → length words ≤ length os
    → is_none (operand_cause i os words) ≡ is_some (made_of {A = Cmd} os make words)
operands_right [] make [] i few many = refl
operands_right [] make (word ∷ words) i few many = absurd (omega (arith, many))
operands_right (o ∷ os) make [] i few many =
    none_more (left_out o) (least os) (λ v. made_of {A = Cmd} os (make v) []) few
    (λ v low. sym (ap is_none (no_operand i os)) ∙ operands_right os (make v) [] i low (omega arith))
operands_right (o ∷ os) make (word ∷ words) i few many =
    let follows = operand_cause (i + 1) os words in
    ap (λ (x : Bool). is_none (cond x follows (Some (cause.Operand i o)))) (fits_where o word)
    ∙ one_more (value_in o word) follows (cause.Operand i o) (λ v. made_of {A = Cmd} os (make v) words)
    (λ v. operands_right os (make v) words (i + 1)
    (least_after (is_some (left_out o)) (least os == 0) (least os) (length words) (length (word ∷ words)) refl
    few (omega arith))
    (omega (arith, many)))

-- ---- names

-- what words make by the first form of a name that may have so many
abbrev said_by : List (List ℕ) → List Form → List (List ℕ × Option Cmd)
said_by words fs =
    map (λ (f : Form). (f.word, made_of f.operands f.make words))
    (filter (λ (f : Form). not (is_other_count f.operands (length words))) fs)

-- no form has the name
abbrev is_absent : List ℕ → List Form → Bool
is_absent name fs = list_all (λ (f : Form). not (bytes_eq name f.word)) fs

abbrev are_apart : List Form → Bool
are_apart [] = true
are_apart (f ∷ fs) = is_absent f.word fs && are_apart fs

false_from_not : (x : Bool) → not x ≡ true → x ≡ false
false_from_not true e = sym e
false_from_not false e = refl

same_either : (x : Bool) (o : Option Cmd) → cond x o o ≡ o
same_either true o = refl
same_either false o = refl

module _ (name : List ℕ) (words : List (List ℕ)) where
  module _ (f : Form) (fs : List Form) where
    abbrev kept : List Form
    kept = filter (λ (g : Form). not (is_other_count g.operands (length words))) fs

    abbrev made : Option Cmd
    made = made_of f.operands f.make words

    -- the first of the forms is looked at or passed over
    looked : (is other : Bool) → bytes_eq name f.word ≡ is → is_other_count f.operands (length words) ≡ other
        → look_up name (said_by words (f ∷ fs))
        ≡ cond other (look_up name (said_by words fs)) (cond is made (look_up name (said_by words fs)))
    looked is true e g =
        ap (λ (x : Bool). look_up name (map (λ (h : Form). (h.word, made_of h.operands h.make words))
        (cond (not x) (f ∷ kept) kept))) g
    looked is false e g =
        ap (λ (x : Bool). look_up name (map (λ (h : Form). (h.word, made_of h.operands h.make words))
        (cond (not x) (f ∷ kept) kept))) g
        ∙ ap (λ (x : Bool). cond x made (look_up name (said_by words fs))) e

  absent : (fs : List Form) → is_absent name fs ≡ true → look_up name (said_by words fs) ≡ None
  absent [] away = refl
  absent (f ∷ fs) away =
      let parts = and_parts (not (bytes_eq name f.word)) (is_absent name fs) away in
      let other = is_other_count f.operands (length words) in
      looked f fs false other (false_from_not (bytes_eq name f.word) parts.0) refl
      ∙ same_either other (look_up name (said_by words fs)) ∙ absent fs parts.1

  -- no form takes five words
  too_long : (fs : List Form) → list_all (λ (f : Form). ltb (length f.operands) 5) fs ≡ true
      → 5 ≤ length words → look_up name (said_by words fs) ≡ None
  too_long [] few many = refl
  too_long (f ∷ fs) few many =
      let parts = and_parts (ltb (length f.operands) 5)
      (list_all (λ (f : Form). ltb (length f.operands) 5) fs) few in
      let over : ltb (length f.operands) (length words) ≡ true =
      lt-ltb (length f.operands) (length words)
      (omega (arith, ltb-true (length f.operands) 5 parts.0, many)) in
      looked f fs (bytes_eq name f.word) true refl
      (or_right (ltb (length words) (least f.operands)) (ltb (length f.operands) (length words)) over)
      ∙ too_long fs parts.1 many

  at_first : (f : Form) (fs : List Form) (is other : Bool) → bytes_eq name f.word ≡ is
      → is_other_count f.operands (length words) ≡ other → is_absent f.word fs ≡ true
      → is_none (cause_by (look_up name (taken_by fs)) words) ≡ is_some (look_up name (said_by words fs))
      → is_none (cause_by (look_up name (taken_by (f ∷ fs))) words)
      ≡ is_some (look_up name (said_by words (f ∷ fs)))
  at_first f fs false other e g away rest =
      ap (λ (x : Bool). is_none (cause_by
      (cond x (Some (takes f.operands)) (look_up name (taken_by fs))) words)) e
      ∙ rest
      ∙ sym (ap is_some (looked f fs false other e g ∙ same_either other (look_up name (said_by words fs))))
  at_first f fs true true e g away rest =
      let count = cause.Count (least f.operands) (length f.operands) (length words) in
      let none = absent fs (subst (λ (n : List ℕ). is_absent n fs ≡ true)
      (sym ((bytes_eq-Decides name f.word).0 e)) away) in
      ap (λ (x : Bool). is_none (cause_by
      (cond x (Some (takes f.operands)) (look_up name (taken_by fs))) words)) e
      ∙ ap (λ (x : Bool). is_none (cond x (Some count) (operand_cause 1 f.operands words))) g
      ∙ sym (ap is_some (looked f fs true true e g ∙ none))
  at_first f fs true false e g away rest =
      let count = cause.Count (least f.operands) (length f.operands) (length words) in
      let bounds = or_parts (ltb (length words) (least f.operands))
      (ltb (length f.operands) (length words)) g in
      ap (λ (x : Bool). is_none (cause_by
      (cond x (Some (takes f.operands)) (look_up name (taken_by fs))) words)) e
      ∙ ap (λ (x : Bool). is_none (cond x (Some count) (operand_cause 1 f.operands words))) g
      ∙ operands_right f.operands f.make words 1 (ltb-false (length words) (least f.operands) bounds.0)
      (ltb-false (length f.operands) (length words) bounds.1)
      ∙ sym (ap is_some (looked f fs true false e g))

  rows_right : (fs : List Form) → are_apart fs ≡ true
      → is_none (cause_by (look_up name (taken_by fs)) words) ≡ is_some (look_up name (said_by words fs))
  rows_right [] apart = refl
  rows_right (f ∷ fs) apart =
      let parts = and_parts (is_absent f.word fs) (are_apart fs) apart in
      at_first f fs (bytes_eq name f.word) (is_other_count f.operands (length words)) refl refl parts.0
      (rows_right fs parts.1)

-- ---- `caller`

abbrev caller_form : Takes
caller_form = takes (Number (CALLERS - 1) ∷ [])

caller_takes : (kind : List ℕ) → form_of (codes "caller") kind ≡ Some caller_form
unfolding form_of
caller_takes kind = refl

caller_reads : (operands : List (List ℕ)) → AreRight (codes "caller") caller_form operands
unfolding reading_of two_words three_words four_words five_words
caller_reads = by_count (codes "caller") caller_form refl
    (λ a. number_right _ (number_of (CALLERS - 1) a))
    (λ a b. refl)
    (λ a b c. refl)
    (λ a b c d. refl)
    (λ a b c d e more. too_many caller_form a b c d e more (omega arith))

caller_right : (operands : List (List ℕ)) → IsRight (codes "caller") operands
caller_right = with_form (codes "caller") caller_form caller_takes caller_reads

-- ---- all names

mapped : (o : Option Cmd) → is_some (option_map command o) ≡ is_some o
mapped None = refl
mapped (Some c) = refl

module _ (w : List ℕ) (no_caller : bytes_eq w (codes "caller") ≡ false)
    (no_hnew : bytes_eq w (codes "hnew") ≡ false) where
  row_taken : (kind : List ℕ) → form_of w kind ≡ look_up w (taken_by forms)
  unfolding form_of
  row_taken kind =
      cond-false (bytes_eq w (codes "hnew")) (Some (new_handle kind)) (look_up w rows) no_hnew
      ∙ cond-false (bytes_eq w (codes "caller")) (Some caller_form) (look_up w (taken_by forms)) no_caller

  said : (operands : List (List ℕ))
      → is_some (look_up w (commands_by operands)) ≡ is_some (reading_of (w ∷ operands))
  unfolding reading_of two_words three_words four_words five_words
  said [] = refl
  said (a ∷ []) = sym (ap is_some (cond-false (bytes_eq w (codes "caller"))
      (option_map caller (number_of (CALLERS - 1) a)) (option_map command (two_words w a)) no_caller)
      ∙ mapped (two_words w a))
  said (a ∷ b ∷ []) = sym (mapped (three_words w a b))
  said (a ∷ b ∷ c ∷ []) =
      let new_one = three cmd.HNew (handle_register_in a) (make_of b) (object_register_in c) in
      sym (mapped (four_words w a b c) ∙ ap is_some (cond-false (bytes_eq w (codes "hnew")) new_one
      (look_up w (commands_by (a ∷ b ∷ c ∷ []))) no_hnew))
  said (a ∷ b ∷ c ∷ d ∷ []) =
      sym (mapped (five_words w a b c d)
      ∙ ap is_some (cond-false (bytes_eq w (codes "hnew")) (hnew_of a b c d) None no_hnew))
  said (a ∷ b ∷ c ∷ d ∷ e ∷ more) =
      ap is_some (too_long w (a ∷ b ∷ c ∷ d ∷ e ∷ more) forms refl (omega arith))

  others_right : (operands : List (List ℕ)) → IsRight w operands
  unfolding cause_of
  others_right operands =
      ap (λ (t : Option Takes). is_none (cause_by t operands)) (row_taken (slice_index_or operands 1 []))
      ∙ rows_right w operands forms refl ∙ said operands

name_right : (w : List ℕ) (operands : List (List ℕ)) → IsRight w operands
name_right w =
    let P : List ℕ → Type 0 = λ v. (operands : List (List ℕ)) → IsRight v operands in
    by_name (codes "hnew") P w hnew_right (λ no_hnew.
    by_name (codes "caller") P w caller_right (λ no_caller. others_right w no_caller no_hnew))

pub causes_decide_readings : CausesDecideReadings
unfolding cause_of reading_of
causes_decide_readings [] = refl
causes_decide_readings (w ∷ operands) = name_right w operands
