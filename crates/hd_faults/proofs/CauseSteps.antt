-- The cause of words, step by step, and the position of the word at fault.
use Rattle.hd_script.proofs.Basics.{List, None, Option, Some, [], ap, arith, cond, cond-false, cond-true, drop, drop_more, false, get_or, is_none, length, length-drop, length-map, option_map, refl, suc, sym, true, ℕ, ◌+◌, ◌<◌, ◌∙◌, ◌∷◌, ◌≡◌}
use Rattle.std.specs.Prelude.{slice_get, slice_index_or}
use Rattle.std.proofs.lemmas.Option.{slice_get-get_or}
use Rattle.hd_faults.specs.Causes.{cause_by, cause_of, fits, form_of, is_other_count, operand_cause}
use Rattle.hd_faults.specs.Forms.{Takes}
use Rattle.hd_faults.specs.Placed.{bytes_of}
use Rattle.hd_faults.specs.declared.fault.Cause.TheVariants as cause
use Rattle.hd_model.specs.declared.operand.Operand.{Operand}

-- ---- names and counts

-- what a name takes says which cause is found
pub by_form : (name kind : List ℕ) (words : List (List ℕ)) (t : Option Takes)
    → kind ≡ slice_index_or words 1 [] → t ≡ form_of name kind → cause_of (name ∷ words) ≡ cause_by t words
unfolding cause_of
by_form name kind words t second is =
    ap (λ (k : List ℕ). cause_by (form_of name k) words) (sym second)
    ∙ ap (λ (u : Option Takes). cause_by u words) (sym is)

pub other_count : (t : Takes) (words : List (ℕ × List ℕ)) (has : ℕ) → has ≡ length words
    → is_other_count t has ≡ true
    → cause_by (Some t) (bytes_of words) ≡ Some (cause.Count t.least (length t.operands) has)
other_count t words has e other =
    let same : length (bytes_of words) ≡ has = length-map words (λ word. word.1) ∙ sym e in
    ap (λ (n : ℕ). cond (is_other_count t n) (Some (cause.Count t.least (length t.operands) n))
    (operand_cause 1 t.operands (bytes_of words))) same
    ∙ cond-true (is_other_count t has) (Some (cause.Count t.least (length t.operands) has))
    (operand_cause 1 t.operands (bytes_of words)) other

pub right_count : (t : Takes) (words : List (ℕ × List ℕ)) (has : ℕ) → has ≡ length words
    → is_other_count t has ≡ false
    → cause_by (Some t) (bytes_of words) ≡ operand_cause 1 t.operands (bytes_of words)
right_count t words has e right =
    let same : length (bytes_of words) ≡ has = length-map words (λ word. word.1) ∙ sym e in
    ap (λ (n : ℕ). cond (is_other_count t n) (Some (cause.Count t.least (length t.operands) n))
    (operand_cause 1 t.operands (bytes_of words))) same
    ∙ cond-false (is_other_count t has) (Some (cause.Count t.least (length t.operands) has))
    (operand_cause 1 t.operands (bytes_of words)) right

pub no_cause : (words : List (List ℕ)) → words ≡ [] → None ≡ cause_of words
unfolding cause_of
no_cause words e = sym (ap cause_of e)

-- a fault is none exactly where its cause is
pub none_mapped : {A B : Type 0} (f : A → B) (o : Option A) → is_none o ≡ is_none (option_map f o)
none_mapped f None = refl
none_mapped f (Some a) = refl

-- ---- operands

-- no word is left for the operands
pub no_operand : (number : ℕ) (operands : List Operand) → operand_cause number operands [] ≡ None
no_operand number [] = refl
no_operand number (wanted ∷ operands) = refl

-- a word that is what it has to be
pub goes_on : (number i : ℕ) (operands : List Operand) (d : Operand) (word : List ℕ) (words : List (List ℕ))
    → i < length operands → fits (get_or operands i d) word ≡ true
    → operand_cause number (drop i operands) (word ∷ words)
    ≡ operand_cause (number + 1) (drop (i + 1) operands) words
goes_on number i operands d word words within right =
    let wanted = get_or operands i d in
    ap (λ (os : List Operand). operand_cause number os (word ∷ words)) (drop_more operands i d within)
    ∙ cond-true (fits wanted word) (operand_cause (number + 1) (drop (i + 1) operands) words)
    (Some (cause.Operand number wanted)) right

-- ---- positions

-- what is left from an index on says what is there, and what follows
module _ {A : Type 0} (xs : List A) (i : ℕ) (y : A) (ys : List A) (e : drop i xs ≡ y ∷ ys) where
  within : i < length xs
  within = omega (arith, ap length e, length-drop i xs)

  pub next_left : drop (i + 1) xs ≡ ys
  next_left = ap (λ (zs : List A). drop 1 zs) (sym (drop_more xs i y within) ∙ e)

  pub stands : slice_get xs i ≡ Some y
  stands = slice_get-get_or xs i y within
      ∙ ap (λ (zs : List A). Some (get_or zs 0 y)) (sym (drop_more xs i y within) ∙ e)

  pub stands_after : (x : A) (n : ℕ) → n ≡ i + 1 → slice_get (x ∷ xs) n ≡ Some y
  stands_after x n is =
      let next : n ≡ suc i = omega (arith, is) in
      ap (slice_get (x ∷ xs)) next ∙ stands
