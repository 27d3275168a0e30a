-- The first fault of a script, line by line.
use Rattle.hd_script.proofs.Basics.{List, None, Option, Some, [], ap, arith, cond, cond-false, cond-true, drop, false, is_none, is_some, length, ltb, map, not, option_map, refl, subst, sym, true, ℕ, ◌+◌, ◌-◌, ◌<◌, ◌∙◌, ◌∷◌, ◌≡◌, before_first, line_after, MOST_COMMANDS}
use Rattle.std.specs.Prelude.{IfNone, IfSome, MatchOption, slice_get, unwrap_or}
use Rattle.std.proofs.lemmas.Bool.{false≢true}
use Rattle.hd_model.specs.Grammar.{Reading, blank, caller, command, first_fault, is_line_end, lines_in, reading_of, readings_of, words_of}
use Rattle.hd_script.specs.Words.{words_at}
use Rattle.hd_script.proofs.LineSplit.{first_line}
use Rattle.hd_faults.specs.Causes.{cause_of}
use Rattle.hd_faults.specs.Faults.{IsPlaced, IsPlacedIn, word_of}
use Rattle.hd_faults.specs.Placed.{placed_words}
use Rattle.hd_faults.specs.{ScriptFaults.FaultOf, ScriptFaults.IsFirstFault, ScriptFaults.IsLineFault, ScriptFaults.is_at_fault, Inside.IsOneTooMany, Inside.count_after}
use Rattle.hd_faults.specs.declared.fault.Cause.{Cause}
use Rattle.hd_faults.specs.declared.fault.Cause.TheVariants as cause
use Rattle.hd_faults.specs.declared.fault.LineFault.{LineFault}
use Rattle.hd_faults.proofs.CauseReadings.{causes_decide_readings}
use Rattle.hd_faults.proofs.CauseSteps.{next_left, stands}

first_step : (n before : ℕ) (r : Option Reading) (rs : List (Option Reading)) → first_fault n before (r ∷ rs)
    ≡ cond (is_at_fault before r) (Some n) (first_fault (n + 1) (count_after before r) rs)
first_step n before None rs = refl
first_step n before (Some blank) rs = refl
first_step n before (Some (caller k)) rs = refl
first_step n before (Some (command c)) rs =
    let rest : Option ℕ = first_fault (n + 1) (before + 1) rs in
    elim (ltb before MOST_COMMANDS) as (λ t. cond t rest (Some n) ≡ cond (not t) (Some n) rest)
    [ true ↦ refl | false ↦ refl ]

-- ---- one line

-- a line is what is read of the bytes that begin with it
pub reading_is : (rest line : List ℕ) (r : Option Reading) → line ≡ before_first is_line_end rest
    → r ≡ reading_of (words_at rest) → reading_of (words_of line) ≡ r
unfolding words_at
reading_is rest line r is e = ap (λ (l : List ℕ). reading_of (words_of l)) is ∙ sym e

-- the fault of a line without a reading
pub of_unread : (line : List ℕ) (found : Option LineFault)
    → option_map (λ fault. fault.cause) found ≡ cause_of (words_of line) → IfSome found (IsPlaced line)
    → IfSome found (IsLineFault line)
of_unread line None e position = position
of_unread line (Some fault) e position = record {
  cause = ap (λ x. unwrap_or x cause.TooMany) e;
  position = position;
}

pub is_found : (line : List ℕ) (found : Option LineFault)
    → is_none found ≡ is_some (reading_of (words_of line)) → reading_of (words_of line) ≡ None
    → is_some found ≡ true
is_found line None e none = absurd (false≢true (sym (e ∙ ap is_some none)))
is_found line (Some fault) e none = refl

-- that of one that is one command too many
no_cause : (x : Option Cause) → is_none x ≡ true → unwrap_or x cause.TooMany ≡ cause.TooMany
no_cause None h = refl
no_cause (Some x) h = absurd (false≢true h)

pub of_read : (line : List ℕ) (found : Option LineFault) (r : Reading)
    → reading_of (words_of line) ≡ Some r → IfSome found (IsOneTooMany line)
    → IfSome found (IsLineFault line)
of_read line None r read one = one
of_read line (Some fault) r read one = record {
  cause = one.cause
      ∙ sym (no_cause (cause_of (words_of line)) (causes_decide_readings (words_of line) ∙ ap is_some read));
  position = one.position;
}

pub has_word : (line : List ℕ) (found : Option LineFault) (before : ℕ) → IfNone found (words_of line ≡ [])
    → is_at_fault before (reading_of (words_of line)) ≡ true → is_some found ≡ true
unfolding reading_of
has_word line None before none at_fault =
    absurd (false≢true (ap (λ (words : List (List ℕ)). is_at_fault before (reading_of words)) (sym none)
    ∙ at_fault))
has_word line (Some fault) before none at_fault = refl

-- a fault that is found is that of its line
pub is_fault_of : (line : List ℕ) (found : Option LineFault) (before : ℕ)
    → is_at_fault before (reading_of (words_of line)) ≡ true → is_some found ≡ true
    → IfSome found (IsLineFault line) → FaultOf before line found
is_fault_of line None before at_fault has is = absurd (false≢true has)
is_fault_of line (Some fault) before at_fault has is = (at_fault, is)

-- a fault at the first word
pub at_first : (line : List ℕ) (fault : LineFault) (column : ℕ) (word : List ℕ) (more : List (ℕ × List ℕ))
    → placed_words line ≡ (column, word) ∷ more → word_of fault.cause ≡ 0 → fault.command.now ≡ word
    → fault.column ≡ column → fault.word.now ≡ word → IsPlaced line fault
at_first line fault column word more e first first_word position same =
    subst (λ (words : List (ℕ × List ℕ)). IsPlacedIn words fault) (sym e)
    (record {
      command = ap Some (sym first_word);
      word = ap (slice_get ((column, word) ∷ more)) first ∙ (λ i. Some (sym position i, sym same i));
    })

-- ---- all lines

module _ (bytes rest line : List ℕ) (number before : ℕ)
    (here : first_fault (number + 1) before (readings_of rest) ≡ first_fault 1 0 (readings_of bytes))
    (some : 0 < length rest) (is : line ≡ before_first is_line_end rest) where
  lines : lines_in rest ≡ line ∷ lines_in (line_after rest)
  lines = first_line rest some ∙ ap (λ (l : List ℕ). l ∷ lines_in (line_after rest)) (sym is)

  readings : readings_of rest ≡ reading_of (words_of line) ∷ readings_of (line_after rest)
  unfolding readings_of
  readings = ap (map (λ l. reading_of (words_of l))) lines

  step : first_fault (number + 1) before (readings_of rest)
      ≡ cond (is_at_fault before (reading_of (words_of line))) (Some (number + 1))
      (first_fault (number + 1 + 1) (count_after before (reading_of (words_of line)))
      (readings_of (line_after rest)))
  step = ap (first_fault (number + 1) before) readings
      ∙ first_step (number + 1) before (reading_of (words_of line)) (readings_of (line_after rest))

  is_first : drop number (lines_in bytes) ≡ lines_in rest → (fault : LineFault)
      → is_at_fault before (reading_of (words_of line)) ≡ true → IsLineFault line fault
      → IsFirstFault bytes (number + 1) fault
  is_first left fault at_fault is_fault =
      let r = reading_of (words_of line) in
      let rest_fault = first_fault (number + 1 + 1) (count_after before r) (readings_of (line_after rest)) in
      let index : number + 1 - 1 ≡ number = omega arith in
      record {
        first = sym here ∙ step ∙ cond-true (is_at_fault before r) (Some (number + 1)) rest_fault at_fault;
        line = line;
        numbered = ap (slice_get (lines_in bytes)) index
            ∙ stands (lines_in bytes) number line (lines_in (line_after rest)) (left ∙ lines);
        is_fault = is_fault;
      }

  pub found_here : drop number (lines_in bytes) ≡ lines_in rest
      → is_at_fault before (reading_of (words_of line)) ≡ true → (found : Option LineFault)
      → is_some found ≡ true → IfSome found (IsLineFault line) → (all : Option (ℕ × LineFault)) (n : ℕ)
      → n ≡ number + 1 → all ≡ option_map (λ fault. (n, fault)) found
      → MatchOption all (first_fault 1 0 (readings_of bytes) ≡ None)
      (λ one. IsFirstFault bytes one.0 one.1)
  found_here left at_fault None has is_fault all n this e = absurd (false≢true has)
  found_here left at_fault (Some fault) has is_fault all n this e =
      subst (λ (o : Option (ℕ × LineFault)). MatchOption o (first_fault 1 0 (readings_of bytes) ≡ None)
      (λ one. IsFirstFault bytes one.0 one.1)) (sym e)
      (subst (λ (k : ℕ). IsFirstFault bytes k fault) (sym this) (is_first left fault at_fault is_fault))

  pub goes_past : (r : Option Reading) (next : ℕ) → reading_of (words_of line) ≡ r
      → is_at_fault before r ≡ false → next ≡ count_after before r
      → first_fault (number + 1 + 1) next (readings_of (line_after rest))
      ≡ first_fault 1 0 (readings_of bytes)
  goes_past r next read fine count =
      let rest_readings = readings_of (line_after rest) in
      let step_on = λ (q : Option Reading). cond (is_at_fault before q) (Some (number + 1))
      (first_fault (number + 1 + 1) (count_after before q) rest_readings) in
      ap (λ (n : ℕ). first_fault (number + 1 + 1) n rest_readings) count
      ∙ sym (step ∙ ap step_on read
      ∙ cond-false (is_at_fault before r) (Some (number + 1))
      (first_fault (number + 1 + 1) (count_after before r) rest_readings) fine) ∙ here

  pub lines_left : drop number (lines_in bytes) ≡ lines_in rest
      → drop (number + 1) (lines_in bytes) ≡ lines_in (line_after rest)
  lines_left left = next_left (lines_in bytes) number line (lines_in (line_after rest)) (left ∙ lines)

-- no line is left
pub none_left : (rest : List ℕ) (number before : ℕ) (all : Option ℕ) → length rest ≡ 0
    → first_fault (number + 1) before (readings_of rest) ≡ all → all ≡ None
unfolding readings_of lines_in
none_left [] number before all e here = sym here
none_left (b ∷ bs) number before all e here = absurd (omega (arith, e))
