-- A script is refused for its first line at fault.
use Rattle.hd_script.proofs.Basics.{Cmd, Err, FaultsComeFirst, IsAtFault, IsFirstAtFault, List, MOST_COMMANDS, None, Option, Reading, Some, [], ap, append-nil, append_assoc, arith, below_more, blank, both_ways, caller, command, cond, cond_both, count_by, false, first_fault, get_or, get_or_at, inl, inr, is_command, length, length-append, length_push, lists_of, ltb, ltb-false, ltb-true, readings_of, refl, subst, sum_by_push, sym, take, take_at, true, unless_fault, ℕ, ⊎_elim, ◌++◌, ◌+◌, ◌<◌, ◌∙◌, ◌∷◌, ◌≡◌, ◌≤◌, ◌⊎◌}
use Rattle.hd_model.specs.Grammar.{script_of}
use Rattle.hd_script.proofs.CallerLines.{parts_of_script}

-- why a line is at fault, by its reading and the lines above it
abbrev Why : Option Reading → List (Option Reading) → Type 0
Why reading above = (reading ≡ None)
    ⊎ ((is_command reading ≡ true) × (MOST_COMMANDS ≤ count_by is_command above))

module _ (above rest all : List (Option Reading)) (reading : Option Reading)
    (e : all ≡ above ++ reading ∷ rest) where
  at_here : (d : Option Reading) → get_or all (length above) d ≡ reading
  at_here d = ap (λ (rs : List (Option Reading)). get_or rs (length above) d) e
      ∙ get_or_at above reading rest d (length above) refl

  above_here : take (length above) all ≡ above
  above_here = ap (take (length above)) e ∙ take_at above (reading ∷ rest) (length above) refl

  within_here : length above < length all
  within_here = omega (arith, ap length e, length-append above (reading ∷ rest))

  fault_here : Why reading above → IsAtFault all (length above)
  fault_here why = record {
    within = within_here;
    why = ⊎_elim (λ none. inl (at_here (Some blank) ∙ none))
        (λ many. inr (ap is_command (at_here None) ∙ many.0, rw above_here many.1)) why;
  }

  why_here : IsAtFault all (length above) → Why reading above
  why_here fault =
      ⊎_elim (λ none. inl (sym (at_here (Some blank)) ∙ none))
      (λ many. inr (sym (ap is_command (at_here None)) ∙ many.0, (rw above_here at many.1))) fault.why

-- no line up to an index is at fault
abbrev IsClean : List (Option Reading) → ℕ → Type 0
IsClean all n = (index : ℕ) → index < n → IsAtFault all index → ⊥

abbrev Settles : List (Option Reading) → Option ℕ → Type 0
Settles all None = (index : ℕ) → IsAtFault all index → ⊥
Settles all (Some line) = IsFirstAtFault all line

-- the same for the next line
next_clean : (above rest all : List (Option Reading)) (reading : Option Reading)
    → all ≡ above ++ reading ∷ rest → IsClean all (length above) → (Why reading above → ⊥)
    → IsClean all (length (above ++ reading ∷ []))
next_clean above rest all reading e clean fine =
    let more : IsClean all (length above + 1) =
    below_more (λ index. IsAtFault all index → ⊥) (length above) clean
    (λ fault. fine (why_here above rest all reading e fault)) in
    subst (λ (n : ℕ). IsClean all n) (sym (length_push above reading)) more

found_here : (above rest all : List (Option Reading)) (reading : Option Reading)
    → all ≡ above ++ reading ∷ rest → IsClean all (length above) → Why reading above
    → IsFirstAtFault all (length above + 1)
found_here above rest all reading e clean why = record {
  index = length above;
  number = refl;
  fault = fault_here above rest all reading e why;
  first = clean;
}

-- after a line that is not at fault
on : (above rest all : List (Option Reading)) (reading : Option Reading) (count : ℕ)
    → all ≡ above ++ reading ∷ rest → count_by is_command (above ++ reading ∷ []) ≡ count →
    Settles all (first_fault (length (above ++ reading ∷ []) + 1)
    (count_by is_command (above ++ reading ∷ [])) rest)
    → Settles all (first_fault (length above + 1 + 1) count rest)
on above rest all reading count e number h =
    subst (λ (n : ℕ). Settles all (first_fault (n + 1) count rest)) (length_push above reading)
    (subst (λ (n : ℕ). Settles all (first_fault (length (above ++ reading ∷ []) + 1) n rest)) number h)

-- a line that is no command is at fault only where it has no reading
fine : (reading : Reading) (above : List (Option Reading)) → is_command (Some reading) ≡ false
    → Why (Some reading) above → ⊥
fine reading above none why =
    ⊎_elim {C = ⊥} (λ unread. absurd cc) (λ many. both_ways (is_command (Some reading)) none many.0) why

settled : (above rest all : List (Option Reading)) → all ≡ above ++ rest → IsClean all (length above)
    → Settles all (first_fault (length above + 1) (count_by is_command above) rest)
settled above [] all e clean =
    λ index fault. clean index (omega (arith, fault.within, ap length (e ∙ append-nil above))) fault
settled above (None ∷ rest) all e clean = found_here above rest all None e clean (inl refl)
settled above (Some blank ∷ rest) all e clean =
    let r : Option Reading = Some blank in
    let deeper = settled (above ++ r ∷ []) rest all (e ∙ sym (append_assoc above (r ∷ []) rest))
    (next_clean above rest all r e clean (fine blank above refl)) in
    on above rest all r (count_by is_command above) e
    (omega (arith, sum_by_push (λ q. cond (is_command q) 1 0) above r)) deeper
settled above (Some (caller n) ∷ rest) all e clean =
    let r : Option Reading = Some (caller n) in
    let deeper = settled (above ++ r ∷ []) rest all (e ∙ sym (append_assoc above (r ∷ []) rest))
    (next_clean above rest all r e clean (fine (caller n) above refl)) in
    on above rest all r (count_by is_command above) e
    (omega (arith, sum_by_push (λ q. cond (is_command q) 1 0) above r)) deeper
settled above (Some (command c) ∷ rest) all e clean =
    let r : Option Reading = Some (command c) in
    let count = count_by is_command above in
    cond_both (ltb count MOST_COMMANDS) (first_fault (length above + 1 + 1) (count + 1) rest)
    (Some (length above + 1)) (Settles all)
    (λ few.
    let below : count < MOST_COMMANDS = ltb-true count MOST_COMMANDS few in
    let right : Why r above → ⊥ = λ why. ⊎_elim {C = ⊥} (λ unread. absurd cc)
    (λ many. absurd (omega (arith, below, many.1))) why in
    let deeper = settled (above ++ r ∷ []) rest all (e ∙ sym (append_assoc above (r ∷ []) rest))
    (next_clean above rest all r e clean right) in
    on above rest all r (count + 1) e (omega (arith, sum_by_push (λ q. cond (is_command q) 1 0) above r))
    deeper)
    (λ many. found_here above rest all r e clean (inr (refl, ltb-false count MOST_COMMANDS many)))

settles : (readings : List (Option Reading)) → Settles readings (first_fault 1 0 readings)
settles readings = settled [] readings readings refl (λ index below fault. omega (arith, below))

as_refused : (fault : Option ℕ) (lists : List (List Cmd)) (line : ℕ) → unless_fault fault lists ≡ Err line
    → fault ≡ Some line
as_refused None lists line e = absurd cc
as_refused (Some other) lists line e = cc

refused_at : (bytes : List ℕ) (line : ℕ) → script_of bytes ≡ Err line
    → first_fault 1 0 (readings_of bytes) ≡ Some line
unfolding script_of
refused_at bytes line e = as_refused (first_fault 1 0 (readings_of bytes)) (lists_of (readings_of bytes))
    line e

pub faults_come_first : FaultsComeFirst
faults_come_first = record {
  refused = λ bytes line script.
      subst (Settles (readings_of bytes)) (refused_at bytes line script) (settles (readings_of bytes));
  accepted = λ bytes lists script. subst (Settles (readings_of bytes)) (parts_of_script bytes lists script).0
      (settles (readings_of bytes));
}
