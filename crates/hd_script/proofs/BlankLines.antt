-- Lines without words change no list.
use Rattle.hd_script.proofs.Basics.{Bool, Cmd, List, MOST_COMMANDS, None, Ok, Option, Reading, Some, WordsDecide, [], ap, arith, blank, caller, caller_after, callers_of, command, command_in, commands_for, cond, eqb, false, filter, first_fault, has_words, is_none, lines_in, ltb, map, max, option_to_list, refl, sym, true, words_of, ℕ, ◌++◌, ◌+◌, ◌∙◌, ◌∷◌, ◌≡◌}
use Rattle.hd_model.specs.Grammar.{reading_of, readings_of, lists_of}
use Rattle.hd_script.proofs.LineLists.{nothing_more, some_caller, same_lists_of, is_script}
use Rattle.hd_script.proofs.CallerLines.{parts_of_script}

abbrev said : List (List (List ℕ)) → List (Option Reading)
said lines = map reading_of lines

no_words : reading_of [] ≡ Some blank
unfolding reading_of
no_words = refl

readings_are : (lines : List (List ℕ))
    → map (λ line. reading_of (words_of line)) lines ≡ said (map words_of lines)
readings_are [] = refl
readings_are (line ∷ lines) = ap (λ (rest : List (Option Reading)). reading_of (words_of line) ∷ rest)
    (readings_are lines)

readings_said : (bytes : List ℕ) → readings_of bytes ≡ said (map words_of (lines_in bytes))
unfolding readings_of
readings_said bytes = readings_are (lines_in bytes)

same_commands : (wanted now : ℕ) (lines : List (List (List ℕ)))
    → commands_for wanted now (said lines) ≡ commands_for wanted now (said (filter has_words lines))
same_commands wanted now [] = refl
same_commands wanted now ([] ∷ lines) =
    ap (λ (r : Option Reading). commands_for wanted now (r ∷ said lines)) no_words
    ∙ nothing_more (eqb now wanted) (commands_for wanted now (said lines))
    ∙ same_commands wanted now lines
same_commands wanted now ((word ∷ words) ∷ lines) =
    let r = reading_of (word ∷ words) in
    ap (λ (list : List Cmd). cond (eqb now wanted) (option_to_list (command_in r)) [] ++ list)
    (same_commands wanted (caller_after now r) lines)

same_callers : (lines : List (List (List ℕ)))
    → callers_of (said lines) ≡ callers_of (said (filter has_words lines))
same_callers [] = refl
same_callers ([] ∷ lines) =
    ap (λ (r : Option Reading). callers_of (r ∷ said lines)) no_words
    ∙ (let same : max 1 (callers_of (said lines)) ≡ callers_of (said lines) =
    omega (arith, some_caller (said lines)) in same)
    ∙ same_callers lines
same_callers ((word ∷ words) ∷ lines) =
    ap (max (caller_after 0 (reading_of (word ∷ words)) + 1)) (same_callers lines)

same_lists : (lines : List (List (List ℕ))) → lists_of (said lines) ≡ lists_of (said (filter has_words lines))
unfolding lists_of
same_lists lines =
    same_lists_of (λ wanted. commands_for wanted 0 (said lines))
    (λ wanted. commands_for wanted 0 (said (filter has_words lines)))
    (callers_of (said lines)) (callers_of (said (filter has_words lines))) (same_callers lines)
    (λ wanted. same_commands wanted 0 lines)

-- whether there is a fault, after the same line
same_choice : (b : Bool) (one other : Option ℕ) (line next : ℕ) → is_none one ≡ is_none other
    → is_none (cond b one (Some line)) ≡ is_none (cond b other (Some next))
same_choice true one other line next e = e
same_choice false one other line next e = refl

same_next : (r : Option Reading) (line other before : ℕ) (one two : List (Option Reading))
    → ((l o b : ℕ) → is_none (first_fault l b one) ≡ is_none (first_fault o b two)) →
    is_none (first_fault line before (r ∷ one)) ≡ is_none (first_fault other before (r ∷ two))
same_next None line other before one two h = refl
same_next (Some blank) line other before one two h = h (line + 1) (other + 1) before
same_next (Some (caller n)) line other before one two h = h (line + 1) (other + 1) before
same_next (Some (command c)) line other before one two h =
    same_choice (ltb before MOST_COMMANDS) (first_fault (line + 1) (before + 1) one)
    (first_fault (other + 1) (before + 1) two) line other (h (line + 1) (other + 1) (before + 1))

same_faults : (lines : List (List (List ℕ))) (line other before : ℕ)
    → is_none (first_fault line before (said lines))
    ≡ is_none (first_fault other before (said (filter has_words lines)))
same_faults [] line other before = refl
same_faults ([] ∷ lines) line other before =
    ap (λ (r : Option Reading). is_none (first_fault line before (r ∷ said lines))) no_words
    ∙ same_faults lines (line + 1) other before
same_faults ((word ∷ words) ∷ lines) line other before =
    same_next (reading_of (word ∷ words)) line other before (said lines) (said (filter has_words lines))
    (same_faults lines)

none_from : (fault : Option ℕ) → is_none fault ≡ true → fault ≡ None
none_from None e = refl
none_from (Some line) e = absurd cc

pub words_decide : WordsDecide
words_decide one other lists same script =
    let parts = parts_of_script one lists script in
    let ones = map words_of (lines_in one) in
    let others = map words_of (lines_in other) in
    let to_words : first_fault 1 0 (said ones) ≡ None = ap (first_fault 1 0) (sym (readings_said one))
    ∙ parts.0 in
    let clean : is_none (first_fault 1 0 (said others)) ≡ true =
    same_faults others 1 1 0 ∙ ap (λ (lines : List (List (List ℕ))). is_none (first_fault 1 0 (said lines)))
    (sym same) ∙ sym (same_faults ones 1 1 0) ∙ ap (λ (o : Option ℕ). is_none o) to_words in
    let no_fault : first_fault 1 0 (readings_of other) ≡ None = ap (first_fault 1 0) (readings_said other)
    ∙ none_from (first_fault 1 0 (said others)) clean in
    let whole : lists_of (readings_of other) ≡ lists =
    ap lists_of (readings_said other) ∙ same_lists others
    ∙ ap (λ (lines : List (List (List ℕ))). lists_of (said lines)) (sym same)
    ∙ sym (same_lists ones) ∙ ap lists_of (sym (readings_said one)) ∙ sym parts.1 in
    is_script other no_fault ∙ ap Ok whole
