-- Each caller's list is the commands of its lines, in their order.
use Rattle.hd_script.proofs.Basics.{Bool, Cmd, List, ListsFollowTheLines, None, Ok, Option, Reading, Some, [], ap, append_assoc, arith, caller_after, caller_after_lines, callers_of, command_for, command_in, commands_for, cond, cons_option, enumerate_from, eqb, false, filter_map, first_fault, fold_push, get_or, get_or-map-range_with_len, length, length-map-range_with_len, length_push, option_to_list, readings_of, refl, sym, take, take_at, true, unless_fault, ℕ, ◌++◌, ◌+◌, ◌<◌, ◌∙◌, ◌∷◌, ◌≡◌}
use Rattle.hd_model.specs.Grammar.{lists_of, script_of}

-- a script has no fault, and its lists
parted : (fault : Option ℕ) (lists others : List (List Cmd)) → unless_fault fault others ≡ Ok lists
    → (fault ≡ None) × (lists ≡ others)
parted None lists others e = (refl, cc)
parted (Some line) lists others e = absurd cc

pub parts_of_script : (bytes : List ℕ) (lists : List (List Cmd)) → script_of bytes ≡ Ok lists
    → (first_fault 1 0 (readings_of bytes) ≡ None) × (lists ≡ lists_of (readings_of bytes))
unfolding script_of
parts_of_script bytes lists e =
    parted (first_fault 1 0 (readings_of bytes)) lists (lists_of (readings_of bytes)) e

-- the list of one caller
pub list_of : (readings : List (Option Reading)) (wanted : ℕ) → wanted < length (lists_of readings)
    → get_or (lists_of readings) wanted [] ≡ commands_for wanted 0 readings
unfolding lists_of
list_of readings wanted within =
    let number = length-map-range_with_len (λ w. commands_for w 0 readings) 0 (callers_of readings) in
    get_or-map-range_with_len (λ w. commands_for w 0 readings) 0 (callers_of readings) wanted wanted []
    (omega (arith, number, within)) (omega arith)

one_line : (mine : Bool) (command : Option Cmd) (others : List Cmd)
    → cons_option (cond mine command None) others ≡ cond mine (option_to_list command) [] ++ others
one_line true None others = refl
one_line true (Some command) others = refl
one_line false command others = refl

-- the lines after some others
followed : (wanted : ℕ) (above rest all : List (Option Reading)) → all ≡ above ++ rest
    → filter_map (command_for all wanted) (enumerate_from (length above) rest)
    ≡ commands_for wanted (caller_after_lines above) rest
followed wanted above [] all e = refl
followed wanted above (reading ∷ rest) all e =
    let speaker : take (length above) all ≡ above = ap (take (length above)) e
    ∙ take_at above (reading ∷ rest) (length above) refl in
    let next = above ++ reading ∷ [] in
    let deeper : filter_map (command_for all wanted) (enumerate_from (length next) rest)
    ≡ commands_for wanted (caller_after_lines next) rest =
    followed wanted next rest all (e ∙ sym (append_assoc above (reading ∷ []) rest)) in
    let others : filter_map (command_for all wanted) (enumerate_from (length above + 1) rest)
    ≡ commands_for wanted (caller_after (caller_after_lines above) reading) rest =
    ap (λ (n : ℕ). filter_map (command_for all wanted) (enumerate_from n rest))
    (sym (length_push above reading)) ∙ deeper
    ∙ ap (λ (now : ℕ). commands_for wanted now rest) (fold_push caller_after 0 above reading) in
    ap (λ (first : List (Option Reading)).
    cons_option (cond (eqb (caller_after_lines first) wanted) (command_in reading) None)
    (filter_map (command_for all wanted) (enumerate_from (length above + 1) rest))) speaker
    ∙ one_line (eqb (caller_after_lines above) wanted) (command_in reading)
    (filter_map (command_for all wanted) (enumerate_from (length above + 1) rest))
    ∙ ap (λ (list : List Cmd). cond (eqb (caller_after_lines above) wanted)
    (option_to_list (command_in reading)) [] ++ list) others

pub lists_follow_the_lines : ListsFollowTheLines
lists_follow_the_lines bytes lists script wanted within =
    let readings = readings_of bytes in
    let same : lists ≡ lists_of readings = (parts_of_script bytes lists script).1 in
    let inside : wanted < length (lists_of readings) = omega (arith, ap length same, within) in
    ap (λ (ls : List (List Cmd)). get_or ls wanted []) same ∙ list_of readings wanted inside
    ∙ sym (followed wanted [] readings readings refl)
