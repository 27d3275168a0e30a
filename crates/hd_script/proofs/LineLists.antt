-- What further lines add to the lists so far, and which of them is the first at fault.
use Rattle.hd_script.proofs.Basics.{AreLists, Bool, Cmd, Err, IsOpened, List, MOST_COMMANDS, None, Ok, Option, Reading, Some, [], ap, append-nil, append_assoc, arith, before_first, blank, caller, callers_of, cases_eq, command, commands_for, cond, cond-false, cond-true, eq-eqb, eqb, false, fill_by_all, first_fault, get_or, get_or-set_other, get_or-set_same, is_line_end, le-ltb, length, length-set, length_push, line_after, lt-ltb, ltb, map, max, ne_eqb, nil_from_length, range_with_len, reading_of, refl, set, subst, suc, sum_by, sum_by-set, sym, true, words_of, zero, ℕ, ⊎_elim, ◌++◌, ◌+◌, ◌<◌, ◌∙◌, ◌∷◌, ◌≡◌, ◌≤◌}
use Rattle.hd_model.specs.Grammar.{lines_in, readings_of, lists_of, script_of}
use Rattle.hd_script.specs.Words.{words_at}
use Rattle.hd_script.proofs.LineSplit.{first_line, shorter}

-- the lists so far with what further lines add to them, where `now` is the caller whose commands come first
pub lists_with : ℕ → List (List Cmd) → List (Option Reading) → List (List Cmd)
lists_with now lists rest =
    map (λ wanted. get_or lists wanted [] ++ commands_for wanted now rest)
    (range_with_len 0 (max (length lists) (callers_of rest)))

-- two functions that agree map a list alike
same_map : (f g : ℕ → List Cmd) (xs : List ℕ) → ((x : ℕ) → f x ≡ g x) → map f xs ≡ map g xs
same_map f g [] e = refl
same_map f g (x ∷ xs) e = rw (e x, same_map f g xs e) refl

-- the same lists, of the same number of callers
pub same_lists_of : (f g : ℕ → List Cmd) (m n : ℕ) → m ≡ n → ((x : ℕ) → f x ≡ g x)
    → map f (range_with_len 0 m) ≡ map g (range_with_len 0 n)
same_lists_of f g m n number e = same_map f g (range_with_len 0 m) e
    ∙ ap (λ (k : ℕ). map g (range_with_len 0 k)) number

pub some_caller : (readings : List (Option Reading)) → 1 ≤ callers_of readings
some_caller [] = omega arith
some_caller (reading ∷ rest) = omega (arith, some_caller rest)

-- a line without a command adds none
pub nothing_more : (b : Bool) (list : List Cmd) → cond b [] [] ++ list ≡ list
nothing_more true list = refl
nothing_more false list = refl

nobody : (wanted : ℕ) (list : List Cmd) → get_or ([] ∷ []) wanted [] ++ list ≡ list
nobody zero list = refl
nobody (suc wanted) list = refl

pub at_start : (readings : List (Option Reading)) → lists_with 0 ([] ∷ []) readings ≡ lists_of readings
unfolding lists_with lists_of
at_start readings =
    same_lists_of (λ wanted. get_or ([] ∷ []) wanted [] ++ commands_for wanted 0 readings)
    (λ wanted. commands_for wanted 0 readings)
    (max 1 (callers_of readings)) (callers_of readings) (omega (arith, some_caller readings))
    (λ wanted. nobody wanted (commands_for wanted 0 readings))

pub at_end : (now : ℕ) (lists : List (List Cmd)) → 1 ≤ length lists → lists_with now lists [] ≡ lists
unfolding lists_with
at_end now lists some =
    sym (fill_by_all (λ wanted. get_or lists wanted [] ++ []) lists (max (length lists) 1) [] (omega arith)
    (λ wanted h. sym (append-nil (get_or lists wanted []))))

pub lists_after_blank : (now : ℕ) (lists : List (List Cmd)) (rest : List (Option Reading))
    → lists_with now lists (Some blank ∷ rest) ≡ lists_with now lists rest
unfolding lists_with
lists_after_blank now lists rest =
    same_lists_of (λ wanted. get_or lists wanted []
    ++ (cond (eqb now wanted) [] [] ++ commands_for wanted now rest))
    (λ wanted. get_or lists wanted [] ++ commands_for wanted now rest)
    (max (length lists) (max 1 (callers_of rest))) (max (length lists) (callers_of rest))
    (omega (arith, some_caller rest))
    (λ wanted. ap (λ (list : List Cmd). get_or lists wanted [] ++ list)
    (nothing_more (eqb now wanted) (commands_for wanted now rest)))

pub lists_after_caller : (now n : ℕ) (lists opened : List (List Cmd)) (rest : List (Option Reading))
    → IsOpened lists opened (n + 1) → lists_with now lists (Some (caller n) ∷ rest) ≡ lists_with n opened rest
unfolding lists_with
lists_after_caller now n lists opened rest is =
    same_lists_of (λ wanted. get_or lists wanted []
    ++ (cond (eqb now wanted) [] [] ++ commands_for wanted n rest))
    (λ wanted. get_or opened wanted [] ++ commands_for wanted n rest)
    (max (length lists) (max (n + 1) (callers_of rest))) (max (length opened) (callers_of rest))
    (omega (arith, is.number))
    (λ wanted. ap (λ (list : List Cmd). get_or lists wanted [] ++ list)
    (nothing_more (eqb now wanted) (commands_for wanted n rest))
    ∙ ap (λ (list : List Cmd). list ++ commands_for wanted n rest) (sym (is.same wanted)))

-- a command goes to the end of its caller's list
one_more : (now wanted : ℕ) (lists : List (List Cmd)) (cmd : Cmd) (more : List Cmd) → now < length lists →
    get_or lists wanted [] ++ (cond (eqb now wanted) (cmd ∷ []) [] ++ more)
    ≡ get_or (set lists now (get_or lists now [] ++ cmd ∷ [])) wanted [] ++ more
one_more now wanted lists cmd more within =
    ⊎_elim
    (λ e. subst (λ (k : ℕ). get_or lists k [] ++ (cond (eqb now k) (cmd ∷ []) [] ++ more)
    ≡ get_or (set lists now (get_or lists now [] ++ cmd ∷ [])) k [] ++ more) {x = now} {y = wanted} e
    (rw (
      cond-true (eqb now now) (cmd ∷ []) [] (eq-eqb now now refl),
      get_or-set_same lists now (get_or lists now [] ++ cmd ∷ []) [] within,
    )
    (sym (append_assoc (get_or lists now []) (cmd ∷ []) more))))
    (λ other. rw (
      cond-false (eqb now wanted) (cmd ∷ []) [] (ne_eqb now wanted other),
      get_or-set_other lists now wanted (get_or lists now [] ++ cmd ∷ []) [] (λ e. other (sym e)),
    ) refl)
    (cases_eq now wanted)

pub lists_after_command : (now : ℕ) (lists : List (List Cmd)) (cmd : Cmd) (rest : List (Option Reading))
    → now < length lists → lists_with now lists (Some (command cmd) ∷ rest)
    ≡ lists_with now (set lists now (get_or lists now [] ++ cmd ∷ [])) rest
unfolding lists_with
lists_after_command now lists cmd rest within =
    let more = set lists now (get_or lists now [] ++ cmd ∷ []) in
    same_lists_of (λ wanted. get_or lists wanted []
    ++ (cond (eqb now wanted) (cmd ∷ []) [] ++ commands_for wanted now rest))
    (λ wanted. get_or more wanted [] ++ commands_for wanted now rest)
    (max (length lists) (max 1 (callers_of rest))) (max (length more) (callers_of rest))
    (omega (arith, some_caller rest, length-set lists now (get_or lists now [] ++ cmd ∷ [])))
    (λ wanted. one_more now wanted lists cmd (commands_for wanted now rest) within)

-- ---- the readings of the bytes

pub first_reading : (bytes line rest : List ℕ) → lines_in bytes ≡ line ∷ lines_in rest
    → readings_of bytes ≡ reading_of (words_of line) ∷ readings_of rest
unfolding readings_of
first_reading bytes line rest e = ap (map (λ (line : List ℕ). reading_of (words_of line))) e

pub no_reading : readings_of [] ≡ []
unfolding readings_of lines_in
no_reading = refl

pub is_script : (bytes : List ℕ) → first_fault 1 0 (readings_of bytes) ≡ None
    → script_of bytes ≡ Ok (lists_of (readings_of bytes))
unfolding script_of
is_script bytes e = rw e refl

pub is_fault : (bytes : List ℕ) (line : ℕ) → first_fault 1 0 (readings_of bytes) ≡ Some line
    → script_of bytes ≡ Err line
unfolding script_of
is_fault bytes line e = rw e refl

pub fault_after : (line before : ℕ) (cmd : Cmd) (rest : List (Option Reading)) → before < MOST_COMMANDS
    → first_fault line before (Some (command cmd) ∷ rest) ≡ first_fault (line + 1) (before + 1) rest
fault_after line before cmd rest few =
    cond-true (ltb before MOST_COMMANDS) (first_fault (line + 1) (before + 1) rest) (Some line)
    (lt-ltb before MOST_COMMANDS few)

pub fault_here : (line before : ℕ) (cmd : Cmd) (rest : List (Option Reading)) → MOST_COMMANDS ≤ before
    → first_fault line before (Some (command cmd) ∷ rest) ≡ Some line
fault_here line before cmd rest many =
    cond-false (ltb before MOST_COMMANDS) (first_fault (line + 1) (before + 1) rest) (Some line)
    (le-ltb before MOST_COMMANDS many)

-- ---- while lines are left

-- the lists so far, with the lines that are left, give what the bytes give
pub record Follows (bytes : List ℕ) (lists : List (List Cmd)) (now number : ℕ) (rest : List ℕ) : Type 0 where
  pub right : AreLists lists
  pub faults : first_fault (number + 1) (sum_by length lists) (readings_of rest)
      ≡ first_fault 1 0 (readings_of bytes)
  pub adds : lists_with now lists (readings_of rest) ≡ lists_of (readings_of bytes)
  pub caller : now < length lists
  pub room : number + length rest ≤ length bytes

pub begun : (bytes : List ℕ) (lists : List (List Cmd)) → lists ≡ [] ∷ [] → AreLists lists
    → Follows bytes lists 0 0 bytes
begun bytes lists e right = record {
  right = right;
  faults = rw e refl;
  adds = rw e (at_start (readings_of bytes));
  caller = omega (arith, right.least);
  room = omega arith;
}

pub finished : (bytes : List ℕ) (lists : List (List Cmd)) (now number : ℕ) (rest : List ℕ) → length rest ≡ 0
    → Follows bytes lists now number rest → script_of bytes ≡ Ok lists
finished bytes lists now number rest empty follows =
    let none : readings_of rest ≡ [] = ap readings_of (nil_from_length rest empty) ∙ no_reading in
    let no_fault : first_fault 1 0 (readings_of bytes) ≡ None = sym follows.faults
    ∙ ap (first_fault (number + 1) (sum_by length lists)) none in
    let whole : lists_of (readings_of bytes) ≡ lists = sym follows.adds ∙ ap (lists_with now lists) none
    ∙ at_end now lists follows.right.least in
    is_script bytes no_fault ∙ ap Ok whole

module _ {bytes : List ℕ} {lists : List (List Cmd)} {now number : ℕ} {rest : List ℕ} (after : List ℕ)
    (follows : Follows bytes lists now number rest) (some : 0 < length rest)
    (e : after ≡ line_after rest) where
  -- the readings of what is left are that of the line, and then those of the rest
  said_first : (reading : Option Reading) → reading ≡ reading_of (words_at rest)
      → readings_of rest ≡ reading ∷ readings_of after
  unfolding words_at
  said_first reading said =
      let line = before_first is_line_end rest in
      first_reading rest line after (first_line rest some ∙ ap (λ (r : List ℕ). line ∷ lines_in r) (sym e))
      ∙ ap (λ (r : Option Reading). r ∷ readings_of after) (sym said)

  pub fewer : length after < length rest
  fewer = omega (arith, ap length e, shorter rest some)

  left : number + 1 + length after ≤ length bytes
  left = omega (arith, follows.room, fewer)

  pub unreadable : None ≡ reading_of (words_at rest) → script_of bytes ≡ Err (number + 1)
  unreadable said = is_fault bytes (number + 1)
      (sym follows.faults ∙ ap (first_fault (number + 1) (sum_by length lists)) (said_first None said))

  pub one_too_many : (cmd : Cmd) → Some (command cmd) ≡ reading_of (words_at rest)
      → MOST_COMMANDS ≤ sum_by length lists → script_of bytes ≡ Err (number + 1)
  one_too_many cmd said many =
      is_fault bytes (number + 1) (sym follows.faults
      ∙ ap (first_fault (number + 1) (sum_by length lists)) (said_first (Some (command cmd)) said)
      ∙ fault_here (number + 1) (sum_by length lists) cmd (readings_of after) many)

  pub after_blank : Some blank ≡ reading_of (words_at rest) → Follows bytes lists now (number + 1) after
  after_blank said =
      let first = said_first (Some blank) said in
      record {
        right = follows.right;
        faults = sym (ap (first_fault (number + 1) (sum_by length lists)) first) ∙ follows.faults;
        adds = sym (lists_after_blank now lists (readings_of after))
            ∙ sym (ap (lists_with now lists) first) ∙ follows.adds;
        caller = follows.caller;
        room = left;
      }

  pub after_caller : (n : ℕ) (opened : List (List Cmd)) → Some (caller n) ≡ reading_of (words_at rest)
      → AreLists opened → sum_by length opened ≡ sum_by length lists → IsOpened lists opened (n + 1)
      → Follows bytes opened n (number + 1) after
  after_caller n opened said right total is =
      let first = said_first (Some (caller n)) said in
      record {
        right = right;
        faults = rw total (sym (ap (first_fault (number + 1) (sum_by length lists)) first)
            ∙ follows.faults);
        adds = sym (lists_after_caller now n lists opened (readings_of after) is)
            ∙ sym (ap (lists_with now lists) first) ∙ follows.adds;
        caller = omega (arith, is.number);
        room = left;
      }

  pub after_command : (cmd : Cmd) (added : List (List Cmd))
      → Some (command cmd) ≡ reading_of (words_at rest) → AreLists added
      → added ≡ set lists now (get_or lists now [] ++ cmd ∷ []) → sum_by length lists < MOST_COMMANDS
      → Follows bytes added now (number + 1) after
  after_command cmd added said right added_is few =
      let first = said_first (Some (command cmd)) said in
      let longer = get_or lists now [] ++ cmd ∷ [] in
      let total : sum_by length added ≡ sum_by length lists + 1 =
      (let known = sum_by-set length lists now longer [] follows.caller in
      omega (arith, ap (sum_by length) added_is, known, length_push (get_or lists now []) cmd)) in
      record {
        right = right;
        faults = rw total (sym (fault_after (number + 1) (sum_by length lists) cmd (readings_of after) few)
            ∙ sym (ap (first_fault (number + 1) (sum_by length lists)) first) ∙ follows.faults);
        adds = ap (λ (ls : List (List Cmd)). lists_with now ls (readings_of after)) added_is
            ∙ sym (lists_after_command now lists cmd (readings_of after) follows.caller)
            ∙ sym (ap (lists_with now lists) first) ∙ follows.adds;
        caller = omega (arith, ap length added_is, length-set lists now longer, follows.caller);
        room = left;
      }
