-- What was judged so far, and one line more.
use Rattle.std.proofs.Common.{List, Some, [], ap, arith, cond, drop, get_or, get_or-set_other, get_or-set_same, length, length-append, length-set, refl, replicate, set, slice_get, subst, suc, sum_by, sym, ℕ, ⊎_elim, ◌++◌, ◌+◌, ◌<◌, ◌==◌, ◌^◌, ◌∙◌, ◌∷◌, ◌≡◌, ◌≤◌, ◌≢◌}
use Rattle.std.proofs.lemmas.Bool.{cases_eq, cases_lt, eq-eqb, ne_eqb}
use Rattle.std.proofs.lemmas.List.{append_cancel_left, get_or_past, length-map, length-replicate}
use Rattle.std.proofs.lemmas.List.Sums.{count_by-le-length, get_or-le-sum_by, length-filter, sum_by-cons, sum_by-set, sum_by_push}
use Rattle.std.proofs.lemmas.Option.{none-some, same_Some}
use Rattle.std.specs.FinMap.{len}
use Rattle.hd_model.specs.declared.command.Cmd.{Cmd}
use Rattle.hd_model.specs.declared.data.Entry.{Entry}
use Rattle.hd_model.specs.declared.data.Id.{Id}
use Rattle.hd_model.specs.declared.data.Slot.{Slot}
use Rattle.hd_model.specs.FullText.{end_of, full_line}
use Rattle.hd_model.specs.Grammar.{AreLists}
use Rattle.hd_model.specs.RunTexts.{AreRight, IsWhole, at_the_end, list_of, so_far}
use Rattle.hd_model.specs.Laws.{makes_object}
use Rattle.hd_model.specs.Run.{commands_of, part_of, stay}
use Rattle.hd_model.specs.State.{Handle, Numbers, State, count_of, handle_at, last_serial, start_of}
use Rattle.hd_model.specs.Step.{Step}
use Rattle.hd_model.specs.Text.{end_text, is_collect, numbered_after}
use Rattle.hd_model.specs.UserLaws.{HasPinnedApart}
use Rattle.hd_model.specs.WellFormed.{IsWellFormed}
use Rattle.hd_model.proofs.{AddressesApart.pinned_objects_do_not_overlap, ReadAfterWrite.replicate_cases, RunCounts.objects_are_made_less_removed, Serials.count-le, Serials.last_serial-le, WellFormedSteps.run_is_well_formed}
use Rattle.hd_print.proofs.JudgedRuns.{IsNextLine, goes_on, lines_more, next_line, next_number, of_end, of_entry}
use Rattle.hd_audit.specs.Inside.{IsJudged}
use Rattle.hd_audit.specs.SoFar.{entries_of}
use Rattle.hd_plain.specs.ChosenSteps.{HasChoice}
use Rattle.hd_plain.specs.Choice.{choice_in}
use Rattle.hd_audit.proofs.StepNumbers.{step_low}
use Rattle.hd_audit.proofs.ChoiceLines.{line_has_choice}
use Rattle.hd_model.specs.declared.limits.TheConstants.{BLOCKS, CALLERS, MOST_COMMANDS}

-- what is left of a list begins with the command after those that were taken
after_taken : (xs ys : List Cmd) (c : Cmd) → slice_get (xs ++ ys) (length xs) ≡ Some c → ys ≡ c ∷ drop 1 ys
after_taken [] [] c is = absurd (none-some c is)
after_taken [] (y ∷ ys) c is = let same = same_Some y c is in λ i. same i ∷ ys
after_taken (x ∷ xs) ys c is = after_taken xs ys c is

-- and that command is the next
taken_before : (xs ys : List Cmd) (c : Cmd) → slice_get (xs ++ c ∷ ys) (length xs) ≡ Some c
taken_before [] ys c = refl
taken_before (x ∷ xs) ys c = taken_before xs ys c

length_lines : (make : Entry → ℕ → List ℕ) (before es : List Entry)
    → length (numbered_after make before es) ≡ length es
length_lines make before [] = refl
length_lines make before (e ∷ es) = ap suc (length_lines make (before ++ e ∷ []) es)

empty_list : (list : List Cmd) → length list ≡ 0 → list ≡ []
empty_list [] none = refl
empty_list (c ∷ list) none = absurd (omega (arith, none))

all_empty : (xs : List (List Cmd)) → ((c : ℕ) → list_of xs c ≡ [])
    → sum_by (λ (list : List Cmd). length list) xs ≡ 0
all_empty [] each = refl
all_empty (x ∷ xs) each =
    let first = ap (λ (l : List Cmd). length l) (each 0) in
    let others = all_empty xs (λ c. each (suc c)) in
    sum_by-cons (λ (list : List Cmd). length list) x xs ∙ omega (arith, first, others)

-- the next entry of its caller, of which a line is
pub record NextEntry (n : Numbers) (lists : List (List Cmd)) (s : State) (done line : List ℕ) : Type 0 where
  pub entry : Entry
  pub after : State
  pub step : Step n s entry after
  pub is_next : slice_get (list_of lists entry.caller) (get_or done entry.caller 0) ≡ Some entry.cmd
  pub is_line : line ≡ full_line entry (get_or done entry.caller 0 + 1)
  pub chosen : HasChoice entry (choice_in line)

module _ (n : Numbers) (lists : List (List Cmd)) (callers : n.callers ≡ length lists)
    (few_callers : n.callers ≤ CALLERS) (few_blocks : n.blocks ≤ BLOCKS)
    (total : sum_by (λ (list : List Cmd). length list) lists ≤ MOST_COMMANDS) where
  -- nothing is judged yet
  judged_none : (left : ℕ) → left ≡ sum_by (λ (list : List Cmd). length list) lists
      → IsJudged n lists (start_of n) (replicate n.callers 0) left 0 []
  judged_none left is = record {
    journal = [];
    rest = lists;
    along = record { run = stay; parts = λ c. refl };
    lines_are = refl;
    callers = callers;
    few_callers = few_callers;
    few_blocks = few_blocks;
    each_rest = sym callers;
    each_done = length-replicate n.callers 0;
    counts = λ c small. replicate_cases (λ k. k ≡ 0) n.callers c 0 0 refl refl;
    left_is = is;
    few = omega (arith, is, total);
    collected = refl;
  }

-- as a judge begins
pub judged_open : (n : Numbers) (lists : List (List Cmd)) (heap blocks callers : ℕ)
    → n ≡ record { heap = heap; blocks = blocks; callers = callers } → callers ≡ length lists → AreLists lists
    → blocks ≤ BLOCKS → (s : State) → s ≡ start_of n → (done : List ℕ) → done ≡ replicate callers 0
    → (left : ℕ)
    → left ≡ sum_by (λ (list : List Cmd). length list) lists → IsJudged n lists s done left 0 []
judged_open n lists heap blocks callers is each right few s start done none left total =
    let same : n.callers ≡ callers = ap (λ (x : Numbers). x.callers) is in
    let within : n.blocks ≡ blocks = ap (λ (x : Numbers). x.blocks) is in
    let most = right.most in
    subst (λ t. IsJudged n lists t done left 0 []) (sym start)
    (subst (λ d. IsJudged n lists (start_of n) d left 0 []) (ap (λ k. replicate k 0) same ∙ sym none)
    (judged_none n lists (same ∙ each) (omega (arith, same, each, most)) (omega (arith, within, few))
    right.total left total))

module _ {n : Numbers} {lists : List (List Cmd)} {s : State} {done : List ℕ} {left collections : ℕ}
    {lines : List (List ℕ)} (j : IsJudged n lists s done left collections lines) where
  pub well_formed : IsWellFormed n s
  well_formed = run_is_well_formed n j.journal s j.along.run

  pub addresses_apart : HasPinnedApart s
  addresses_apart = pinned_objects_do_not_overlap n j.journal s j.along.run

  pub serial_fits : (c : ℕ) → last_serial s c + 1 < 2 ^ 32
  serial_fits c = let low = last_serial-le n j.journal s c j.along.run in omega (arith, low, j.few)

  pub count_fits : (slot : Slot) (handle : Handle Id) → handle_at s slot ≡ Some handle
      → count_of handle.extra + 1 < 2 ^ 32
  count_fits slot handle is =
      let low = count-le n j.journal s slot handle j.along.run is in omega (arith, low, j.few)

  pub objects_fit : len s.objects < 2 ^ 32
  objects_fit =
      let made = objects_are_made_less_removed n j.journal s j.along.run in
      let few = count_by-le-length (λ (e : Entry). makes_object e.cmd e.reply) j.journal in
      omega (arith, made, few, j.few)

  pub lines_fit : length lines + left ≤ MOST_COMMANDS
  lines_fit =
      let same = ap (λ (l : List (List ℕ)). length l) j.lines_are ∙ length_lines full_line [] j.journal in
      omega (arith, same, j.few)

  -- as many commands of a caller were taken as it has entries
  taken_count : (c : ℕ) → c < n.callers → length (commands_of (part_of j.journal c)) ≡ get_or done c 0
  taken_count c small =
      length-map (part_of j.journal c) (λ (e : Entry). e.cmd)
      ∙ length-filter (λ (e : Entry). e.caller == c) j.journal ∙ sym (j.counts c small)

  -- the next command of a caller is the first that it has left
  pub next_left : (c : ℕ) (cmd : Cmd) → c < n.callers
      → slice_get (list_of lists c) (get_or done c 0) ≡ Some cmd
      → list_of j.rest c ≡ cmd ∷ drop 1 (list_of j.rest c)
  next_left c cmd small is =
      after_taken (commands_of (part_of j.journal c)) (list_of j.rest c) cmd
      ((λ i. slice_get (sym (j.along.parts c) i) (taken_count c small i)) ∙ is)

  number_is : (c : ℕ) → c < n.callers → next_number c j.journal ≡ get_or done c 0 + 1
  number_is c small = ap (λ k. k + 1) (sym (j.counts c small))

  -- where nothing is left, no caller has a command left
  pub left_of : left ≡ 0 → (c : ℕ) → list_of j.rest c ≡ []
  left_of none c = ⊎_elim (λ small.
      let low = get_or-le-sum_by (λ (list : List Cmd). length list) j.rest c [] small in
      empty_list (list_of j.rest c) (omega (arith, low, none, j.left_is)))
      (λ past. get_or_past j.rest c [] past) (cases_lt c (length j.rest))

  pub whole : left ≡ 0 → IsWhole n lists j.journal s
  whole none = record {
    run = j.along.run;
    parts = λ c. j.along.parts c
        ∙ ap (λ (l : List Cmd). commands_of (part_of j.journal c) ++ l) (left_of none c);
  }

  -- and where the run is whole, nothing is left
  none_left : IsWhole n lists j.journal s → left ≡ 0
  none_left all = j.left_is ∙ all_empty j.rest (λ c. append_cancel_left (commands_of (part_of j.journal c))
      (list_of j.rest c) [] (sym (j.along.parts c) ∙ all.parts c))

  next_is : (line : List ℕ) → AreRight n lists (lines ++ line ∷ []) → IsNextLine n lists j.journal s line
  next_is line right =
      let callers = j.few_callers in
      let blocks = j.few_blocks in
      next_line line (omega (arith, callers)) (omega (arith, blocks)) j.along
      (subst (λ l. AreRight n lists (l ++ line ∷ [])) j.lines_are right)

  -- while something is left, a line that is right is that of the next entry of its caller
  pub next_entry : (line : List ℕ) → 0 < left → AreRight n lists (lines ++ line ∷ [])
      → NextEntry n lists s done line
  next_entry line some right = by (next_is line right)
    where
      by : IsNextLine n lists j.journal s line → NextEntry n lists s done line
      by (of_entry {e = e} {t = t} rest step parts is) =
          let number = number_is e.caller step.caller in
          let its_line : line ≡ full_line e (get_or done e.caller 0 + 1) = is ∙ ap (full_line e) number in
          record {
            entry = e;
            after = t;
            step = step;
            is_next = (λ i. slice_get (parts i) (sym (taken_count e.caller step.caller) i))
                ∙ taken_before (commands_of (part_of j.journal e.caller)) rest e.cmd;
            is_line = its_line;
            chosen = subst (λ l. HasChoice e (choice_in l)) (sym its_line)
                (line_has_choice e (get_or done e.caller 0 + 1)
                (step_low n s well_formed j.few_blocks addresses_apart e t j.few_callers step));
          }
      by (of_end all is) = let zero = none_left all in absurd (omega (arith, zero, some))

  -- once nothing is left, a line that is right is the end line
  pub end_only : (line : List ℕ) → left ≡ 0 → AreRight n lists (lines ++ line ∷ [])
      → line ≡ end_text (len s.handles) (len s.objects) collections
  end_only line none right = by (next_is line right)
    where
      by : IsNextLine n lists j.journal s line → line ≡ end_text (len s.handles) (len s.objects) collections
      by (of_entry {e = e} rest step parts is) =
          let nothing = append_cancel_left (commands_of (part_of j.journal e.caller)) (e.cmd ∷ rest) []
          (sym parts ∙ (whole none).parts e.caller) in
          absurd (omega (arith, ap (λ (l : List Cmd). length l) nothing))
      by (of_end all is) = is ∙ ap (end_text (len s.handles) (len s.objects)) (sym j.collected)

  pub ends_right : (line : List ℕ) → left ≡ 0 → line ≡ end_text (len s.handles) (len s.objects) collections
      → AreRight n lists (lines ++ line ∷ [])
  ends_right line none is =
      let last : line ≡ end_of j.journal s = is ∙ ap (end_text (len s.handles) (len s.objects)) j.collected in
      subst (λ l. AreRight n lists l) (λ i. sym j.lines_are i ++ sym last i ∷ []) (at_the_end (whole none))

  pub right_so_far : AreRight n lists lines
  right_so_far = subst (λ l. AreRight n lists l) (sym j.lines_are) (so_far j.along)

  -- with the full line of the next entry it is one line more
  pub judged_more : (e : Entry) (t : State) (line : List ℕ) → Step n s e t
      → slice_get (list_of lists e.caller) (get_or done e.caller 0) ≡ Some e.cmd
      → line ≡ full_line e (get_or done e.caller 0 + 1) → (fewer more : ℕ) → left ≡ fewer + 1
      → more ≡ collections + cond (is_collect e.cmd) 1 0
      → IsJudged n lists t (set done e.caller (get_or done e.caller 0 + 1)) fewer more (lines ++ line ∷ [])
  judged_more e t line step next is fewer more one_less counted = record {
    journal = j.journal ++ e ∷ [];
    rest = others;
    along = goes_on j.along step here (λ c other. sym (get_or-set_other j.rest e.caller c tail [] other));
    lines_are = (λ i. j.lines_are i ++ its_line i ∷ []) ∙ sym (lines_more j.journal e);
    callers = j.callers;
    few_callers = j.few_callers;
    few_blocks = j.few_blocks;
    each_rest = length-set j.rest e.caller tail ∙ j.each_rest;
    each_done = length-set done e.caller (get_or done e.caller 0 + 1) ∙ j.each_done;
    counts = counts_more;
    left_is = left_less;
    few = omega (arith, length-append j.journal (e ∷ []), j.few, one_less);
    collected = counted ∙ ap (λ k. k + cond (is_collect e.cmd) 1 0) j.collected
        ∙ sym (sum_by_push (λ (o : Entry). cond (is_collect o.cmd) 1 0) j.journal e);
  }
    where
      tail : List Cmd
      tail = drop 1 (list_of j.rest e.caller)

      others : List (List Cmd)
      others = set j.rest e.caller tail

      within : e.caller < length j.rest
      within = let known = step.caller in omega (arith, known, j.each_rest)

      left_here : list_of j.rest e.caller ≡ e.cmd ∷ tail
      left_here = next_left e.caller e.cmd step.caller next

      here : list_of j.rest e.caller ≡ e.cmd ∷ list_of others e.caller
      here = left_here
          ∙ ap (λ (l : List Cmd). e.cmd ∷ l) (sym (get_or-set_same j.rest e.caller tail [] within))

      its_line : line ≡ full_line e (next_number e.caller j.journal)
      its_line = is ∙ ap (full_line e) (sym (number_is e.caller step.caller))

      left_less : fewer ≡ sum_by (λ (list : List Cmd). length list) others
      left_less =
          let moved = sum_by-set (λ (list : List Cmd). length list) j.rest e.caller tail [] within in
          let one = ap (λ (l : List Cmd). length l) left_here in
          omega (arith, moved, one, one_less, j.left_is)

      counts_more : (c : ℕ) → c < n.callers
          → get_or (set done e.caller (get_or done e.caller 0 + 1)) c 0 ≡ entries_of c (j.journal ++ e ∷ [])
      counts_more c small =
          let pushed = sum_by_push (λ (o : Entry). cond (o.caller == c) 1 0) j.journal e in
          ⊎_elim (λ (same : c ≡ e.caller).
          let now : get_or (set done e.caller (get_or done e.caller 0 + 1)) c 0 ≡ get_or done e.caller 0 + 1 =
          ap (λ k. get_or (set done e.caller (get_or done e.caller 0 + 1)) k 0) same
          ∙ get_or-set_same done e.caller (get_or done e.caller 0 + 1) 0
          (let known = step.caller in omega (arith, known, j.each_done)) in
          let one : ◌≡◌ {A = ℕ} (cond (e.caller == c) 1 0) 1 =
          ap (λ b. cond b 1 0) (eq-eqb e.caller c (sym same)) in
          let before = j.counts c small in
          let alike : get_or done c 0 ≡ get_or done e.caller 0 = ap (λ k. get_or done k 0) same in
          omega (arith, now, one, pushed, before, alike))
          (λ (other : c ≢ e.caller).
          let now = get_or-set_other done e.caller c (get_or done e.caller 0 + 1) 0 other in
          let none : ◌≡◌ {A = ℕ} (cond (e.caller == c) 1 0) 0 =
          ap (λ b. cond b 1 0) (ne_eqb e.caller c (λ e. other (sym e))) in
          omega (arith, now, none, pushed, j.counts c small)) (cases_eq c e.caller)
