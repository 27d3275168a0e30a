-- One line: it is that of no next entry, or it is the full line of the one that may be.
use Rattle.std.proofs.Common.{Bool, List, None, Some, [], ap, arith, cond, eqb-true, false, get_or, if◌then◌else◌, length, refl, set, slice_get, subst, sym, true, ℕ, ◌++◌, ◌+◌, ◌-◌, ◌<◌, ◌==◌, ◌∙◌, ◌∷◌, ◌≡◌}
use Rattle.std.specs.FinMap.{len}
use Rattle.std.specs.Prelude.{bytes_eq}
use Rattle.std.proofs.lemmas.Bool.{true≢false}
use Rattle.std.proofs.lemmas.List.{get_or_read}
use Rattle.std.proofs.lemmas.Option.{none-some, same_Some}
use Rattle.std.proofs.lemmas.Slice.Eq.{bytes_eq-Decides}
use Rattle.hd_model.specs.declared.command.Cmd.{Cmd}
use Rattle.hd_model.specs.declared.data.Entry.{Entry}
use Rattle.hd_model.specs.FullText.{full_line}
use Rattle.hd_model.specs.Grammar.{is_line_end}
use Rattle.hd_model.specs.RunTexts.{AreRight, IsNoRun, IsRunText, cut_lines, list_of, onto_line}
use Rattle.hd_model.specs.State.{Numbers, State}
use Rattle.hd_model.specs.Step.{Step}
use Rattle.hd_model.specs.Text.{end_text, is_collect}
use Rattle.hd_plain.specs.declared.choice.Choice.{Choice}
use Rattle.hd_audit.specs.Inside.{IsJudged}
use Rattle.hd_plain.specs.ChosenSteps.{HasChoice}
use Rattle.hd_plain.specs.Choice.{choice_in}
use Rattle.hd_audit.proofs.JudgedLines.{NextEntry, judged_more, next_entry}
use Rattle.hd_audit.proofs.LineVerdicts.{line_after, run_text, wrong_end}

-- the number of a caller's next entry, by a count that was read
pub number_read : {n : Numbers} {lists : List (List Cmd)} {s : State} {done : List ℕ} {left collections : ℕ}
    {lines : List (List ℕ)} → IsJudged n lists s done left collections lines → (c : ℕ) → c < length lists
    → (count : ℕ) → count ≡ get_or done c count → count + 1 ≡ get_or done c 0 + 1
number_read {done = done} j c small count read =
    ap (λ k. k + 1) (get_or_read done c count (omega (arith, small, j.each_done, j.callers)) read 0)

module _ {n : Numbers} {lists : List (List Cmd)} {s : State} {done : List ℕ} {left collections : ℕ}
    {lines : List (List ℕ)} (j : IsJudged n lists s done left collections lines) (line : List ℕ)
    (choice : Choice) (is_choice : choice ≡ choice_in line) where
  module _ (some : 0 < left) (right : AreRight n lists (lines ++ line ∷ [])) where
    next : NextEntry n lists s done line
    next = next_entry j line some right

    chosen : HasChoice next.entry choice
    chosen = subst (HasChoice next.entry) (sym is_choice) next.chosen

    -- it is that of the next command of the caller that it states
    command_there : slice_get (list_of lists choice.caller) (get_or done choice.caller 0) ≡ Some
        next.entry.cmd
    command_there =
        ap (λ c. slice_get (list_of lists c) (get_or done c 0)) chosen.caller ∙ next.is_next

    pub no_command : slice_get (list_of lists choice.caller) (get_or done choice.caller 0) ≡ None → ⊥
    no_command none = none-some next.entry.cmd (sym none ∙ command_there)

    module _ (cmd : Cmd) (is : slice_get (list_of lists choice.caller) (get_or done choice.caller 0) ≡ Some
        cmd)
      where
        same_command : next.entry.cmd ≡ cmd
        same_command = same_Some next.entry.cmd cmd (sym command_there ∙ is)

        pub no_step : ((e : Entry) (t : State) → Step n s e t → e.caller ≡ choice.caller → e.cmd ≡ cmd
            → HasChoice e choice → ⊥) → ⊥
        no_step none = none next.entry next.after next.step (sym chosen.caller) same_command chosen

        pub other_line : (entry : Entry) → ((e : Entry) (t : State) → Step n s e t → e.caller ≡ choice.caller
            → e.cmd ≡ cmd → HasChoice e choice → e ≡ entry)
            → (line ≡ full_line entry (get_or done choice.caller 0 + 1) → ⊥) → ⊥
        other_line entry only differs =
            let same = only next.entry next.after next.step (sym chosen.caller) same_command chosen in
            differs (next.is_line
            ∙ (λ i. full_line (same i) (get_or done (sym chosen.caller i) 0 + 1)))

  -- the line of the step that is taken
  pub one_more : (cmd : Cmd) → slice_get (list_of lists choice.caller) (get_or done choice.caller 0) ≡ Some
      cmd
      → (entry : Entry) (t : State) → Step n s entry t → entry.caller ≡ choice.caller → entry.cmd ≡ cmd
      → (number : ℕ) → number ≡ get_or done choice.caller 0 + 1 → line ≡ full_line entry number → 0 < left
      → (counted : ℕ) → counted ≡ (if is_collect cmd then 1 else 0)
      → IsJudged n lists t (set done choice.caller number) (left - 1) (collections + counted)
      (lines ++ line ∷ [])
  one_more cmd is entry t step caller command number is_number is_line some counted is_counted =
      subst (λ d. IsJudged n lists t d (left - 1) (collections + counted) (lines ++ line ∷ []))
      (λ i. set done (caller i) (its_number i))
      (judged_more j entry t line step
      (ap (λ c. slice_get (list_of lists c) (get_or done c 0)) caller ∙ is ∙ ap Some (sym command))
      (is_line ∙ ap (full_line entry) (sym its_number)) (left - 1) (collections + counted) (omega arith)
      (ap (λ k. collections + k) (is_counted ∙ ap (λ c. cond (is_collect c) 1 0) (sym command))))
    where
      its_number : get_or done entry.caller 0 + 1 ≡ number
      its_number = ap (λ c. get_or done c 0 + 1) caller ∙ sym is_number

-- bytes have a line
some_line : (t : Bool) (b : ℕ) (lines : List (List ℕ))
    → cond t ((b ∷ []) ∷ lines) (onto_line b lines) ≡ [] → ⊥
some_line true b lines is = absurd (omega (arith, ap (λ (l : List (List ℕ)). length l) is))
some_line false b [] is = absurd (omega (arith, ap (λ (l : List (List ℕ)). length l) is))
some_line false b (line ∷ lines) is = absurd (omega (arith, ap (λ (l : List (List ℕ)). length l) is))

no_cut : (xs : List ℕ) → (length xs == 0) ≡ false → cut_lines xs ≡ [] → ⊥
no_cut [] e is = true≢false e
no_cut (x ∷ xs) e is = some_line (is_line_end x) x (cut_lines xs) is

-- after the last line of an entry
module _ {n : Numbers} {lists : List (List Cmd)} {s : State} {done : List ℕ} {left collections : ℕ}
    {lines : List (List ℕ)} (j : IsJudged n lists s done left collections lines) (bytes rest : List ℕ)
    (cut : cut_lines bytes ≡ lines ++ cut_lines rest) (none : left ≡ 0) (count : ℕ)
    (counted : length lines ≡ count) (line after : List ℕ) (next : cut_lines rest ≡ line ∷ cut_lines after)
    (handles objects : ℕ)
    (all_handles : handles ≡ len s.handles) (all_objects : objects ≡ len s.objects) (printed : List ℕ)
    (is_printed : printed ≡ end_text handles objects collections) (result : Bool)
    (decided : result ≡ bytes_eq printed line) where
  end_is : printed ≡ end_text (len s.handles) (len s.objects) collections
  end_is = is_printed ∙ (λ i. end_text (all_handles i) (all_objects i) collections)

  pub not_the_end : result ≡ false → IsNoRun n lists bytes (count + 1)
  not_the_end differs =
      subst (λ k. IsNoRun n lists bytes (k + 1)) counted
      (wrong_end j bytes rest cut none line (cut_lines after) next
      (λ is. true≢false (sym ((bytes_eq-Decides printed line).1 (end_is ∙ sym is)) ∙ sym decided ∙ differs)))

  module _ (same : result ≡ true) where
    line_is : line ≡ end_text (len s.handles) (len s.objects) collections
    line_is = sym ((bytes_eq-Decides printed line).0 (sym decided ∙ same)) ∙ end_is

    pub the_end : (length after == 0) ≡ true → IsRunText n lists bytes
    the_end empty = run_text j bytes rest cut none line (cut_lines after) next line_is (no_lines after empty)
      where
        no_lines : (xs : List ℕ) → (length xs == 0) ≡ true → cut_lines xs ≡ []
        no_lines [] e = refl
        no_lines (x ∷ xs) e = let zero = eqb-true (length (x ∷ xs)) 0 e in absurd (omega (arith, zero))

    pub past_the_end : (length after == 0) ≡ false → IsNoRun n lists bytes (count + 2)
    past_the_end more =
        subst (λ k. IsNoRun n lists bytes (k + 2)) counted (by (cut_lines after) refl)
      where
        by : (others : List (List ℕ)) → cut_lines after ≡ others → IsNoRun n lists bytes (length lines + 2)
        by [] is = absurd (no_cut after more is)
        by (other ∷ others) is =
            line_after j bytes rest cut none line (cut_lines after) next line_is other others is
