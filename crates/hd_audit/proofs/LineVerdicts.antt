-- Verdicts on a text by the lines that were judged.
use Rattle.std.proofs.Common.{Bool, List, [], ap, append-nil, append_assoc, arith, drop, get_or, length, length-append, refl, subst, sym, take, true, ℕ, ◌++◌, ◌+◌, ◌==◌, ◌||◌, ◌∙◌, ◌∷◌, ◌≡◌}
use Rattle.std.specs.Prelude.{decimal}
use Rattle.std.specs.Char.{is_ascii_digit}
use Rattle.std.specs.FinMap.{len}
use Rattle.std.specs.List.{concat, list_all}
use Rattle.std.proofs.lemmas.Bool.{and_parts, or_left, true≢false}
use Rattle.std.proofs.lemmas.List.{same_from_push}
use Rattle.std.proofs.lemmas.List.Folds.{concat-append}
use Rattle.hd_model.specs.declared.command.Cmd.{Cmd}
use Rattle.hd_model.specs.declared.data.Entry.{Entry}
use Rattle.hd_model.specs.FullText.{end_of, full_line, full_lines}
use Rattle.hd_model.specs.RunTexts.{AreRight, IsNoRun, IsRunText, at_the_end, cut_lines, missing, so_far, wrong}
use Rattle.hd_model.specs.State.{Numbers, State}
use Rattle.hd_model.specs.Text.{end_text, numbered_after}
use Rattle.hd_print.proofs.JudgedRuns.{next_number}
use Rattle.hd_audit.specs.Inside.{IsJudged}
use Rattle.hd_audit.proofs.JudgedLines.{end_only, ends_right, right_so_far, whole}
use Rattle.hd_audit.proofs.LineCuts.{lines_again}
use Rattle.hd_audit.proofs.ChoiceLines.{digits_are, words_are}

-- ---- no full line is an end line

-- bytes begin like a full line, with a digit or a blank
abbrev begins : List ℕ → Bool
begins [] = true
begins (b ∷ bytes) = is_ascii_digit b || b == 32

digits_begin : (digits rest : List ℕ) → list_all is_ascii_digit digits ≡ true
    → begins (digits ++ 32 ∷ rest) ≡ true
digits_begin [] rest h = refl
digits_begin (b ∷ digits) rest h =
    or_left (is_ascii_digit b) (b == 32) (and_parts (is_ascii_digit b) (list_all is_ascii_digit digits) h).0

line_begins : (e : Entry) (number : ℕ) → begins (full_line e number) ≡ true
line_begins e number =
    ap begins (words_are e number) ∙ digits_begin (decimal e.caller) _ (digits_are e.caller)

no_end : (e : Entry) (number a b c : ℕ) → full_line e number ≡ end_text a b c → ⊥
no_end e number a b c same = true≢false (sym (line_begins e number) ∙ ap begins same)

-- and so no full lines have one
pub none_ends : (before es : List Entry) (xs ys : List (List ℕ)) (a b c : ℕ)
    → numbered_after full_line before es ≡ xs ++ end_text a b c ∷ ys → ⊥
none_ends before [] [] ys a b c same = absurd (omega (arith, ap (λ (l : List (List ℕ)). length l) same))
none_ends before [] (x ∷ xs) ys a b c same =
    absurd (omega (arith, ap (λ (l : List (List ℕ)). length l) same))
none_ends before (e ∷ es) [] ys a b c same =
    no_end e (next_number e.caller before) a b c (ap (λ (l : List (List ℕ)). get_or l 0 []) same)
none_ends before (e ∷ es) (x ∷ xs) ys a b c same =
    none_ends (before ++ e ∷ []) es xs ys a b c (ap (λ (l : List (List ℕ)). drop 1 l) same)

-- after an end line no line is right
pub none_after : (n : Numbers) (lists : List (List Cmd)) (lines : List (List ℕ)) (line next : List ℕ)
    (a b c : ℕ) → line ≡ end_text a b c → AreRight n lists ((lines ++ line ∷ []) ++ next ∷ []) → ⊥
none_after n lists lines line next a b c is right = by _ right refl
  where
    with_end : lines ++ line ∷ [] ≡ lines ++ end_text a b c ∷ []
    with_end = ap (λ (l : List ℕ). lines ++ l ∷ []) is

    by : (all : List (List ℕ)) → AreRight n lists all → all ≡ (lines ++ line ∷ []) ++ next ∷ [] → ⊥
    by _ (so_far {journal = journal} along) same =
        none_ends [] journal lines (next ∷ []) a b c
        (same ∙ ap (λ (l : List (List ℕ)). l ++ next ∷ []) with_end
        ∙ append_assoc lines (end_text a b c ∷ []) (next ∷ []))
    by _ (at_the_end {journal = journal} {s = s} along) same =
        none_ends [] journal lines [] a b c
        ((same_from_push (full_lines journal) (lines ++ line ∷ []) (end_of journal s) next same).0 ∙ with_end)

-- ---- by the lines of the text

pub take_of : (xs ys : List (List ℕ)) → take (length xs) (xs ++ ys) ≡ xs
take_of [] ys = refl
take_of (x ∷ xs) ys = ap (λ (l : List (List ℕ)). x ∷ l) (take_of xs ys)

pub take_one : (xs ys : List (List ℕ)) (y : List ℕ) → take (length xs + 1) (xs ++ y ∷ ys) ≡ xs ++ y ∷ []
take_one xs ys y =
    (λ i. take (sym (length-append xs (y ∷ [])) i) (sym (append_assoc xs (y ∷ []) ys) i))
    ∙ take_of (xs ++ y ∷ []) ys

-- the first line that is not right
first_wrong : (n : Numbers) (lists : List (List Cmd)) (bytes : List ℕ) (lines more : List (List ℕ))
    (line : List ℕ) → cut_lines bytes ≡ lines ++ line ∷ more → AreRight n lists lines
    → (AreRight n lists (lines ++ line ∷ []) → ⊥) → IsNoRun n lists bytes (length lines + 1)
first_wrong n lists bytes lines more line cut right other =
    let here : take (length lines) (cut_lines bytes) ≡ lines =
    ap (take (length lines)) cut ∙ take_of lines (line ∷ more) in
    let longer : take (length lines + 1) (cut_lines bytes) ≡ lines ++ line ∷ [] =
    ap (take (length lines + 1)) cut ∙ take_one lines more line in
    wrong {i = length lines}
    (omega (arith, ap (λ (l : List (List ℕ)). length l) cut, length-append lines (line ∷ more)))
    (subst (λ l. AreRight n lists l) (sym here) right)
    (λ r. other (subst (λ l. AreRight n lists l) longer r))

module _ {n : Numbers} {lists : List (List Cmd)} {s : State} {done : List ℕ} {left collections : ℕ}
    {lines : List (List ℕ)} (j : IsJudged n lists s done left collections lines) (bytes rest : List ℕ)
    (cut : cut_lines bytes ≡ lines ++ cut_lines rest) where
  -- the next line is not right
  pub wrong_line : (line : List ℕ) (more : List (List ℕ)) → cut_lines rest ≡ line ∷ more
      → (AreRight n lists (lines ++ line ∷ []) → ⊥) → IsNoRun n lists bytes (length lines + 1)
  wrong_line line more next other =
      first_wrong n lists bytes lines more line (cut ∙ ap (λ (l : List (List ℕ)). lines ++ l) next)
      (right_so_far j) other

  -- there is none
  pub missing_line : rest ≡ [] → IsNoRun n lists bytes (length lines + 1)
  missing_line none =
      let all : cut_lines bytes ≡ lines = cut ∙ ap (λ (l : List ℕ). lines ++ cut_lines l) none
      ∙ append-nil lines in
      subst (λ (l : List (List ℕ)). IsNoRun n lists bytes (length l + 1)) all
      (missing j.along (all ∙ j.lines_are))

  module _ (none : left ≡ 0) (line : List ℕ) (more : List (List ℕ)) (next : cut_lines rest ≡ line ∷ more)
    where
      -- it is not the end line
      pub wrong_end : (line ≡ end_text (len s.handles) (len s.objects) collections → ⊥)
          → IsNoRun n lists bytes (length lines + 1)
      wrong_end other = wrong_line line more next (λ right. other (end_only j line none right))

      module _ (is : line ≡ end_text (len s.handles) (len s.objects) collections) where
        -- it is the end line, and the last one
        pub run_text : more ≡ [] → IsRunText n lists bytes
        run_text last = record {
          journal = j.journal;
          state = s;
          whole = whole j none;
          text = sym (lines_again bytes)
              ∙ ap (λ (l : List (List ℕ)). concat l)
              (cut ∙ ap (λ (l : List (List ℕ)). lines ++ l)
              (next ∙ ap (λ (m : List (List ℕ)). line ∷ m) last))
              ∙ concat-append lines (line ∷ [])
              ∙ (λ i. concat (j.lines_are i) ++ append-nil line i)
              ∙ ap (λ (l : List ℕ). concat (full_lines j.journal) ++ l)
              (is ∙ ap (end_text (len s.handles) (len s.objects)) j.collected);
        }

        -- it is the end line, and another one follows
        pub line_after : (other : List ℕ) (others : List (List ℕ)) → more ≡ other ∷ others
            → IsNoRun n lists bytes (length lines + 2)
        line_after other others follows =
            let number : length (lines ++ line ∷ []) + 1 ≡ length lines + 2 =
            omega (arith, length-append lines (line ∷ [])) in
            subst (IsNoRun n lists bytes) number
            (first_wrong n lists bytes (lines ++ line ∷ []) others other
            (cut ∙ ap (λ (l : List (List ℕ)). lines ++ l)
            (next ∙ ap (λ (m : List (List ℕ)). line ∷ m) follows)
            ∙ sym (append_assoc lines (line ∷ []) (other ∷ others)))
            (ends_right j line none is)
            (none_after n lists lines line other (len s.handles) (len s.objects) collections is))
