-- The full text of a run is cut into its full lines and its end line, so none of them is wrong.
use Rattle.std.proofs.Common.{List, [], ap, append_assoc, eqb, not, refl, subst, sym, true, ℕ, ◌++◌, ◌∙◌, ◌∷◌, ◌≡◌}
use Rattle.std.specs.Prelude.{codes, decimal}
use Rattle.std.specs.FinMap.{len}
use Rattle.std.specs.List.{concat}
use Rattle.std.proofs.lemmas.Bool.{and_parts, cond-false, not-true}
use Rattle.hd_model.specs.declared.command.Cmd.{Cmd}
use Rattle.hd_model.specs.declared.data.Entry.{Entry}
use Rattle.hd_model.specs.FullText.{end_of, full_line, full_lines}
use Rattle.hd_model.specs.Grammar.{is_line_end}
use Rattle.hd_model.specs.RunTexts.{AreRight, IsRunText, at_the_end, cut_lines, missing, onto_line, wrong}
use Rattle.hd_model.specs.State.{Numbers, State}
use Rattle.hd_model.specs.Text.{collections_of, newline, numbered_after}
use Rattle.hd_print.proofs.JudgedRuns.{next_number}
use Rattle.hd_print.proofs.RightLines.{end_bytes, none_of_all}
use Rattle.hd_audit.specs.Laws.{RunsHaveNoWrongLine}
use Rattle.hd_audit.proofs.ChoiceLines.{lacks, lacks-append, line_lacks, numeral_lacks}
use Rattle.hd_audit.proofs.LineVerdicts.{none_ends}

-- ---- a line is cut off again

-- bytes without a line end, and one behind them
cut_line : (bytes rest : List ℕ) → lacks 10 bytes ≡ true
    → cut_lines (bytes ++ 10 ∷ rest) ≡ (bytes ++ 10 ∷ []) ∷ cut_lines rest
cut_line [] rest h = refl
cut_line (b ∷ bytes) rest h =
    let both = and_parts (not (eqb b 10)) (lacks 10 bytes) h in
    let more = bytes ++ 10 ∷ rest in
    cond-false (is_line_end b) ((b ∷ []) ∷ cut_lines more) (onto_line b (cut_lines more))
    (not-true (eqb b 10) both.0)
    ∙ ap (onto_line b) (cut_line bytes rest both.1)

cut_ended : (line bytes rest : List ℕ) → line ≡ bytes ++ newline → lacks 10 bytes ≡ true
    → cut_lines (line ++ rest) ≡ line ∷ cut_lines rest
cut_ended line bytes rest is h =
    ap (λ (l : List ℕ). cut_lines (l ++ rest)) is
    ∙ ap cut_lines (append_assoc bytes newline rest)
    ∙ cut_line bytes rest h
    ∙ ap (λ (l : List ℕ). l ∷ cut_lines rest) (sym is)

-- the full lines of entries
cut_full : (before es : List Entry) (rest : List ℕ)
    → cut_lines (concat (numbered_after full_line before es) ++ rest)
    ≡ numbered_after full_line before es ++ cut_lines rest
cut_full before [] rest = refl
cut_full before (e ∷ es) rest =
    let number = next_number e.caller before in
    let others = numbered_after full_line (before ++ e ∷ []) es in
    ap cut_lines (append_assoc (full_line e number) (concat others) rest)
    ∙ cut_ended (full_line e number) _ (concat others ++ rest) refl (line_lacks e number)
    ∙ ap (λ (ls : List (List ℕ)). full_line e number ∷ ls) (cut_full (before ++ e ∷ []) es rest)

-- the end line
end_lacks : (a b c : ℕ) → lacks 10 (end_bytes a b c) ≡ true
end_lacks a b c =
    let handles = codes "end handles " ++ decimal a in
    let objects = handles ++ codes " objects " ++ decimal b in
    lacks-append 10 (objects ++ codes " collections ") (decimal c)
    (lacks-append 10 objects (codes " collections ")
    (lacks-append 10 (handles ++ codes " objects ") (decimal b)
    (lacks-append 10 handles (codes " objects ")
    (lacks-append 10 (codes "end handles ") (decimal a) refl (numeral_lacks 10 a refl)) refl)
    (numeral_lacks 10 b refl)) refl) (numeral_lacks 10 c refl)

cut_end : (journal : List Entry) (s : State) → cut_lines (end_of journal s) ≡ end_of journal s ∷ []
cut_end journal s =
    cut_line (end_bytes (len s.handles) (len s.objects) (collections_of journal)) []
    (end_lacks (len s.handles) (len s.objects) (collections_of journal))

-- ---- the text of a run

run_lines : {n : Numbers} {lists : List (List Cmd)} {bytes : List ℕ} (r : IsRunText n lists bytes)
    → cut_lines bytes ≡ full_lines r.journal ++ end_of r.journal r.state ∷ []
run_lines r = ap cut_lines r.text ∙ cut_full [] r.journal (end_of r.journal r.state)
    ∙ ap (λ (ls : List (List ℕ)). full_lines r.journal ++ ls) (cut_end r.journal r.state)

pub runs_have_no_wrong_line : RunsHaveNoWrongLine
runs_have_no_wrong_line n lists bytes _ r (wrong {i = i} l right bad) =
    none_of_all n lists (cut_lines bytes) i bad
    (subst (AreRight n lists) (sym (run_lines r)) (at_the_end r.whole))
runs_have_no_wrong_line n lists bytes _ r (missing {journal = j} along all) =
    none_ends [] j (full_lines r.journal) [] (len r.state.handles) (len r.state.objects)
    (collections_of r.journal) (sym all ∙ run_lines r)
