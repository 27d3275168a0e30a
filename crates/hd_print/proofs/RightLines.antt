-- Lines that are right have ends, and so are their prefixes; so a text has one number of a line that is not.
use Rattle.hd_print.proofs.Basics.{Entry, List, [], ap, append_assoc, arith, codes, decimal, drop, length, length-append, numbered_after, refl, subst, sym, take, take-append-drop, take_all, ℕ, ⊎_elim, ◌++◌, ◌+◌, ◌<◌, ◌∙◌, ◌∷◌, ◌≡◌}
use Rattle.std.specs.Prelude.{suc, zero, All}
use Rattle.std.proofs.{lemmas.Bool.cases_lt, lemmas.List.take-take, lemmas.List.take-append-le, lemmas.List.Elements.All-nil, lemmas.List.Elements.All-cons, lemmas.List.Elements.All-push}
use Rattle.hd_model.specs.declared.command.Cmd.{Cmd}
use Rattle.hd_model.specs.State.{Numbers, State}
use Rattle.hd_model.specs.Step.{Step}
use Rattle.hd_model.specs.Run.{Chain, stay, link}
use Rattle.hd_model.specs.Text.{collections_of}
use Rattle.std.specs.FinMap.{len}
use Rattle.hd_model.specs.FullText.{full_line, full_lines, end_of}
use Rattle.hd_model.specs.RunTexts.{cut_lines, GoesAlong, AreRight, so_far, at_the_end, wrong, missing}
use Rattle.hd_print.specs.VerdictLaws.{HasEnd, RightLinesHaveEnds, OneLineIsWrong}
use Rattle.hd_print.proofs.JudgedRuns.{own, own-append, next_number}

-- ---- each line has its end

have_ends : (before es : List Entry) → All HasEnd (numbered_after full_line before es)
have_ends before [] = All-nil HasEnd
have_ends before (e ∷ es) =
    All-cons HasEnd _ _ (record { bytes = _; ended = refl }) (have_ends (before ++ e ∷ []) es)

abbrev pub end_bytes : (handles objects collections : ℕ) → List ℕ
end_bytes handles objects collections =
    codes "end handles " ++ decimal handles ++ codes " objects " ++ decimal objects
    ++ codes " collections " ++ decimal collections

pub right_lines_have_ends : RightLinesHaveEnds
right_lines_have_ends n lists _ (so_far {journal = j} along) = have_ends [] j
right_lines_have_ends n lists _ (at_the_end {journal = j} {s = s} whole) =
    All-push HasEnd (full_lines j) (end_of j s) (have_ends [] j)
    (record { bytes = end_bytes (len s.handles) (len s.objects) (collections_of j); ended = refl })

-- ---- prefixes are right

take_numbered : {A : Type 0} (make : Entry → ℕ → A) (i : ℕ) (before es : List Entry)
    → take i (numbered_after make before es) ≡ numbered_after make before (take i es)
take_numbered make zero before es = refl
take_numbered make (suc i) before [] = refl
take_numbered make (suc i) before (e ∷ es) =
    ap (λ l. make e (next_number e.caller before) ∷ l) (take_numbered make i (before ++ e ∷ []) es)

chain_take : (n : Numbers) (i : ℕ) (es : List Entry) {s u : State} → Chain (Step n) s es u
    → (m : State) × Chain (Step n) s (take i es) m
chain_take n zero es {s = s} steps = (s, stay)
chain_take n (suc i) [] {s = s} steps = (s, stay)
chain_take n (suc i) (e ∷ es) (link step rest) =
    let first = chain_take n i es rest in (first.0, link step first.1)

so_far_take : (n : Numbers) (lists : List (List Cmd)) (j : List Entry) (s : State) (left : ℕ → List Cmd)
    (i : ℕ)
    → GoesAlong n lists j s left → AreRight n lists (take i (full_lines j))
so_far_take n lists j s left i along =
    let first = chain_take n i j along.run in
    let shorter : GoesAlong n lists (take i j) first.0 (λ c. own (drop i j) c ++ left c) = record {
      run = first.1;
      parts = λ c. along.parts c
          ∙ ap (λ (l : List Entry). own l c ++ left c) (sym (take-append-drop i j))
          ∙ ap (λ (l : List Cmd). l ++ left c) (own-append (take i j) (drop i j) c)
          ∙ append_assoc (own (take i j) c) (own (drop i j) c) (left c);
    } in
    subst (AreRight n lists) (sym (take_numbered full_line i [] j)) (so_far shorter)

pub right_take : (n : Numbers) (lists : List (List Cmd)) (i : ℕ) (lines : List (List ℕ))
    → AreRight n lists lines
    → AreRight n lists (take i lines)
right_take n lists i _ (so_far {journal = j} {s = s} {left = left} along) =
    so_far_take n lists j s left i along
right_take n lists i _ (at_the_end {journal = j} {s = s} whole) =
    let all = full_lines j ++ end_of j s ∷ [] in
    ⊎_elim (λ past. subst (AreRight n lists)
    (sym (take_all i all (omega (arith, length-append (full_lines j) (end_of j s ∷ []))))) (at_the_end whole))
    (λ within. subst (AreRight n lists) (sym (take-append-le i (full_lines j) (end_of j s ∷ []) within))
    (so_far_take n lists j s (λ _. []) i whole)) (cases_lt (length (full_lines j)) i)

-- ---- one line is wrong

module _ (n : Numbers) (lists : List (List Cmd)) (lines : List (List ℕ)) where
  none_later : (i k : ℕ) → i < k → (AreRight n lists (take (i + 1) lines) → ⊥)
      → AreRight n lists (take k lines) → ⊥
  none_later i k less bad right =
      bad (subst (AreRight n lists) (take-take (i + 1) k lines (omega arith))
      (right_take n lists (i + 1) (take k lines) right))

  pub none_of_all : (i : ℕ) → (AreRight n lists (take (i + 1) lines) → ⊥) → AreRight n lists lines → ⊥
  none_of_all i bad right = bad (right_take n lists (i + 1) lines right)

pub one_line_is_wrong : OneLineIsWrong
one_line_is_wrong n lists bytes _ _ (wrong {i = i} l r bad) (wrong {i = k} m q other) =
    ⊎_elim (λ less. absurd (none_later n lists (cut_lines bytes) i k less bad q))
    (λ le. ⊎_elim (λ more. absurd (none_later n lists (cut_lines bytes) k i more other r))
    (λ ge. let same : i ≡ k = omega arith in ap (λ x. x + 1) same) (cases_lt k i)) (cases_lt i k)
one_line_is_wrong n lists bytes _ _ (wrong {i = i} l r bad) (missing along all) =
    absurd (none_of_all n lists (cut_lines bytes) i bad (subst (AreRight n lists) (sym all) (so_far along)))
one_line_is_wrong n lists bytes _ _ (missing along all) (wrong {i = i} l r bad) =
    absurd (none_of_all n lists (cut_lines bytes) i bad (subst (AreRight n lists) (sym all) (so_far along)))
one_line_is_wrong n lists bytes _ _ (missing along all) (missing other same) = refl
