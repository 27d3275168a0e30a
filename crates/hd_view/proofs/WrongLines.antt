-- The line that is not right, and the lines before it.
use Rattle.std.proofs.Common.{List, [], ap, arith, drop, get_or, length, refl, subst, sym, take, ℕ, ⊎_elim, ◌++◌, ◌+◌, ◌-◌, ◌<◌, ◌∙◌, ◌∷◌, ◌≡◌, ◌≤◌}
use Rattle.std.specs.Prelude.{◌↔◌}
use Rattle.std.proofs.lemmas.Bool.{cases_lt}
use Rattle.std.proofs.lemmas.List.{at_drop_all, drop_more, take_all, take_more}
use Rattle.hd_model.specs.declared.command.Cmd.{Cmd}
use Rattle.hd_model.specs.RunTexts.{AreRight, IsNoRun, cut_lines, missing, so_far, wrong}
use Rattle.hd_model.specs.State.{Numbers}
use Rattle.hd_audit.specs.Before.{IsBefore}
use Rattle.hd_audit.specs.Known.{Known}
use Rattle.hd_audit.specs.RightVerdicts.{numbers_of}
use Rattle.hd_run.specs.Audit.{wrong_text}
use Rattle.hd_view.specs.{Accepted.AreDue, Accepted.IsNamedLine, Inside.IsKnownOf}
use Rattle.hd_view.specs.{Cause.Holds, Inside.IsWrong}
use Rattle.hd_view.specs.Inside.{IsReasonOf, IsWrongOf}
use Rattle.hd_view.specs.WhyText.{why_text}
use Rattle.hd_view.specs.declared.accepted.Due.{Due}
use Rattle.hd_view.specs.declared.accepted.Judgement.{Judgement}
use Rattle.hd_view.specs.declared.cause.Cause.{Cause}
use Rattle.hd_view.proofs.NamedLines.{named_lines_may_come}

-- the lines before it are right
pub record HasBefore (n : Numbers) (lists : List (List Cmd)) (bytes : List ℕ) (line : ℕ) : Type 0 where
  pub first : 1 ≤ line
  pub within : line - 1 ≤ length (cut_lines bytes)
  pub right : AreRight n lists (take (line - 1) (cut_lines bytes))
  pub again : IsNoRun n lists bytes (line - 1 + 1)

pub has_before : (n : Numbers) (lists : List (List Cmd)) (bytes : List ℕ) (line : ℕ)
    → IsNoRun n lists bytes line → HasBefore n lists bytes line
has_before n lists bytes _ (wrong {i = i} less right bad) =
    let same : i ≡ i + 1 - 1 = omega arith in
    record {
      first = omega arith;
      within = omega (arith, less);
      right = subst (λ k. AreRight n lists (take k (cut_lines bytes))) same right;
      again = subst (λ k. IsNoRun n lists bytes (k + 1)) same (wrong less right bad);
    }
has_before n lists bytes _ (missing {journal = j} {s = s} {left = left} along all) =
    let count = length (cut_lines bytes) in
    let same : count ≡ count + 1 - 1 = omega arith in
    let whole : AreRight n lists (take count (cut_lines bytes)) =
    subst (AreRight n lists) (sym (take_all count (cut_lines bytes) (omega arith) ∙ all)) (so_far along) in
    record {
      first = omega arith;
      within = omega arith;
      right = subst (λ k. AreRight n lists (take k (cut_lines bytes))) same whole;
      again = subst (λ k. IsNoRun n lists bytes (k + 1)) same (missing along all);
    }

-- the lines up to a number and the next one
take_next : (xs : List (List ℕ)) (i : ℕ) (y : List ℕ) (ys : List (List ℕ)) → drop i xs ≡ y ∷ ys
    → take (i + 1) xs ≡ take i xs ++ y ∷ []
take_next xs i y ys e =
    ⊎_elim (λ within. here within)
    (λ past. absurd (omega (
      arith,
      ap (λ (l : List (List ℕ)). length l)
          (sym (at_drop_all (λ (l : List (List ℕ)). l) xs i past) ∙ e),
    ))) (cases_lt i (length xs))
  where
    here : i < length xs → take (i + 1) xs ≡ take i xs ++ y ∷ []
    here within =
        take_more xs i y within
        ∙ ap (λ (z : List ℕ). take i xs ++ z ∷ [])
        (ap (λ (l : List (List ℕ)). get_or l 0 y) (sym (drop_more xs i y within) ∙ e))

-- and so the next line may not come
module _ (n : Numbers) (lists : List (List Cmd)) (bytes : List ℕ) (count : ℕ) (k : Known)
    (before : IsBefore n lists (take count (cut_lines bytes)) k)
    (rest_is : cut_lines k.rest ≡ drop count (cut_lines bytes)) where
  pub is_wrong : IsNoRun n lists bytes (count + 1) → IsWrong k
  is_wrong none line after next may = by _ none refl
    where
      lines : take (count + 1) (cut_lines bytes) ≡ take count (cut_lines bytes) ++ line ∷ []
      lines = take_next (cut_lines bytes) count line after (sym rest_is ∙ next)

      right : AreRight n lists (take (count + 1) (cut_lines bytes))
      right = subst (AreRight n lists) (sym lines) ((before.next line).1 may)

      by : (m : ℕ) → IsNoRun n lists bytes m → m ≡ count + 1 → ⊥
      by _ (wrong {i = i} less here bad) same =
          bad (subst (λ m. AreRight n lists (take m (cut_lines bytes))) (sym same) right)
      by _ (missing along all) same =
          let past : length (cut_lines bytes) ≤ count = omega (arith, same) in
          absurd (omega (
            arith,
            ap (λ (l : List (List ℕ)). length l)
                (sym (at_drop_all (λ (l : List (List ℕ)). l) (cut_lines bytes) count past) ∙ sym rest_is ∙ next),
          ))

-- the lines that are named are exactly those with which the lines before are still right
pub named_right : (n : Numbers) (lists : List (List Cmd)) (lines : List (List ℕ)) (k : Known)
    (dues : List Due) → IsBefore n lists lines k → AreDue k dues → (line : List ℕ)
    → AreRight n lists (lines ++ line ∷ []) ↔ IsNamedLine k dues line
named_right n lists lines k dues before due line =
    let named = named_lines_may_come k dues due line in
    let next = before.next line in
    (λ right. named.0 (next.0 right), λ is. next.1 (named.1 is))

-- ---- the reason that is written

-- the parts of a reason, as they are found in a judgement
pub reason_is : (j : Judgement) (k : Known) (dues : List Due) (cause : Cause) (written : List ℕ) → IsWrongOf j
    → IsKnownOf j k → cut_lines k.rest ≡ drop j.count (cut_lines j.text.now) → AreDue k dues → Holds k cause
    → written ≡ wrong_text (j.count + 1) ++ why_text k dues cause → IsReasonOf j written
reason_is j k dues cause written wrong_is before rest_is due holds is = record {
  count = j.count;
  wrong = wrong_is;
  known = k;
  before = before;
  rest_is = rest_is;
  dues = dues;
  due = due;
  named = named_right (numbers_of j.scripts.now j.heap j.blocks) j.scripts.now
      (take j.count (cut_lines j.text.now)) k dues before due;
  cause = cause;
  holds = holds;
  is_written = is;
}

-- the verdict, and why behind it
pub written_by : (k : Known) (dues passed : List Due) (cause : Cause) (count line : ℕ) (written : List ℕ)
    → line ≡ count + 1 → passed ≡ dues → written ≡ wrong_text line ++ why_text k passed cause
    → written ≡ wrong_text (count + 1) ++ why_text k dues cause
written_by k dues passed cause count line written at same is =
    is ∙ (λ i. wrong_text (at i) ++ why_text k (same i) cause)
