-- The input of an audit is cut in one way, and is not refused.
use Rattle.hd_run.proofs.Basics.{Cmd, IsErr, List, Ok, [], ap, drop, false, get_or, refl, subst, sym, true, ℕ, ◌++◌, ◌∙◌, ◌∷◌, ◌≡◌}
use Rattle.std.specs.List.{concat}
use Rattle.std.proofs.lemmas.Bool.{true≢false}
use Rattle.std.proofs.lemmas.List.{append_cancel_left}
use Rattle.std.proofs.lemmas.List.Elements.{All-head, All-tail}
use Rattle.hd_model.specs.{Grammar.script_of, RunTexts.cut_lines}
use Rattle.hd_audit.proofs.LineCuts.{lines_again}
use Rattle.hd_script.specs.AuditInput.{IsAuditInput, IsDivided, IsNoAuditInput, NoneDivides, in_all, in_script, is_dividing, undivided}

-- ---- the first line that divides

one_divider : (xs ys more rest : List (List ℕ)) (x y : List ℕ) → NoneDivides xs → NoneDivides ys
    → is_dividing x ≡ true → is_dividing y ≡ true → xs ++ x ∷ more ≡ ys ++ y ∷ rest → xs ≡ ys
one_divider [] [] more rest x y none other is at same = refl
one_divider [] (b ∷ ys) more rest x y none other is at same =
    let first : x ≡ b = ap (λ (l : List (List ℕ)). get_or l 0 []) same in
    absurd (true≢false (sym is ∙ ap is_dividing first
    ∙ All-head (λ line. is_dividing line ≡ false) b ys other))
one_divider (a ∷ xs) [] more rest x y none other is at same =
    let first : a ≡ y = ap (λ (l : List (List ℕ)). get_or l 0 []) same in
    absurd (true≢false (sym at ∙ ap is_dividing (sym first)
    ∙ All-head (λ line. is_dividing line ≡ false) a xs none))
one_divider (a ∷ xs) (b ∷ ys) more rest x y none other is at same =
    let first : a ≡ b = ap (λ (l : List (List ℕ)). get_or l 0 []) same in
    let later = one_divider xs ys more rest x y (All-tail (λ line. is_dividing line ≡ false) a xs none)
    (All-tail (λ line. is_dividing line ≡ false) b ys other) is at
    (ap (λ (l : List (List ℕ)). drop 1 l) same) in
    λ i. first i ∷ later i

none_has : (xs more : List (List ℕ)) (x : List ℕ) → NoneDivides (xs ++ x ∷ more) → is_dividing x ≡ true → ⊥
none_has [] more x none is =
    true≢false (sym is ∙ All-head (λ line. is_dividing line ≡ false) x more none)
none_has (a ∷ xs) more x none is =
    none_has xs more x (All-tail (λ line. is_dividing line ≡ false) a (xs ++ x ∷ more) none) is

pub one_script : {bytes script text other rest : List ℕ} → IsDivided bytes script text
    → IsDivided bytes other rest → script ≡ other
one_script {script = script} {text = text} {other = other} {rest = rest} one two =
    sym (lines_again script)
    ∙ ap (λ (l : List (List ℕ)). concat l)
    (one_divider (cut_lines script) (cut_lines other) (cut_lines text) (cut_lines rest) one.line two.line
    one.first two.first one.divides two.divides (sym one.lines ∙ two.lines))
    ∙ lines_again other

pub one_text : {bytes script text other rest : List ℕ} → IsDivided bytes script text
    → IsDivided bytes other rest → text ≡ rest
one_text {script = script} {text = text} {other = other} {rest = rest} one two =
    let same : cut_lines script ≡ cut_lines other = ap cut_lines (one_script one two) in
    let after : one.line ∷ cut_lines text ≡ two.line ∷ cut_lines rest =
    append_cancel_left (cut_lines script) (one.line ∷ cut_lines text) (two.line ∷ cut_lines rest)
    (sym one.lines ∙ two.lines ∙ ap (λ (l : List (List ℕ)). l ++ two.line ∷ cut_lines rest) (sym same)) in
    sym (lines_again text)
    ∙ ap (λ (l : List (List ℕ)). concat (drop 1 l)) after
    ∙ lines_again rest

-- ---- an input of an audit

module _ {bytes : List ℕ} {lists : List (List Cmd)} {text : List ℕ} (input : IsAuditInput bytes lists text)
  where
    -- none of its lines is at fault, and none is missing
    pub accepted : (line : ℕ) → IsNoAuditInput bytes line → ⊥
    accepted _ (in_script divided fault) =
        let fails : IsErr {T = List (List Cmd)} {E = ℕ} (Ok lists) =
        subst IsErr (sym fault ∙ ap script_of (one_script divided input.divided) ∙ input.right) refl in
        cc
    accepted _ (in_all none fault) =
        none_has _ _ input.divided.line (subst NoneDivides input.divided.lines none) input.divided.divides
    accepted _ (undivided none right) =
        none_has _ _ input.divided.line (subst NoneDivides input.divided.lines none) input.divided.divides
