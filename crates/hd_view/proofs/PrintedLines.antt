-- A line as it is shown.
use Rattle.std.proofs.Common.{Bool, List, None, Some, [], ap, append_assoc, arith, cond, false, get_or, length, ltb, ltb-false, refl, sym, take, true, ℕ, ◌++◌, ◌==◌, ◌∙◌, ◌∷◌, ◌≡◌}
use Rattle.std.specs.Prelude.{codes, decimal, if◌then◌else◌}
use Rattle.std.proofs.lemmas.Bool.{eq-eqb}
use Rattle.std.proofs.lemmas.List.{take_all}
use Rattle.std.proofs.lemmas.Option.{none-some, same_Some}
use Rattle.std.specs.List.{position, position_or_len}
use Rattle.hd_model.specs.declared.data.Kind.{Kind}
use Rattle.hd_model.specs.Grammar.{is_line_end}
use Rattle.hd_model.specs.Step.{blocks_needed}
use Rattle.hd_model.specs.Text.{newline}
use Rattle.hd_audit.specs.Before.{end_after}
use Rattle.hd_audit.specs.Known.{Known}
use Rattle.hd_view.specs.WhyText.{end_text, handle_words, line_bytes, number_in, too_few_words}
use Rattle.hd_view.specs.declared.sets.Range.{Range}

abbrev end_at : List ℕ → ℕ
end_at line = position_or_len is_line_end line

-- the bytes before the first end of a line
pub before_end : (line : List ℕ) (end : ℕ) → position is_line_end line ≡ Some end → take end line ≡ line_bytes line
before_end line end is = by (ltb (end_at line) (length line)) is
  where
    by : (t : Bool) → cond t (Some (end_at line)) None ≡ Some end → take end line ≡ line_bytes line
    by true same = ap (λ k. take k line) (sym (same_Some (end_at line) end same))
    by false same = absurd (none-some end same)

pub before_none : (line : List ℕ) → position is_line_end line ≡ None → line ≡ line_bytes line
before_none line is = by (ltb (end_at line) (length line)) refl is
  where
    by : (t : Bool) → ltb (end_at line) (length line) ≡ t → cond t (Some (end_at line)) None ≡ None
        → line ≡ line_bytes line
    by true within same = absurd (none-some (end_at line) (sym same))
    by false past same = sym (take_all (end_at line) line (ltb-false (end_at line) (length line) past))

-- the number of one range of one number
pub number_at : (ranges : List Range) (d : Range) → length ranges ≡ 1
    → number_in ranges
    ≡ (if (get_or ranges 0 d).first == (get_or ranges 0 d).last then Some (get_or ranges 0 d).first else None)
number_at [] d one = absurd (omega (arith, one))
number_at (r ∷ ranges) d one = refl

-- the end line where it is due
joined : (line : List ℕ)
    → codes "due end" ++ newline ++ codes "accepts " ++ line ≡ codes "due end\naccepts " ++ line
joined line = refl

pub end_appended : (k : Known) (old one two line : List ℕ) → one ≡ old ++ codes "due end\naccepts "
    → two ≡ one ++ line → line ≡ end_after k → k.ended ≡ false → k.left ≡ 0 → two ≡ old ++ end_text k
end_appended k old one two line first second is going none =
    second ∙ ap (λ (t : List ℕ). t ++ line) first ∙ append_assoc old (codes "due end\naccepts ") line
    ∙ ap (λ (l : List ℕ). old ++ (codes "due end\naccepts " ++ l)) is
    ∙ ap (λ (l : List ℕ). old ++ l) (sym (joined (end_after k)))
    ∙ ap (λ (l : List ℕ). old ++ l) (sym shown)
  where
    shown : end_text k ≡ codes "due end" ++ newline ++ codes "accepts " ++ end_after k
    shown = λ i. if going i then codes "due nothing" ++ newline
        else (if eq-eqb k.left 0 none i then codes "due end" ++ newline ++ codes "accepts " ++ end_after k else [])

-- that blocks are too few, piece by piece
pub too_few_appended : (unused n : ℕ) (kind : Kind) (old one two new words : List ℕ)
    → one ≡ old ++ (codes "too few blocks are unused: " ++ decimal unused ++ codes ", and ")
    → two ≡ one ++ words → words ≡ handle_words kind → new ≡ two ++ (codes " needs " ++ decimal n)
    → n ≡ blocks_needed kind → new ≡ old ++ too_few_words unused kind
too_few_appended unused n kind old one two new words first second is third needed =
    let begin : List ℕ = codes "too few blocks are unused: " ++ decimal unused ++ codes ", and " in
    let end : List ℕ = codes " needs " ++ decimal (blocks_needed kind) in
    third ∙ (λ i. two ++ (codes " needs " ++ decimal (needed i)))
    ∙ ap (λ (t : List ℕ). t ++ end) (second ∙ (λ i. first i ++ is i))
    ∙ ap (λ (t : List ℕ). t ++ end) (append_assoc old begin (handle_words kind))
    ∙ append_assoc old (begin ++ handle_words kind) end
