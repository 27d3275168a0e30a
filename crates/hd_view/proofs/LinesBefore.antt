-- The lines before one, and why there is no script of them.
use Rattle.std.proofs.Common.{◌≡◌, ℕ, ◌+◌, ◌-◌, ◌≤◌, ◌<◌, List, [], ◌∷◌, ◌++◌, length, take, refl, sym, ap, ◌∙◌, append-nil, append_assoc, arith, length-append, take_all}
use Rattle.std.proofs.lemmas.List.{nil_from_length}
use Rattle.std.proofs.lemmas.List.Folds.{concat-append}
use Rattle.std.proofs.Math.Seq.{take-append_seam}
use Rattle.std.specs.List.{concat}
use Rattle.hd_audit.proofs.LineCuts.{lines_again}
use Rattle.hd_model.specs.RunTexts.{cut_lines}

-- this many lines were passed, and the rest is left
pub record Passed (bytes rest : List ℕ) (passed line : ℕ) : Type 0 where
  pub lines : List (List ℕ)
  pub cut : cut_lines bytes ≡ lines ++ cut_lines rest
  pub count : length lines ≡ passed
  pub within : passed ≤ line - 1

pub none_passed : (bytes : List ℕ) (line : ℕ) → Passed bytes bytes 0 line
none_passed bytes line = record { lines = []; cut = refl; count = refl; within = omega arith }

module _ {bytes rest : List ℕ} {passed line : ℕ} (p : Passed bytes rest passed line) where
  pub one_passed : (first after : List ℕ) → cut_lines rest ≡ first ∷ cut_lines after → passed + 1 < line
      → Passed bytes after (passed + 1) line
  one_passed first after is more = record {
    lines = p.lines ++ first ∷ [];
    cut = p.cut ∙ ap (λ (l : List (List ℕ)). p.lines ++ l) is
        ∙ sym (append_assoc p.lines (first ∷ []) (cut_lines after));
    count = length-append p.lines (first ∷ []) ∙ ap (λ (n : ℕ). n + 1) p.count;
    within = omega (arith, more);
  }

  whole : bytes ≡ concat p.lines ++ rest
  whole = sym (lines_again bytes) ∙ ap concat p.cut ∙ concat-append p.lines (cut_lines rest)
      ∙ ap (λ (l : List ℕ). concat p.lines ++ l) (lines_again rest)

  pub rest_shorter : length rest ≤ length bytes
  rest_shorter =
      let sizes = ap (λ (l : List ℕ). length l) whole in
      omega (arith, sizes, length-append (concat p.lines) rest)

  front : take (length bytes - length rest) bytes ≡ concat p.lines
  front =
      let sizes = ap (λ (l : List ℕ). length l) whole in
      let count : length bytes - length rest ≡ length (concat p.lines) =
      omega (arith, sizes, length-append (concat p.lines) rest) in
      ap (λ (n : ℕ). take n bytes) count ∙ ap (take (length (concat p.lines))) whole
      ∙ take-append_seam (concat p.lines) rest

  -- where enough lines were passed
  pub all_passed : line ≤ passed + 1
      → take (length bytes - length rest) bytes ≡ concat (take (line - 1) (cut_lines bytes))
  all_passed enough =
      let count : line - 1 ≡ length p.lines = omega (arith, enough, p.within, p.count) in
      front ∙ ap concat (sym (ap (λ (n : ℕ). take n (cut_lines bytes)) count
      ∙ ap (take (length p.lines)) p.cut ∙ take-append_seam p.lines (cut_lines rest)))

  -- or none is left
  pub none_left : length rest ≡ 0 → bytes ≡ concat (take (line - 1) (cut_lines bytes))
  none_left none =
      let all : cut_lines bytes ≡ p.lines =
      p.cut ∙ ap (λ (l : List ℕ). p.lines ++ cut_lines l) (nil_from_length rest none)
      ∙ append-nil p.lines in
      let few : length (cut_lines bytes) ≤ line - 1 =
      omega (arith, p.within, p.count, ap (λ (l : List (List ℕ)). length l) all) in
      sym (lines_again bytes) ∙ ap concat (sym (take_all (line - 1) (cut_lines bytes) few))
