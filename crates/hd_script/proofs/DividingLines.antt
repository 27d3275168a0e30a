-- Lines with their ends, and the first of them that divides.
use Rattle.hd_script.proofs.Basics.{List, [], ap, append-nil, append_assoc, arith, before_first, cond, cond-false, cond-true, false, is_line_end, length, length-append, line_after, nil_from_length, refl, subst, sym, take, take_at, true, ℕ, ◌++◌, ◌+◌, ◌-◌, ◌<◌, ◌∙◌, ◌∷◌, ◌≡◌, ◌≤◌}
use Rattle.std.specs.List.{concat}
use Rattle.std.proofs.lemmas.List.Elements.{All-push}
use Rattle.hd_model.specs.declared.command.Cmd.{Cmd}
use Rattle.hd_model.specs.Grammar.{words_of, IsScript}
use Rattle.hd_model.specs.RunTexts.{cut_lines, onto_line}
use Rattle.hd_script.specs.Words.{words_at}
use Rattle.hd_script.specs.AuditInput.{are_divider, is_dividing, NoneDivides, IsDivided, IsNoAuditInput, in_script, in_all, undivided, IsInputFault}
use Rattle.hd_script.specs.Fault.{IsFaultOf}
use Rattle.hd_script.specs.declared.fault.ScriptFault.{ScriptFault}
use Rattle.hd_script.specs.declared.fault.ScriptFault.TheVariants.{Line, Memory}
use Rattle.hd_script.proofs.LineSplit.{first_passes, first_fails, shorter}

-- ---- the first line

-- the first line with its end
abbrev line_at : List ℕ → List ℕ
line_at [] = []
line_at (b ∷ bytes) = cond (is_line_end b) (b ∷ []) (b ∷ line_at bytes)

line_whole : (bytes : List ℕ) → bytes ≡ line_at bytes ++ line_after bytes
line_whole [] = refl
line_whole (b ∷ bytes) =
    elim (is_line_end b) as (λ t. b ∷ bytes
    ≡ cond t (b ∷ []) (b ∷ line_at bytes) ++ cond t bytes (line_after bytes))
    [ true ↦ refl | false ↦ ap (λ (l : List ℕ). b ∷ l) (line_whole bytes) ]

-- bytes are cut behind their first line
cut_onto : (b : ℕ) (bytes : List ℕ)
    → onto_line b (cut_lines bytes) ≡ (b ∷ line_at bytes) ∷ cut_lines (line_after bytes)
cut_onto b [] = refl
cut_onto b (c ∷ bytes) =
    elim (is_line_end c) as (λ t. onto_line b (cond t ((c ∷ []) ∷ cut_lines bytes)
    (onto_line c (cut_lines bytes)))
    ≡ (b ∷ cond t (c ∷ []) (c ∷ line_at bytes)) ∷ cut_lines (cond t bytes (line_after bytes)))
    [ true ↦ refl | false ↦ ap (onto_line b) (cut_onto c bytes) ]

pub cut_first : (bytes : List ℕ) → 0 < length bytes
    → cut_lines bytes ≡ line_at bytes ∷ cut_lines (line_after bytes)
cut_first [] some = absurd (omega (arith, some))
cut_first (b ∷ bytes) some =
    elim (is_line_end b) as (λ t. cond t ((b ∷ []) ∷ cut_lines bytes) (onto_line b (cut_lines bytes))
    ≡ cond t (b ∷ []) (b ∷ line_at bytes) ∷ cut_lines (cond t bytes (line_after bytes)))
    [ true ↦ refl | false ↦ cut_onto b bytes ]

-- it has the words of the bytes
line_begins : (bytes : List ℕ) → before_first is_line_end (line_at bytes) ≡ before_first is_line_end bytes
line_begins [] = refl
line_begins (b ∷ bytes) =
    let more = line_begins bytes in
    (elim (is_line_end b) as (λ t. is_line_end b ≡ t → before_first is_line_end
    (cond t (b ∷ []) (b ∷ line_at bytes))
    ≡ before_first is_line_end (b ∷ bytes)) [
      | true ↦ λ e. first_passes is_line_end b [] e ∙ sym (first_passes is_line_end b bytes e)
      | false ↦ λ e. first_fails is_line_end b (line_at bytes) e ∙ ap (λ (l : List ℕ). b ∷ l) more
          ∙ sym (first_fails is_line_end b bytes e)
    ]) refl

line_words : (bytes : List ℕ) → words_at (line_at bytes) ≡ words_at bytes
unfolding words_at
line_words bytes = ap words_of (line_begins bytes)

divides_alike : (bytes : List ℕ) → is_dividing (line_at bytes) ≡ is_dividing bytes
divides_alike bytes = ap are_divider (line_words bytes)

-- a line that others follow has an end, so it is cut off whatever follows
abbrev IsEnded : List ℕ → Type 0
IsEnded line = (more : List ℕ) → cut_lines (line ++ more) ≡ line ∷ cut_lines more

line_ended : (bytes : List ℕ) → 0 < length (line_after bytes) → IsEnded (line_at bytes)
line_ended [] some = absurd (omega (arith, some))
line_ended (b ∷ bytes) some =
    let later = line_ended bytes in
    (elim (is_line_end b) as (λ t. is_line_end b ≡ t → 0 < length (cond t bytes (line_after bytes))
    → IsEnded (cond t (b ∷ []) (b ∷ line_at bytes))) [
      | true ↦ λ e h more.
          cond-true (is_line_end b) ((b ∷ []) ∷ cut_lines more) (onto_line b (cut_lines more)) e
      | false ↦ λ e h more.
          cond-false (is_line_end b) ((b ∷ []) ∷ cut_lines (line_at bytes ++ more))
          (onto_line b (cut_lines (line_at bytes ++ more))) e ∙ ap (onto_line b) (later h more)
    ]) refl some

-- ---- lines that were passed

concat_push : (lines : List (List ℕ)) (line : List ℕ) → concat (lines ++ line ∷ []) ≡ concat lines ++ line
concat_push [] line = append-nil line
concat_push (first ∷ lines) line =
    ap (λ (l : List ℕ). first ++ l) (concat_push lines line) ∙ sym (append_assoc first (concat lines) line)

abbrev AreEnded : List (List ℕ) → Type 0
AreEnded lines = (more : List ℕ) → cut_lines (concat lines ++ more) ≡ lines ++ cut_lines more

-- the lines before the rest, none of which divides
pub record Passed (bytes rest : List ℕ) : Type 0 where
  pub lines : List (List ℕ)
  pub whole : bytes ≡ concat lines ++ rest
  pub cut : cut_lines bytes ≡ lines ++ cut_lines rest
  pub ended : 0 < length rest → AreEnded lines
  pub none : NoneDivides lines

pub begun : (bytes : List ℕ) → Passed bytes bytes
begun bytes = record {
  lines = [];
  whole = refl;
  cut = refl;
  ended = λ some more. refl;
  none = λ k d h. absurd (omega (arith, h));
}

pub passed_none : {bytes rest : List ℕ} → Passed bytes rest → length rest ≡ 0 → NoneDivides (cut_lines bytes)
passed_none {rest = rest} p over =
    let whole = p.cut ∙ ap (λ (r : List ℕ). p.lines ++ cut_lines r) (nil_from_length rest over)
    ∙ append-nil p.lines in
    subst NoneDivides (sym whole) p.none

module _ {bytes rest : List ℕ} (p : Passed bytes rest) (some : 0 < length rest) where
  cut_here : cut_lines bytes ≡ p.lines ++ line_at rest ∷ cut_lines (line_after rest)
  cut_here = p.cut ∙ ap (λ (l : List (List ℕ)). p.lines ++ l) (cut_first rest some)

  -- one line more
  pub passed_line : is_dividing rest ≡ false → Passed bytes (line_after rest)
  passed_line other = record {
    lines = p.lines ++ line_at rest ∷ [];
    whole = p.whole ∙ ap (λ (l : List ℕ). concat p.lines ++ l) (line_whole rest)
        ∙ sym (append_assoc (concat p.lines) (line_at rest) (line_after rest))
        ∙ ap (λ (l : List ℕ). l ++ line_after rest) (sym (concat_push p.lines (line_at rest)));
    cut = cut_here ∙ sym (append_assoc p.lines (line_at rest ∷ []) (cut_lines (line_after rest)));
    ended = λ later more. ap (λ (l : List ℕ). cut_lines (l ++ more)) (concat_push p.lines (line_at rest))
        ∙ ap cut_lines (append_assoc (concat p.lines) (line_at rest) more)
        ∙ p.ended some (line_at rest ++ more)
        ∙ ap (λ (l : List (List ℕ)). p.lines ++ l) (line_ended rest later more)
        ∙ sym (append_assoc p.lines (line_at rest ∷ []) (cut_lines more));
    none = All-push (λ line. is_dividing line ≡ false) p.lines (line_at rest) p.none
        (divides_alike rest ∙ other);
  }

  script_is : take (length bytes - length rest) bytes ≡ concat p.lines
  script_is =
      let sizes : length bytes ≡ length (concat p.lines) + length rest =
      ap length p.whole ∙ length-append (concat p.lines) rest in
      ap (take (length bytes - length rest)) p.whole
      ∙ take_at (concat p.lines) rest (length bytes - length rest) (omega (arith, sizes))

  -- the first line that divides
  pub divided_here : is_dividing rest ≡ true
      → IsDivided bytes (take (length bytes - length rest) bytes) (line_after rest)
  divided_here is =
      let script : cut_lines (take (length bytes - length rest) bytes) ≡ p.lines =
      ap cut_lines (script_is ∙ sym (append-nil (concat p.lines))) ∙ p.ended some [] ∙ append-nil p.lines in
      record {
        line = line_at rest;
        lines = cut_here ∙ ap (λ (l : List (List ℕ)). l ++ line_at rest ∷ cut_lines (line_after rest))
            (sym script);
        divides = divides_alike rest ∙ is;
        first = subst NoneDivides (sym script) p.none;
      }

-- one line more is counted
pub counted : (n : ℕ) (bytes rest : List ℕ) → 0 < length rest
    → (n + length (cut_lines rest) ≡ length (cut_lines bytes)) × (n + length rest ≤ length bytes)
    → (n + 1 + length (cut_lines (line_after rest)) ≡ length (cut_lines bytes))
    × (n + 1 + length (line_after rest) ≤ length bytes)
counted n bytes rest some both =
    let one = ap length (cut_first rest some) in
    let less = shorter rest some in
    (omega (arith, one, both.0), omega (arith, less, both.1))

-- ---- faults

pub fault_in_script : {bytes script text : List ℕ} → IsDivided bytes script text → (fault : ScriptFault)
    → IsFaultOf script fault → IsInputFault bytes fault
fault_in_script divided (Line k) is = in_script divided is
fault_in_script divided Memory is = tt

pub fault_in_all : (bytes : List ℕ) → NoneDivides (cut_lines bytes) → (fault : ScriptFault)
    → IsFaultOf bytes fault → IsInputFault bytes fault
fault_in_all bytes none (Line k) is = in_all none is
fault_in_all bytes none Memory is = tt

pub line_missing : (bytes : List ℕ) (lists : List (List Cmd)) (n : ℕ) → NoneDivides (cut_lines bytes)
    → IsScript bytes lists → n ≡ length (cut_lines bytes) → IsNoAuditInput bytes (n + 1)
line_missing bytes lists n none right is =
    subst (λ k. IsNoAuditInput bytes (k + 1)) (sym is) (undivided none right)
