-- The lines and their ends together are the bytes.
use Rattle.hd_script.proofs.Basics.{All, All-cons, All-head, All-nil, All-tail, Bool, LinesMakeTheBytes, List, [], ap, cond, eqb, eqb-false, eqb-true, false, flat_map, is_line_end, length, onto_first, refl, slice_split, true, without_empty_last, ℕ, ◌++◌, ◌∙◌, ◌∷◌, ◌≡◌, ◌≢◌}
use Rattle.hd_model.specs.Grammar.{lines_in}

abbrev IsOpen : List ℕ → Type 0
IsOpen line = All (λ b. b ≢ 10) line

abbrev with_end : List ℕ → List ℕ
with_end line = line ++ 10 ∷ []

-- the parts between line ends
record AreParts (bytes : List ℕ) : Type 0 where
  ended : List (List ℕ)
  last : List ℕ
  whole : bytes ≡ flat_map with_end ended ++ last
  no_end_within : All IsOpen ended
  no_end_in_last : IsOpen last
  parts : slice_split is_line_end bytes ≡ ended ++ last ∷ []

-- a byte before the parts of the rest
before : (x : ℕ) (xs : List ℕ) → x ≢ 10 → (ended : List (List ℕ)) (last : List ℕ)
    → xs ≡ flat_map with_end ended ++ last → All IsOpen ended → IsOpen last →
    slice_split is_line_end (x ∷ xs) ≡ onto_first x (ended ++ last ∷ []) → AreParts (x ∷ xs)
before x xs apart [] last whole within unended parts = record {
  ended = [];
  last = x ∷ last;
  whole = ap (λ (bytes : List ℕ). x ∷ bytes) whole;
  no_end_within = within;
  no_end_in_last = All-cons (λ b. b ≢ 10) x last apart unended;
  parts = parts;
}
before x xs apart (line ∷ ended) last whole within unended parts = record {
  ended = (x ∷ line) ∷ ended;
  last = last;
  whole = ap (λ (bytes : List ℕ). x ∷ bytes) whole;
  no_end_within = All-cons IsOpen (x ∷ line) ended
      (All-cons (λ b. b ≢ 10) x line apart (All-head IsOpen line ended within))
      (All-tail IsOpen line ended within);
  no_end_in_last = unended;
  parts = parts;
}

step : (x : ℕ) (xs : List ℕ) → AreParts xs → (t : Bool) → is_line_end x ≡ t → AreParts (x ∷ xs)
step x xs are true is = record {
  ended = [] ∷ are.ended;
  last = are.last;
  whole = rw (eqb-true x 10 is) (ap (λ (bytes : List ℕ). 10 ∷ bytes) are.whole);
  no_end_within = All-cons IsOpen [] are.ended (All-nil (λ b. b ≢ 10)) are.no_end_within;
  no_end_in_last = are.no_end_in_last;
  parts = rw (is, are.parts) refl;
}
step x xs are false is =
    before x xs (eqb-false x 10 is) are.ended are.last are.whole are.no_end_within are.no_end_in_last
    (rw (is, are.parts) refl)

parts_of : (bytes : List ℕ) → AreParts bytes
parts_of [] = record {
  ended = [];
  last = [];
  whole = refl;
  no_end_within = All-nil IsOpen;
  no_end_in_last = All-nil (λ b. b ≢ 10);
  parts = refl;
}
parts_of (x ∷ xs) = step x xs (parts_of xs) (is_line_end x) refl

-- the last part is a line if it has a byte
kept : (ended : List (List ℕ)) (last : List ℕ)
    → without_empty_last (ended ++ last ∷ []) ≡ ended ++ cond (eqb (length last) 0) [] (last ∷ [])
kept [] last = refl
kept (line ∷ []) last = ap (λ (lines : List (List ℕ)). line ∷ lines) (kept [] last)
kept (line ∷ next ∷ ended) last = ap (λ (lines : List (List ℕ)). line ∷ lines) (kept (next ∷ ended) last)

pub lines_make_the_bytes : LinesMakeTheBytes
unfolding lines_in
lines_make_the_bytes bytes =
    let are = parts_of bytes in
    record {
      ended = are.ended;
      last = are.last;
      whole = are.whole;
      no_end_within = are.no_end_within;
      no_end_in_last = are.no_end_in_last;
      lines = ap without_empty_last are.parts ∙ kept are.ended are.last;
    }
