-- Exchanges, journals and counts that grow by one.
use Rattle.std.proofs.Common.{◌≡◌, ℕ, ◌+◌, ◌<◌, ◌≤◌, ◌==◌, ⊎_elim, Bool, false, true, cond, Contains, List, [], ◌∷◌, ◌++◌, length, length-append, map, refl, subst, sym, ap, take, take_all, ◌∙◌, append-nil, append_assoc, arith, codes, decimal, count_by}
use Rattle.std.proofs.lemmas.Bool.{cases_lt}
use Rattle.std.proofs.lemmas.Grind.{common_steps}
use Rattle.std.proofs.lemmas.List.{get_or_append_left, get_or_push, map-append, take-append-le}
use Rattle.std.proofs.lemmas.List.Elements.{Contains-append_left, Contains-push, Contains-push_cases}
use Rattle.std.proofs.lemmas.List.Folds.{concat-append}
use Rattle.std.proofs.lemmas.List.Sums.{fold-append}
use Rattle.std.specs.List.{concat}
use Rattle.hd_model.specs.declared.data.Entry.{Entry}
use Rattle.hd_model.specs.declared.data.Reply.{Reply}
use Rattle.hd_model.specs.Grammar.{words_of}
use Rattle.hd_model.specs.Text.{entry_text, lines_of, numbered_after, newline, reply_text}
use Rattle.hd_step.specs.Dialogue.{Exchange, HasFaulty, Said, after_words, exchange_at, is_own, lines_of_all, replies_of_all, reply_in, said_by, text_of_all}

-- the line of an entry goes by its caller and its reply
pub same_text : (d e : Entry) (n : ℕ) → d.caller ≡ e.caller → d.reply ≡ e.reply
    → entry_text d n ≡ entry_text e n
same_text d e n caller reply =
    ap (λ (c : ℕ). decimal c ++ codes " " ++ decimal n ++ codes " " ++ reply_text d.reply ++ newline) caller
    ∙ ap (λ (r : Reply). decimal e.caller ++ codes " " ++ decimal n ++ codes " " ++ reply_text r ++ newline)
    reply

-- the number of entries of a caller
abbrev pub count_of : ℕ → List Entry → ℕ
count_of caller es = count_by (λ (e : Entry). e.caller == caller) es

pub count_push : (p : Entry → Bool) (xs : List Entry) (y : Entry)
    → count_by p (xs ++ y ∷ []) ≡ count_by p xs + cond (p y) 1 0
count_push p [] y = grind (arith, common_steps)
count_push p (x ∷ xs) y = let more = count_push p xs y in grind (arith, common_steps, more)

numbered_push : (make : Entry → ℕ → List ℕ) (before xs : List Entry) (e : Entry)
    → numbered_after make before (xs ++ e ∷ [])
    ≡ numbered_after make before xs ++ make e (count_of e.caller (before ++ xs) + 1) ∷ []
numbered_push make before [] e =
    ap (λ (b : List Entry). make e (count_of e.caller b + 1) ∷ []) (sym (append-nil before))
numbered_push make before (x ∷ xs) e =
    ap (λ (l : List (List ℕ)). make x (count_of x.caller before + 1) ∷ l)
    (numbered_push make (before ++ x ∷ []) xs e
    ∙ ap (λ (b : List Entry). numbered_after make (before ++ x ∷ []) xs
    ++ make e (count_of e.caller b + 1) ∷ []) (append_assoc before (x ∷ []) xs))

concat_push : (xss : List (List ℕ)) (xs : List ℕ) → concat (xss ++ xs ∷ []) ≡ concat xss ++ xs
concat_push xss xs = concat-append xss (xs ∷ []) ∙ ap (λ (t : List ℕ). concat xss ++ t) (append-nil xs)

-- one entry more is one line more
pub lines_push : (journal : List Entry) (e : Entry) → lines_of (journal ++ e ∷ [])
    ≡ lines_of journal ++ entry_text e (count_of e.caller journal + 1)
lines_push journal e =
    ap concat (numbered_push entry_text [] journal e)
    ∙ concat_push (numbered_after entry_text [] journal) (entry_text e (count_of e.caller journal + 1))

-- one exchange more
module _ (xs : List Exchange) (x : Exchange) where
  pub all_lines_push : lines_of_all (xs ++ x ∷ []) ≡ lines_of_all xs ++ x.line ∷ []
  all_lines_push = map-append (λ (y : Exchange). y.line) xs (x ∷ [])

  pub said_push : said_by (lines_of_all (xs ++ x ∷ []))
      ≡ after_words (said_by (lines_of_all xs)) (words_of x.line)
  said_push =
      ap said_by all_lines_push
      ∙ fold-append (λ (s : Said) (line : List ℕ). after_words s (words_of line))
      (record { caller = 0; turns = []; left_out = false }) (lines_of_all xs) (x.line ∷ [])

  pub text_push : text_of_all (xs ++ x ∷ []) ≡ text_of_all xs ++ x.text
  text_push = ap concat (map-append (λ (y : Exchange). y.text) xs (x ∷ []))
      ∙ concat_push (map (λ (y : Exchange). y.text) xs) x.text

  pub replies_push : replies_of_all (xs ++ x ∷ []) ≡ replies_of_all xs ++ reply_in x
  replies_push = ap concat (map-append reply_in xs (x ∷ [])) ∙ concat_push (map reply_in xs) (reply_in x)

-- what holds of each exchange behind those before it
module _ (P : List Exchange → Exchange → Type 0) (xs : List Exchange) (x : Exchange) where
  pub each_push : ((k : ℕ) → k < length xs → P (take k xs) (exchange_at xs k)) → P xs x
      → (k : ℕ) → k < length (xs ++ x ∷ []) → P (take k (xs ++ x ∷ [])) (exchange_at (xs ++ x ∷ []) k)
  each_push each last k within =
      ⊎_elim
      (λ (old : k < length xs).
      subst (λ before. P before (exchange_at (xs ++ x ∷ []) k))
      (sym (take-append-le k xs (x ∷ []) (omega (arith, old))))
      (subst (λ y. P (take k xs) y) (sym (get_or_append_left xs (x ∷ []) none k old)) (each k old)))
      (λ (past : length xs ≤ k).
      let at : length xs ≡ k = omega (arith, past, within, length-append xs (x ∷ [])) in
      subst (λ j. P (take j (xs ++ x ∷ [])) (exchange_at (xs ++ x ∷ []) j)) at
      (subst (λ before. P before (exchange_at (xs ++ x ∷ []) (length xs)))
      (sym (take-append-le (length xs) xs (x ∷ []) (omega arith) ∙ take_all (length xs) xs (omega arith)))
      (subst (λ y. P xs y) (sym (get_or_push xs x none (length xs) refl)) last)))
      (cases_lt k (length xs))
    where
      none : Exchange
      none = record { line = []; text = [] }

-- the faulty ones among exchanges and one more
module _ (F : List (List ℕ) → Type 0) (xs : List Exchange) (x : Exchange) where
  pub faulty_more : HasFaulty F xs → HasFaulty F (xs ++ x ∷ [])
  faulty_more has = (has.0, Contains-append_left xs (x ∷ []) has.0 has.1, has.2, has.3)

  pub faulty_last : is_own (words_of x.line) ≡ true → F (words_of x.line) → HasFaulty F (xs ++ x ∷ [])
  faulty_last own fault = (x, Contains-push xs x, own, fault)

  pub faulty_before : (is_own (words_of x.line) ≡ true → F (words_of x.line) → ⊥) → HasFaulty F (xs ++ x ∷ [])
      → HasFaulty F xs
  faulty_before sound has =
      ⊎_elim (λ before. (has.0, before, has.2, has.3))
      (λ same. absurd (sound (subst (λ (y : Exchange). is_own (words_of y.line) ≡ true) (sym same) has.2)
      (subst (λ (y : Exchange). F (words_of y.line)) (sym same) has.3)))
      (Contains-push_cases xs x has.0 has.1)
