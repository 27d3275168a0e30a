-- Bytes that begin with others.
use Rattle.std.proofs.Common.{List, ap, arith, drop, false, length, length-append, refl, subst, sym, take, true, ℕ, ◌++◌, ◌-◌, ◌∙◌, ◌≡◌}
use Rattle.std.specs.Prelude.{Bool, IsTrue, bytes_eq, nat_le, ◌&&◌, ◌↔◌}
use Rattle.std.proofs.lemmas.Bool.{and_parts, le-leb, true≢false}
use Rattle.std.proofs.lemmas.List.{drop_at, take-append-drop, take_at, take_rest}
use Rattle.std.proofs.lemmas.Slice.Eq.{bytes_eq-Decides}
use Rattle.hd_model.specs.declared.data.Reply.{Reply}
use Rattle.hd_model.specs.Text.{reply_text}
use Rattle.hd_view.specs.Stated.{EndsWord, HasReply, begins}

module _ (bytes text : List ℕ) where
  -- what follows them
  pub behind : begins bytes text ≡ true → bytes ≡ text ++ drop (length text) bytes
  behind is =
      let both = and_parts (nat_le (length text) (length bytes))
      (bytes_eq (take (length text) bytes) text) is in
      sym (take-append-drop (length text) bytes)
      ∙ ap (λ (l : List ℕ). l ++ drop (length text) bytes)
      ((bytes_eq-Decides (take (length text) bytes) text).0 both.1)

  pub begun : (rest : List ℕ) → bytes ≡ text ++ rest → begins bytes text ≡ true
  begun rest is =
      let equal : bytes_eq (take (length text) bytes) text ≡ true =
      (bytes_eq-Decides (take (length text) bytes) text).1
      (ap (take (length text)) is ∙ take_at text rest (length text) refl) in
      let fits : nat_le (length text) (length bytes) ≡ true =
      le-leb (length text) (length bytes) (omega (arith, ap length is, length-append text rest)) in
      λ i. fits i && equal i

  pub behind_is : (rest : List ℕ) → bytes ≡ text ++ rest → drop (length text) bytes ≡ rest
  behind_is rest is = ap (drop (length text)) is ∙ drop_at text rest (length text) refl

-- a reply, and the end of a word behind it
module _ (tail text : List ℕ) (reply : Reply) (is : text ≡ reply_text reply) where
  its_text : (h : HasReply tail reply) → tail ≡ text ++ h.rest
  its_text h = h.text ∙ ap (λ (l : List ℕ). l ++ h.rest) (sym is)

  pub reply_behind : begins tail text ≡ true → (ends : Bool)
      → IsTrue ends ↔ EndsWord (take (length tail - length text) (drop (length text) tail))
      → IsTrue ends ↔ HasReply tail reply
  reply_behind begins_so ends read = (
    λ t. record {
      rest = drop (length text) tail;
      text = behind tail text begins_so ∙ ap (λ (l : List ℕ). l ++ drop (length text) tail) is;
      word = test.0 t;
    },
    λ h. test.1 (subst (λ (l : List ℕ). EndsWord l) (sym (behind_is tail text h.rest (its_text h))) h.word),
  )
    where
      test : IsTrue ends ↔ EndsWord (drop (length text) tail)
      test = subst (λ (l : List ℕ). IsTrue ends ↔ EndsWord l) (take_rest tail (length text)) read

  pub no_reply : (test : Bool) → test ≡ begins tail text → test ≡ false → IsTrue test ↔ HasReply tail reply
  no_reply test test_is not_so = (
    λ t. absurd (true≢false (sym t ∙ not_so)),
    λ h. absurd (true≢false (sym (begun tail text h.rest (its_text h)) ∙ sym test_is ∙ not_so)),
  )
