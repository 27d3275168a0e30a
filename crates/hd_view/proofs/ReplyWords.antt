-- With which words the replies begin.
use Rattle.std.proofs.Common.{List, ap, append_assoc, arith, get_or, sym, true, ℕ, ◌++◌, ◌+◌, ◌<◌, ◌∙◌, ◌≡◌}
use Rattle.std.specs.Prelude.{codes, decimal}
use Rattle.std.proofs.lemmas.Fmt.{decimal_digit}
use Rattle.hd_model.specs.declared.data.Refusal.TheVariants as refusal
use Rattle.hd_model.specs.declared.data.Reply.TheVariants as reply
use Rattle.hd_view.specs.Stated.{HasReply, begins}
use Rattle.hd_view.proofs.BegunWords.{begun}

-- no line has both replies of a `trim`
seventh : List ℕ → ℕ
seventh bytes = get_or bytes 6 0

value_at : (n : ℕ) → n < 10 → (tail : List ℕ) → HasReply tail (reply.Value n) → seventh tail ≡ 48 + n
unfolding seventh
value_at n low tail has =
    ap seventh (has.text ∙ ap (λ (digits : List ℕ). (codes "value " ++ digits) ++ has.rest) (decimal_digit n low))

pub values_apart : (tail : List ℕ) → HasReply tail (reply.Value 0) → HasReply tail (reply.Value 1) → ⊥
values_apart tail zero one =
    let zero_is = value_at 0 (omega arith) tail zero in
    let one_is = value_at 1 (omega arith) tail one in
    absurd (omega (arith, zero_is, one_is))

-- a line that has an address begins as it does
pub address_begins : (tail : List ℕ) (address : ℕ) → HasReply tail (reply.Place address)
    → begins tail (codes "addr ") ≡ true
address_begins tail address has =
    begun tail (codes "addr ") (decimal address ++ has.rest)
    (has.text ∙ append_assoc (codes "addr ") (decimal address) has.rest)

-- no line has the reply of a full table and that of a new row
first : List ℕ → ℕ
first bytes = get_or bytes 0 0

pub full_apart : (tail : List ℕ) (given : ℕ) → HasReply tail (reply.Refused (refusal.TableFull given))
    → HasReply tail reply.Done → ⊥
unfolding first
full_apart tail given full done =
    let same : 116 ≡ 111 = ap first (sym full.text ∙ done.text) in
    absurd (omega (arith, same))
