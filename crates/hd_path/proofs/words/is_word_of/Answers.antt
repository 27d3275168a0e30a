use Rattle.std.proofs.Common.{List, ap, arith, sym, ℕ, ◌++◌, ◌∙◌, ◌≡◌}
use Rattle.std.proofs.lemmas.Bool.Decides.{Decides-eqb}
use Rattle.std.proofs.lemmas.Slice.Eq.{slice_eq-Decides}
use Rattle.hd_model.specs.Text.{identity_text}
use Rattle.hd_path.proofs.words.is_word_of.Goals as goal

pub returns : goal.returns
returns c =
    let decides = slice_eq-Decides Decides-eqb _ _ _ c.eq.ensures in
    let line : c.as_bytes.result.now ≡ identity_text c.args.id =
    c.as_bytes.ensures ∙ c.push_identity.ensures.text
    ∙ ap (λ (l : List ℕ). l ++ identity_text c.args.id) c.new-line.ensures in (
      (λ t. record {
        caller = omega arith;
        serial = omega arith;
        text = sym c.as_bytes-2.ensures.value ∙ sym (decides.0 t) ∙ line;
      }),
      (λ w. decides.1 (line ∙ sym w.text ∙ sym c.as_bytes-2.ensures.value)),
    )
