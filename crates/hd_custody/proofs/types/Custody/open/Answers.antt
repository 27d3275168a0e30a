use Rattle.hd_custody.proofs.Basics.{Custodied, List, Option, Some, [], opening, starting, subst, sym, ℕ, ◌∙◌, ◌∷◌}
use Rattle.hd_custody.proofs.TableOpen.{starts, zero_words}
use Rattle.hd_custody.proofs.types.Custody.open.Goals as goal

pub new-requires : goal.new-requires
new-requires g c =
    let W = g.row.W.Denot in
    let m = g.W.Held in
    let Begins : List ℕ → List (Option W) → W → Type 0 = λ ws xs w.
    Custodied m (m.numbers w) (opening ws xs (starting (m.spare w) (m.numbers w))) in
    let world = c.args.world in
    subst (λ ws. Begins ws c.in-Ok-single.slots.items c.of-about.result.value)
    (sym (c.as_slice.ensures.value ∙ c.in-Ok.ensures))
    (subst (λ xs. Begins zero_words xs c.of-about.result.value) (sym c.in-Ok-single.ensures)
    (subst (λ w. Begins zero_words (Some world ∷ []) w) (sym c.of-about.ensures)
    (starts m world c.requires.unused)))
