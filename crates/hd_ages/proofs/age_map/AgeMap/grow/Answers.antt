use Rattle.hd_ages.proofs.Basics.{ap, grown, with_ages, ◌∙◌}
use Rattle.hd_ages.proofs.age_map.AgeMap.grow.Goals as goal

pub returns : goal.returns
returns c =
    c.set_word.ensures
    ∙ (λ i.
    with_ages c.args.block ((c.grow-word.ensures.ages ∙ ap (grown c.args.n) c.word.ensures.ages) i)
    c.args.self.now)
