use Rattle.std.proofs.lemmas.Result.{MatchResult-weaker}
use Rattle.hd_ages.proofs.Basics.{HasYoung, NumberSet, ages_of, ap, arith, subst, sym, ◌∙◌}
use Rattle.hd_ages.proofs.BlockCount.{ages_longer, reserved, widened}
use Rattle.hd_ages.proofs.age_map.AgeMap.reserve.Goals as goal

pub invariant_of-self-in_err-reserve-2 : goal.invariant_of-self-in_err-reserve-2
invariant_of-self-in_err-reserve-2 c =
    let map = c.self.invariant in (
      map.0,
      map.1,
      map.2,
      map.3,
      widened _ c.in_ok-reserve.ensures map.4,
      subst (HasYoung 1 c.self.inside.words.items) (sym c.in_err-reserve-2.ensures) map.5,
    )

pub invariant_of-self-2 : goal.invariant_of-self-2
invariant_of-self-2 c =
    let map = c.self.invariant in
    reserved c.lengthen.result c.lengthen.ensures c.requires
    (omega (arith, ap (λ (s : NumberSet). s.room) c.in_ok-reserve.ensures))
    (omega (arith, ap (λ (s : NumberSet). s.room) c.in_ok-reserve-2.ensures)) (
      map.0,
      map.1,
      map.2,
      map.3,
      widened _ c.in_ok-reserve.ensures map.4,
      widened _ c.in_ok-reserve-2.ensures map.5,
    )

pub returns : goal.returns
returns c =
    MatchResult-weaker c.lengthen.result c.lengthen.ensures
    (λ _ is. ap ages_of is ∙ ages_longer c.self.inside.words.items c.args.blocks c.self.view_is)
    (λ _ same. ap ages_of same ∙ c.self.view_is)
