use Rattle.std.proofs.lemmas.Result.{MatchResult-weaker}
use Rattle.hd_tiers.proofs.Basics.{ap, ◌∙◌}
use Rattle.hd_tiers.proofs.MaskMembers.{few_after, lengthened, seen}
use Rattle.hd_tiers.proofs.masks.MasksNumbers.reserve.Goals as goal

pub invariant_of-self : goal.invariant_of-self
invariant_of-self c = few_after _ _ _ c.lengthen.result c.lengthen.ensures c.self.invariant c.requires

pub returns : goal.returns
returns c =
    MatchResult-weaker c.lengthen.result c.lengthen.ensures
    (λ _ more. lengthened more c.args.self.now c.self.view_is)
    (λ _ same. ap seen same ∙ c.self.view_is)
