use Rattle.std.proofs.Common.{refl, subst, sym, ◌∙◌, true≢false}
use Rattle.hd_model.specs.declared.data.Grown.TheVariants.{Zero}
use Rattle.hd_model.specs.Step.{MayGive}
use Rattle.hd_audit.specs.Before.{IsGrowthFor}
use Rattle.hd_view.proofs.RowCauses.{growth_gives}
use Rattle.hd_view.proofs.cause.may_give.Goals as goal

pub returns-then-same_blocks : goal.returns-then-same_blocks
returns-then-same_blocks c =
    let k = c.args.before.now in
    let none = subst (λ g. IsGrowthFor k.numbers k.state c.args.kind g) (c.same_blocks.ensures.0 c.if-same_blocks.true)
    c.growth-grown.ensures in (
      λ t. let free = c.any_free.ensures.0 t in (free.0, (Zero, free.1)),
      λ some. c.any_free.ensures.1 (
        some.0,
        subst (λ g. MayGive k.numbers k.state c.args.kind g some.0) (none some.1.0 some.0 some.1.1) some.1.1,
      ),
    )

pub returns-else-same_blocks : goal.returns-else-same_blocks
returns-else-same_blocks c =
    let k = c.args.before.now in (
      λ _. growth_gives k c.args.kind c.growth-grown.result c.growth-grown.ensures
          (λ zero. true≢false (sym (c.same_blocks.ensures.1 zero) ∙ c.if-same_blocks.false)),
      λ _. refl,
    )
