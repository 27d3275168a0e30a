use Rattle.std.proofs.Common.{refl, true, ◌*◌, ◌+◌}
use Rattle.hd_model.specs.declared.limits.TheConstants.{ROWS}
use Rattle.hd_view.specs.Inside.{IsFreeAs}
use Rattle.hd_view.proofs.RangeSets.{any_to}
use Rattle.hd_view.proofs.SlotSets.{free_below}
use Rattle.hd_view.proofs.accepted.any_free.Goals as goal

pub returns : goal.returns
returns c =
    let s = c.args.before.now.state in
    let both = any_to (IsFreeAs s c.args.kind true) ((c.blocks-2.result + 1) * ROWS)
    (λ x free. free_below s c.args.kind c.blocks-2.result c.blocks-2.ensures.used x (free.1 refl)) c.first_of.result
    c.is_some.result c.is_some.ensures c.first_of.ensures in (
      λ t. let free = both.0 t in (record { 0 = free.0 }, free.1.1 refl),
      λ some. both.1 (some.0.0, (λ _. refl, λ _. some.1)),
    )
