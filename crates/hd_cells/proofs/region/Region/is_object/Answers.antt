use Rattle.hd_cells.proofs.Basics.{arith}
use Rattle.hd_cells.proofs.{Contents.opened, ObjectStarts.none_late}
use Rattle.hd_cells.proofs.region.Region.is_object.Goals as goal

pub returns-then-at : goal.returns-then-at
returns-then-at c = (
  (λ never. absurd (cc never)),
  (λ there. absurd
      (none_late (opened c.self.told c.self.invariant c.self.view_is) c.args.at
      (omega (arith, c.if-at.true)) there)),
)
