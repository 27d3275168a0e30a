use Rattle.hd_cells.proofs.Basics.{IsFirstFrom, IsHeader, Some, arith, subst, sym, ℕ}
use Rattle.hd_cells.proofs.{Contents.opened, CellWalk.end_reached, CellWalk.first_seen, CellWalk.object_reached}
use Rattle.hd_cells.proofs.region.Region.object_from.Goals.{Then-self-end-ne0}
use Rattle.hd_cells.proofs.region.Region.object_from.Goals as goal

-- the object is where the last one ended
first : (c : Then-self-end-ne0) → IsFirstFrom c.args.self.now c.args.end (Some c.args.end)
first c =
    first_seen c.self.inside.cells c.self.inside.fill c.args.self.now c.args.end (Some c.args.end)
    c.self.view_is
    (object_reached c.self.inside.cells c.self.inside.fill c.args.end c.args.end
    (end_reached (opened c.self.told c.self.invariant c.self.view_is) c.args.end c.requires)
    c.if-end-self.true (omega arith) c.if-self-end-ne0.true)

pub header-requires : goal.header-requires
header-requires c = (first c).1

pub returns-then-self-end-ne0 : goal.returns-then-self-end-ne0
returns-then-self-end-ne0 c = (
  subst (λ (at : ℕ). IsFirstFrom c.args.self.now c.args.end (Some at)) (sym c.header.ensures.offset)
      (first ((goal.at.returns-then-self-end-ne0 c).Then-self-end-ne0)),
  subst (λ (at : ℕ). IsHeader c.args.self.now at c.header.result) (sym c.header.ensures.offset)
      c.header.ensures,
)
