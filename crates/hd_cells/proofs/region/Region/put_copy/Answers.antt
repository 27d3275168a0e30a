use Rattle.hd_cells.proofs.Basics.{Contents, HEADER, ap, arith, object_at, subst, with_put, ℕ, ◌+◌}
use Rattle.hd_cells.proofs.Contents.{opened, IsRead, new_laid_out}
use Rattle.hd_cells.proofs.CellWrites.{copy_put, object_put, get-fill}
use Rattle.hd_cells.proofs.{ClearedCells.cleared_put, ObjectStarts.whole_put}
use Rattle.hd_cells.proofs.region.Region.put_copy.Goals.{After-copy}
use Rattle.hd_cells.proofs.region.Region.put_copy.Goals as goal

pub returns-clause-was_free : goal.returns-clause-was_free
returns-clause-was_free c = get-fill (opened c.self.told c.self.invariant c.self.view_is)

after : (c : After-copy) → IsRead c.copy.new.cells (c.self.inside.fill + c.fields-fields.result + HEADER)
    (with_put c.args.self.now (object_at c.args.source.now c.args.from))
after c =
    let read = opened c.self.told c.self.invariant c.self.view_is in
    let fill = ap (λ (x : Contents). x.fill) c.self.view_is in
    let count = c.fields-fields.ensures.count in
    let put = copy_put read.len c.copy.array_long.0 c.object.ensures (omega (arith, c.requires.room, fill))
    (λ k below. c.copy.ensures.copied k (omega (arith, below, count))) c.copy.ensures.before in
    subst (λ (n : ℕ). IsRead c.copy.new.cells n
    (with_put c.args.self.now (object_at c.args.source.now c.args.from)))
    (omega (arith, count)) (object_put read c.requires.room put)

pub returns-clause-put : goal.returns-clause-put
returns-clause-put c = (after ((goal.at.returns-clause-put c).After-copy)).view

pub returns-clause-laid_out : goal.returns-clause-laid_out
returns-clause-laid_out c = new_laid_out (after ((goal.at.returns-clause-laid_out c).After-copy))

pub invariant_of-self : goal.invariant_of-self
invariant_of-self c =
    let read = opened c.self.told c.self.invariant c.self.view_is in
    whole_put read c.self.invariant c.self.told.1 c.part_of.result
    (object_at c.args.source.now c.args.from) c.part_of.ensures (omega (arith, c.requires.room))
    (after ((goal.at.invariant_of-self c).After-copy))
    (cleared_put (c.self.inside.fill + c.fields-fields.result + HEADER) c.self.invariant.cleared (omega arith)
    (λ k past. c.copy.ensures.after k (omega (arith, past))))
