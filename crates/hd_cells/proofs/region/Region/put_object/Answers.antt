use Rattle.hd_cells.proofs.Basics.{CELLS, Contents, HEADER, ap, arith, cell, length-replicate, new_object, set, subst, with_put, ℕ, ◌+◌, ◌<◌, ◌≡◌, ◌≤◌}
use Rattle.hd_cells.proofs.Contents.{opened, IsRead, new_laid_out}
use Rattle.hd_cells.proofs.CellWrites.{cells_new, new_put, object_put, get-fill}
use Rattle.hd_cells.proofs.ClearedCells.{all_cleared, cleared_new}
use Rattle.hd_cells.proofs.ObjectStarts.{whole_put}
use Rattle.hd_cells.proofs.region.Region.put_object.Goals.{After-shape}
use Rattle.hd_cells.proofs.region.Region.put_object.Goals as goal

pub clear-requires : goal.clear-requires
clear-requires c = c.self.invariant.cleared.within

pub returns-clause-was_free : goal.returns-clause-was_free
returns-clause-was_free c = get-fill (opened c.self.told c.self.invariant c.self.view_is)

-- the cells from the allocation pointer on, once what was left is cleared
zeros : (c : After-shape) (k : ℕ) → c.self.inside.fill ≤ k → k < CELLS → cell c.clear.new.cells k ≡ 0
zeros c = all_cleared c.clear.new.cells c.self.invariant.cleared c.clear.ensures.cleared c.clear.ensures.after

after : (c : After-shape)
    → IsRead (set (set c.clear.new.cells c.self.inside.fill c.args.id) (c.self.inside.fill + 1) c.shape.result)
    (c.self.inside.fill + c.args.fields + HEADER)
    (with_put c.args.self.now (new_object c.args.id c.args.fields c.args.registered))
after c =
    let read = opened c.self.told c.self.invariant c.self.view_is in
    let fill = ap (λ (x : Contents). x.fill) c.self.view_is in
    let long = length-replicate c.args.fields (let z : ℕ = 0 in z) in
    let room : c.self.inside.fill + c.args.fields + HEADER ≤ CELLS = omega (arith, c.requires.room, fill) in
    let put = new_put c.args.registered read.len c.requires.identified c.requires.few_fields room
    (rw c.from.ensures at c.shape.ensures)
    (cells_new c.self.inside.cells c.clear.new.cells c.self.inside.fill c.args.id c.args.fields c.shape.result
    room read.len (omega (arith, c.clear.auto.cells, read.len)) c.clear.ensures.before (zeros c)) in
    subst (λ (n : ℕ). IsRead (set (set c.clear.new.cells c.self.inside.fill c.args.id)
    (c.self.inside.fill + 1) c.shape.result) n
    (with_put c.args.self.now (new_object c.args.id c.args.fields c.args.registered)))
    (omega (arith, long)) (object_put read (omega (arith, c.requires.room, long)) put)

pub returns-clause-put : goal.returns-clause-put
returns-clause-put c = (after ((goal.at.returns-clause-put c).After-shape)).view

pub returns-clause-laid_out : goal.returns-clause-laid_out
returns-clause-laid_out c = new_laid_out (after ((goal.at.returns-clause-laid_out c).After-shape))

pub invariant_of-self : goal.invariant_of-self
invariant_of-self c =
    let read = opened c.self.told c.self.invariant c.self.view_is in
    let d = (goal.at.invariant_of-self c).After-shape in
    whole_put read c.self.invariant c.self.told.1 c.part_of.result
    (new_object c.args.id c.args.fields c.args.registered) c.part_of.ensures (omega (arith, c.requires.room))
    (after d)
    (cleared_new d.clear.new.cells d.self.inside.fill d.args.id d.shape.result
    (d.self.inside.fill + d.args.fields + HEADER) (omega arith) (zeros d))
