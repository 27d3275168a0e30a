use Rattle.std.proofs.lemmas.Result.{MatchResult-from_err}
use Rattle.hd_seg.proofs.Basics.{None, ROWS, Vectors, arith, refl, ◌*◌, ◌+◌}
use Rattle.hd_model.specs.declared.handle.Extra.TheVariants.{Nothing}
use Rattle.hd_seg.proofs.MoreBlocks.{long_enough}
use Rattle.hd_seg.proofs.MoreRows.{longer_by, longer_none, seg-longer, seg-reserved, view-longer, view-reserved}
use Rattle.hd_seg.proofs.RowVectors.{is_table}
use Rattle.hd_seg.proofs.seg.Seg.reserve.Goals as goal

pub returns-in_err-lengthen-clause-table : goal.returns-in_err-lengthen-clause-table
returns-in_err-lengthen-clause-table c =
    is_table (seg-longer c.self.invariant _ (longer_none _ None c.in_err-lengthen.ensures)
    (longer_none _ Nothing refl) (longer_none _ 0 refl))

pub invariant_of-self-in_err-lengthen-2 : goal.invariant_of-self-in_err-lengthen-2
invariant_of-self-in_err-lengthen-2 c =
    seg-longer c.self.invariant _ (longer_by _ (ROWS * (c.args.blocks + 1)) None c.in_ok-lengthen.ensures)
    (longer_none _ Nothing c.in_err-lengthen-2.ensures) (longer_none _ 0 refl)

pub returns-in_err-lengthen-2-clause-after : goal.returns-in_err-lengthen-2-clause-after
returns-in_err-lengthen-2-clause-after c =
    MatchResult-from_err c.from_residual-in_err-lengthen-2.result _ _
    c.from_residual-in_err-lengthen-2.ensures.0 (λ _.
    view-longer c.self.invariant _ (longer_by _ (ROWS * (c.args.blocks + 1)) None c.in_ok-lengthen.ensures)
    (longer_none _ Nothing c.in_err-lengthen-2.ensures) (longer_none _ 0 refl) c.self.view_is)

pub returns-in_err-lengthen-2-clause-table : goal.returns-in_err-lengthen-2-clause-table
returns-in_err-lengthen-2-clause-table c = is_table (invariant_of-self-in_err-lengthen-2 c)

pub invariant_of-self-in_err-lengthen-3 : goal.invariant_of-self-in_err-lengthen-3
invariant_of-self-in_err-lengthen-3 c =
    seg-longer c.self.invariant _ (longer_by _ (ROWS * (c.args.blocks + 1)) None c.in_ok-lengthen.ensures)
    (longer_by _ (ROWS * (c.args.blocks + 1)) Nothing c.in_ok-lengthen-2.ensures)
    (longer_none _ 0 c.in_err-lengthen-3.ensures)

pub returns-in_err-lengthen-3-clause-after : goal.returns-in_err-lengthen-3-clause-after
returns-in_err-lengthen-3-clause-after c =
    MatchResult-from_err c.from_residual-in_err-lengthen-3.result _ _
    c.from_residual-in_err-lengthen-3.ensures.0 (λ _.
    view-longer c.self.invariant _ (longer_by _ (ROWS * (c.args.blocks + 1)) None c.in_ok-lengthen.ensures)
    (longer_by _ (ROWS * (c.args.blocks + 1)) Nothing c.in_ok-lengthen-2.ensures)
    (longer_none _ 0 c.in_err-lengthen-3.ensures) c.self.view_is)

pub returns-in_err-lengthen-3-clause-table : goal.returns-in_err-lengthen-3-clause-table
returns-in_err-lengthen-3-clause-table c = is_table (invariant_of-self-in_err-lengthen-3 c)

pub invariant_of-self-2 : goal.invariant_of-self-2
invariant_of-self-2 c =
    seg-reserved (seg-longer c.self.invariant _
    (longer_by _ (ROWS * (c.args.blocks + 1)) None c.in_ok-lengthen.ensures)
    (longer_by _ (ROWS * (c.args.blocks + 1)) Nothing c.in_ok-lengthen-2.ensures)
    (longer_by _ (c.args.blocks + 1) 0 c.in_ok-lengthen-3.ensures))
    c.args.blocks c.reserve.result c.reserve.ensures.after c.reserve.ensures.table
    (omega (arith, long_enough _ (ROWS * (c.args.blocks + 1)) None c.in_ok-lengthen.ensures))
    (omega (arith, long_enough _ (ROWS * (c.args.blocks + 1)) Nothing c.in_ok-lengthen-2.ensures))
    (omega (arith, long_enough _ (c.args.blocks + 1) 0 c.in_ok-lengthen-3.ensures))

pub returns-clause-after : goal.returns-clause-after
returns-clause-after c =
    let v : Vectors = record {
      targets = c.lengthen.new.items.items;
      extras = c.lengthen-2.new.items.items;
      masks = c.lengthen-3.new.items.items;
    } in
    let targets = longer_by c.self.inside.targets.items (ROWS * (c.args.blocks + 1)) None
    c.in_ok-lengthen.ensures in
    let extras = longer_by c.self.inside.extras.items (ROWS * (c.args.blocks + 1)) Nothing
    c.in_ok-lengthen-2.ensures in
    let masks = longer_by c.self.inside.masks.items (c.args.blocks + 1) 0 c.in_ok-lengthen-3.ensures in
    view-reserved (seg-longer c.self.invariant v targets extras masks) c.args.blocks c.reserve.new.self
    c.reserve.result c.reserve.ensures.after
    (view-longer c.self.invariant v targets extras masks c.self.view_is)

pub returns-clause-table : goal.returns-clause-table
returns-clause-table c = is_table (invariant_of-self-2 c)
