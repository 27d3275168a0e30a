use Rattle.hd_heap.proofs.Basics.{None, arith, get_or, refl, ◌+◌}
use Rattle.hd_heap.proofs.FieldFill.{filling_ends, filling_long, filling_next, filling_null, filling_starts, filling_there}
use Rattle.hd_heap.specs.Inside.{stored_target}
use Rattle.hd_heap.proofs.filling.fill_fields.Goals as goal

pub loop-i-init : goal.loop-i-init
loop-i-init c = (
  filling_starts _ c.args.src.now c.args.region.now c.args.at c.requires.object,
  c.requires.laid_out,
)

pub fill_field-requires-clause-laid_out : goal.fill_field-requires-clause-laid_out
fill_field-requires-clause-laid_out c = c.loop-i.invariant.1

pub fill_field-requires-clause-object : goal.fill_field-requires-clause-object
fill_field-requires-clause-object c = filling_there c.loop-i.invariant.0

pub fill_field-requires-clause-within : goal.fill_field-requires-clause-within
fill_field-requires-clause-within c =
    let long = filling_long c.loop-i.invariant.0 in
    omega (arith, long, c.requires.number, c.loop-i-test.true)

pub fill_field-requires-clause-null : goal.fill_field-requires-clause-null
fill_field-requires-clause-null c = filling_null c.loop-i.invariant.0 (c.requires.null c.loop-i.i)

pub loop-i-preserved : goal.loop-i-preserved
loop-i-preserved c = (
  filling_next c.loop-i.invariant.0 c.fill_field.new.region
      (stored_target (get_or c.args.targets.now (c.args.first + get_or c.args.src.now c.loop-i.i 0) None))
      c.loop-i-test.true refl c.fill_field.ensures.written,
  c.fill_field.ensures.laid_out,
)

pub returns-clause-written : goal.returns-clause-written
returns-clause-written c =
    filling_ends c.loop-i.invariant.0 (omega (arith, c.loop-i-test.false, c.loop-i.auto.i-end))
    c.requires.number
