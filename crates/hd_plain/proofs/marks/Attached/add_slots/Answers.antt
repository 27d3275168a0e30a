use Rattle.hd_plain.specs.Inside.{attaching_at}
use Rattle.hd_plain.proofs.AttachedLists.{rest_last, rest_next}
use Rattle.hd_plain.proofs.marks.Attached.add_slots.Goals as goal

pub loop-slot-preserved : goal.loop-slot-preserved
loop-slot-preserved c =
    rest_next (attaching_at c.args.weak.now) c.args.slots.now c.loop-slot.slot-index c.args.self.now
    c.loop-slot.self c.add_slot.new.self c.loop-slot.invariant c.loop-slot-test.true c.in_ok-add_slot.ensures

pub returns : goal.returns
returns c =
    rest_last (attaching_at c.args.weak.now) c.args.slots.now c.loop-slot.slot-index c.args.self.now
    c.loop-slot.self c.loop-slot.invariant c.loop-slot-test.false
