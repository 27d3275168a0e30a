use Rattle.std.proofs.Common.{arith}
use Rattle.hd_host.specs.Calls.{no_stamp}
use Rattle.hd_host.proofs.GrownFrees.{freed, host_freed, low, may_note, stamp_same, within}
use Rattle.hd_host.proofs.{SameHost.unchanged, SlotOfHandle.stamp_is, WholeHost.whole}
use Rattle.hd_host.proofs.GrownCalls.{called_numbers, callers_by, refl}
use Rattle.hd_host.proofs.host.Host.handle_free.Goals as goal

pub returns-then-stamp-eq-END-clause-does : goal.returns-then-stamp-eq-END-clause-does
returns-then-stamp-eq-END-clause-does c = (
  (
    c.in-Some.slot,
    c.in-Some.ensures,
    no_stamp 0 c.in-Some.slot refl
        (omega (arith, c.if-stamp-eq-END.true, c.stamp.ensures.value, (stamp_is (whole c.self.invariant.host c.self.view_is) c.in-Some.ensures))),
  ),
  unchanged c.args.self.now,
)

pub note_slot-requires : goal.note_slot-requires
note_slot-requires c =
    may_note c.self.invariant c.self.view_is c.in-Some.ensures c.free_handle.new.self c.free_handle.ensures

pub free-requires-clause-slot : goal.free-requires-clause-slot
free-requires-clause-slot c =
    within c.self.invariant c.self.view_is c.in-Some.ensures c.free_handle.new.self c.free_handle.ensures

pub free-requires-clause-live : goal.free-requires-clause-live
free-requires-clause-live c =
    low c.self.invariant c.self.view_is c.in-Some.ensures c.free_handle.new.self c.free_handle.ensures

pub free-requires-clause-end : goal.free-requires-clause-end
free-requires-clause-end c =
    omega (
      arith,
      c.if-stamp-eq-END.false,
      c.stamp.ensures.value,
      c.stamp.ensures.most,
      (stamp_is (whole c.self.invariant.host c.self.view_is) c.in-Some.ensures),
      stamp_same c.self.invariant c.self.view_is c.in-Some.ensures c.free_handle.new.self c.free_handle.ensures,
    )

pub invariant_of-self : goal.invariant_of-self
invariant_of-self c =
    host_freed c.self.invariant c.self.view_is c.in-Some.ensures c.free_handle.new.self c.free_handle.ensures c.note_slot.ensures c.free.ensures

pub returns-clause-does : goal.returns-clause-does
returns-clause-does c =
    freed c.self.invariant c.self.view_is c.in-Some.ensures c.free_handle.new.self c.free_handle.ensures c.note_slot.ensures c.free.ensures c.set.ensures
    (omega (arith, c.if-stamp-eq-END.false, c.stamp.ensures.value, c.stamp.ensures.most, (stamp_is (whole c.self.invariant.host c.self.view_is) c.in-Some.ensures)))

pub returns-clause-contexts : goal.returns-clause-contexts
returns-clause-contexts c =
    callers_by c.self.invariant c.self.view_is (called_numbers c.free_handle.ensures.0)
