use Rattle.hd_cwt.proofs.Basics.{IsSome, IsWeakTable, WeakTable, ap, arith, copied, get, slots_of, subst, sym, ◌∙◌}
use Rattle.hd_cwt.proofs.Copies.{all_copied, copied_on, copy_new, copy_room, none_copied}
use Rattle.hd_cwt.proofs.cwt.Cwt.larger.Goals as goal

pub loop-slot-init : goal.loop-slot-init
loop-slot-init c = none_copied c.args.blocks c.args.buckets c.args.self.now c.in_ok-larger.ensures

pub copy-requires-clause-room : goal.copy-requires-clause-room
copy-requires-clause-room c = λ some.
    copy_room c.loop-slot.invariant (subst IsWeakTable c.self.view_is c.self.invariant.table)
    c.requires.blocks.0
    (subst IsSome (c.get.ensures ∙ ap (λ (t : WeakTable). get t.held c.loop-slot.slot) c.self.view_is) some)

pub copy-requires-clause-new : goal.copy-requires-clause-new
copy-requires-clause-new c = λ key has.
    copy_new c.loop-slot.invariant (subst IsWeakTable c.self.view_is c.self.invariant.table) key
    (sym (c.get.ensures ∙ ap (λ (t : WeakTable). get t.held c.loop-slot.slot) c.self.view_is) ∙ has)

pub loop-slot-preserved : goal.loop-slot-preserved
loop-slot-preserved c =
    copied_on c.loop-slot.invariant (c.copy.ensures
    ∙ ap (copied c.loop-slot.larger c.loop-slot.slot)
    (c.get.ensures ∙ ap (λ (t : WeakTable). get t.held c.loop-slot.slot) c.self.view_is))

pub returns : goal.returns
returns c =
    all_copied c.loop-slot.invariant (subst IsWeakTable c.self.view_is c.self.invariant.table)
    (omega (arith, c.loop-slot-test.false, c.slots-slot-end.ensures, ap slots_of c.self.view_is))
