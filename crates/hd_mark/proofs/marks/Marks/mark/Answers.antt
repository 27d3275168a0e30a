use Rattle.hd_mark.proofs.Basics.{IsTraced, MarksOf, [], ap, arith, drop, fields_at, nil_from_length, object_at, objects_of, subst, ◌∷◌, ◌≡◌}
use Rattle.hd_mark.proofs.MarkDrain.{bare_done, bare_drained, marked_before, marked_since, one_left}
use Rattle.hd_mark.proofs.marks.Marks.mark.Goals.{Then-bare}
use Rattle.hd_mark.proofs.marks.Marks.mark.Goals as goal

traced : (c : Then-bare) → IsTraced c.push_new.new.self
traced c = subst IsTraced c.self.view_is c.self.invariant.traced

one : (c : Then-bare) → c.push_new.new.self.unscanned ≡ c.args.at ∷ []
one c =
    one_left c.args.at c.push_new.ensures.after c.requires.settled
    (c.push_new.ensures.is_new c.if-push_new.true)

bare : (c : Then-bare) → fields_at (objects_of c.push_new.new.self.basis) c.args.at ≡ []
bare c =
    subst (λ (m : MarksOf). fields_at (objects_of m.basis) c.args.at ≡ []) c.self.view_is
    (nil_from_length (fields_at (object_at c.self.inside.heap.now) c.args.at)
    (omega (arith, c.fields-bare.ensures.count, c.if-bare.true)))

pub pass_last-requires-clause-next : goal.pass_last-requires-clause-next
pass_last-requires-clause-next c =
    let here = (goal.at.pass_last-requires-clause-next c).Then-bare in bare_done (traced here) (one here) (bare here)

pub pass_last-requires-clause-last : goal.pass_last-requires-clause-last
pass_last-requires-clause-last c = ap (drop 1) (one (goal.at.pass_last-requires-clause-last c).Then-bare)

pub returns-then-bare : goal.returns-then-bare
returns-then-bare c =
    let here = (goal.at.returns-then-bare c).Then-bare in
    marked_since c.args.at c.push_new.ensures.after c.requires.settled
    (c.push_new.ensures.is_new c.if-push_new.true)
    (bare_drained (traced here) (one here) (bare here) c.pass_last.ensures.after c.pass_last.ensures.traced)

pub returns-else-bare : goal.returns-else-bare
returns-else-bare c =
    let d = c.drain.ensures in
    marked_since c.args.at c.push_new.ensures.after c.requires.settled
    (c.push_new.ensures.is_new c.if-push_new.true)
    (record { settled = d.settled; basis = d.basis; pins = d.pins; grows = d.grows; log = d.log })

pub returns-else-push_new : goal.returns-else-push_new
returns-else-push_new c =
    marked_before c.args.at c.push_new.ensures.after c.requires.settled
    (c.push_new.ensures.is_old c.if-push_new.false)
