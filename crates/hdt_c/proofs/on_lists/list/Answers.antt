use Rattle.std.proofs.Common.{arith, length, ◌≡◌, ◌<◌, ◌≤◌}
use Rattle.hdt_c.proofs.Listings.{ends_full, ends_none, goes_next, starts}
use Rattle.hdt_c.proofs.on_lists.list.Goals as goal

pub loop-i-init : goal.loop-i-init
loop-i-init c = starts c.args.from c.args.out.now

pub returns-in_default : goal.returns-in_default
returns-in_default c =
    let room : c.loop-i.i ≤ length c.args.out.now = omega
    (arith, c.loop-i-test.true, c.loop-i.auto.i-end, c.loop-i.invariant.same) in
    ends_none c.loop-i.invariant room c.in_default.ensures.next

pub overflow_add-at : goal.overflow_add-at
overflow_add-at c = omega (arith, c.in-Some.ensures.few)

pub loop-i-preserved : goal.loop-i-preserved
loop-i-preserved c =
    let low : c.loop-i.i < length c.args.out.now = omega
    (arith, c.loop-i-test.true, c.loop-i.auto.i-end, c.loop-i.invariant.same) in
    goes_next c.loop-i.invariant low c.in-Some.listed c.in-Some.ensures.next _
    (λ i. record {
      handle = c.in-Some.listed.handle.0;
      target = c.number_of.ensures i;
      kind = c.number_of_kind.ensures i;
      extra = c.number_of_extra.ensures i;
    })

pub returns : goal.returns
returns c =
    let all : c.loop-i.i ≡ length c.args.out.now = omega
    (arith, c.loop-i-test.false, c.loop-i.auto.i-end, c.loop-i.invariant.same) in
    let count : length c.loop-i.out ≡ c.loop-i.i = omega (arith, all, c.loop-i.invariant.same) in
    ends_full c.loop-i.invariant all count c.slot_after.ensures
