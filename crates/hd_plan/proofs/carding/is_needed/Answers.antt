use Rattle.hd_plan.proofs.Basics.{both_ways, card_of, refl, subst}
use Rattle.hd_plan.proofs.CommitCards.{AreUnneeding, unneeding_starts, unneeding_object, unneeding_found, unneeding_next, unneeding_less, unneeding_ends}
use Rattle.hd_plan.proofs.carding.is_needed.Goals as goal

pub loop-next-init : goal.loop-next-init
loop-next-init c = unneeding_starts c.args.heap.now c.args.first c.requires.object c.requires.first

pub names_younger-requires-clause-object : goal.names_younger-requires-clause-object
names_younger-requires-clause-object c =
    unneeding_object c.loop-next.invariant c.in-Some.at c.in-Some.is

pub returns-then-names_younger : goal.returns-then-names_younger
returns-then-names_younger c = (
  λ e. unneeding_found c.loop-next.invariant c.in-Some.at c.in-Some.is
      (c.names_younger.ensures.0 c.if-names_younger.true),
  λ n. refl,
)

pub loop-next-preserved : goal.loop-next-preserved
loop-next-preserved c = unneeding_next c.loop-next.invariant c.in-Some.at c.in-Some.is
    c.next_in_card-next.result (λ n. both_ways _ c.if-names_younger.false (c.names_younger.ensures.1 n))
    c.next_in_card-next.ensures.walk

pub loop-next-smaller : goal.loop-next-smaller
loop-next-smaller c = unneeding_less c.loop-next.invariant c.in-Some.at c.in-Some.is
    c.next_in_card-next.result c.next_in_card-next.ensures.sound c.next_in_card-next.ensures.walk

pub returns : goal.returns
returns c = (
  λ e. absurd (cc e),
  λ n. absurd (unneeding_ends
      (subst (AreUnneeding c.args.heap.now (card_of c.args.first)) c.in_default.is c.loop-next.invariant) n),
)
