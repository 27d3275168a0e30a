use Rattle.hd_heap.proofs.Basics.{Contents, IsFirstFrom, Option, arith, subst, sym, ℕ, ◌+◌, ◌<◌, ◌∙◌}
use Rattle.hd_heap.proofs.WantedObjects.{IsSearch, left, since_next, left_falls, object_below, first_object}
use Rattle.hd_heap.proofs.area.Area.wanted_from.Goals as goal

pub loop-next-smaller : goal.loop-next-smaller
loop-next-smaller c =
    let on = subst (IsSearch c.args.self.now c.args.wanted c.args.first) c.in-Some.is c.loop-next.invariant in
    subst (λ (o : Option ℕ). left c.after-next.result < left o) (sym c.in-Some.is)
    (left_falls c.in-Some.at c.after-next.result c.deref.result.now
    (omega (arith, object_below c.args.self.now c.requires.area c.in-Some.at on.1)) c.after-next.ensures.first)

pub loop-next-preserved : goal.loop-next-preserved
loop-next-preserved c =
    let on = subst (IsSearch c.args.self.now c.args.wanted c.args.first) c.in-Some.is c.loop-next.invariant in
    let first = subst (λ (r : Contents). IsFirstFrom r (c.in-Some.at + 1) c.after-next.result) c.deref.ensures
    c.after-next.ensures.first in (
      λ answer is. on.0 answer (since_next c.args.self.now c.args.wanted c.in-Some.at c.after-next.result answer
          (sym c.is_wanted.ensures ∙ c.if-is_wanted.false) first is),
      first_object c.args.self.now (c.in-Some.at + 1) c.after-next.result first,
    )
