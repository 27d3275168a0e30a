use Rattle.hd_plan.proofs.Basics.{Heap, NeedsCard, is_set, subst, sym, true, ℕ, ◌↔◌, ◌≡◌}
use Rattle.hd_plan.proofs.CommitCards.{exact_first, exact_fields, exact_less, exact_step, exact_ends, none_set}
use Rattle.hd_plan.proofs.carding.clear_unneeded.Goals as goal

pub make_exact-some-requires-clause-first : goal.make_exact-some-requires-clause-first
make_exact-some-requires-clause-first c =
    exact_first c.next_carded.ensures.sound c.requires.grown c.loop-at.invariant c.in-Some.ensures.walk

pub make_exact-some-requires-clause-fields : goal.make_exact-some-requires-clause-fields
make_exact-some-requires-clause-fields c =
    exact_fields c.next_carded.ensures.sound c.requires.grown c.loop-at.invariant c.requires.fields

pub loop-at-smaller : goal.loop-at-smaller
loop-at-smaller c =
    exact_less c.next_carded.ensures.sound c.requires.grown c.loop-at.invariant c.in-Some.ensures.walk
    c.last_cell.result c.last_cell.ensures

pub loop-at-preserved : goal.loop-at-preserved
loop-at-preserved c =
    exact_step c.next_carded.ensures.sound c.requires.grown c.loop-at.invariant c.in-Some.ensures.walk
    c.make_exact-some.new.heap c.last_cell.result c.make_exact-some.result c.last_cell.ensures
    c.make_exact-some.ensures.decides c.make_exact-some.ensures.set

pub note_no_card-requires : goal.note_no_card-requires
note_no_card-requires c =
    none_set c.next_carded.ensures.sound c.requires.grown c.loop-at.invariant c.in_default.ensures.walk
    c.if-not-some.true

pub returns-then-not-some-clause-exact : goal.returns-then-not-some-clause-exact
returns-then-not-some-clause-exact c =
    subst (λ (h : Heap). (card : ℕ) → (is_set h card ≡ true) ↔ NeedsCard h card) (sym c.note_no_card.ensures)
    (exact_ends c.next_carded.ensures.sound c.requires.grown c.loop-at.invariant c.in_default.ensures.walk)

pub returns-else-not-some-clause-exact : goal.returns-else-not-some-clause-exact
returns-else-not-some-clause-exact c =
    exact_ends c.next_carded.ensures.sound c.requires.grown c.loop-at.invariant c.in_default.ensures.walk
