use Rattle.hd_plan.proofs.Basics.{sym, ◌∙◌}
use Rattle.hd_plan.proofs.CommitRewrites.{stayed_field, stayed_next, stayed_other}
use Rattle.hd_plan.proofs.rewriting.rewrite_pinned.Goals.{then-stays, else-stays}
use Rattle.hd_plan.proofs.rewriting.rewrite_pinned.Goals as goal

pub rewrite_fields-requires-clause-kept : goal.rewrite_fields-requires-clause-kept
rewrite_fields-requires-clause-kept g c = λ y field. c.requires.kept c.loop-object.object-index
    c.loop-object-test.true (sym c.stays.ensures ∙ c.if-stays.true) y
    (stayed_field c.loop-object.invariant c.loop-object-test.true c.requires.rising y field)

pub rewrite_fields-requires-clause-forwardings : goal.rewrite_fields-requires-clause-forwardings
rewrite_fields-requires-clause-forwardings g c = λ y field. c.requires.forwards y
    (c.requires.kept c.loop-object.object-index c.loop-object-test.true
    (sym c.stays.ensures ∙ c.if-stays.true) y
    (stayed_field c.loop-object.invariant c.loop-object-test.true c.requires.rising y field))

pub loop-object-preserved : goal.loop-object-preserved
loop-object-preserved g c =
    let i = c.loop-object.object-index in
    elim c.if-stays.branch [
      | then-stays w ↦ rw w.heap-is (stayed_next c.loop-object.invariant c.loop-object-test.true
          c.requires.rising w.rewrite_fields.new.self (sym c.stays.ensures ∙ w.if-stays.true)
          (c.requires.objects i c.loop-object-test.true) w.rewrite_fields.ensures)
      | else-stays w ↦ rw w.heap-is (stayed_other c.loop-object.invariant c.loop-object-test.true
          c.requires.rising (sym c.stays.ensures ∙ w.if-stays.false))
    ]
