use Rattle.hd_heap.proofs.Basics.{ap, arith, fields_at, stored_forwarding, ◌∙◌}
use Rattle.hd_heap.proofs.FieldForward.{forwarding_starts, forwarding_there, forwarding_long, forwarding_read, forwarding_next, forwarding_ends, field_kept}
use Rattle.hd_heap.proofs.forwarding.forward_fields.Goals as goal

pub loop-i-init : goal.loop-i-init
loop-i-init g c =
    let forwarding = g.F.Forward.forwarding c.args.forward.now in (
      forwarding_starts (stored_forwarding forwarding) c.args.region.now c.args.at c.requires.object,
      c.requires.laid_out,
    )

pub field-field-requires : goal.field-field-requires
field-field-requires g c =
    let f = c.loop-i.invariant.0 in
    record {
      object = forwarding_there f;
      within = omega (arith, forwarding_long f, c.requires.number, c.loop-i-test.true);
    }

pub stored_forwarding-requires : goal.stored_forwarding-requires
stored_forwarding-requires g c = record {
  laid = c.requires.laid;
  kept = field_kept (g.F.Forward.kept c.args.forward.now) (fields_at c.args.region.now c.args.at)
      c.requires.kept c.loop-i.i c.field-field.result (omega (arith, c.requires.number, c.loop-i-test.true))
      (c.field-field.ensures ∙ forwarding_read c.loop-i.invariant.0);
}

pub set_field-requires : goal.set_field-requires
set_field-requires g c =
    let f = c.loop-i.invariant.0 in
    record {
      object = forwarding_there f;
      within = omega (arith, forwarding_long f, c.requires.number, c.loop-i-test.true);
    }

pub loop-i-preserved : goal.loop-i-preserved
loop-i-preserved g c =
    let f = c.loop-i.invariant.0 in (
      forwarding_next f c.set_field.new.self c.stored_forwarding.result
          (omega (arith, c.requires.number, c.loop-i-test.true))
          (c.stored_forwarding.ensures ∙ ap (stored_forwarding (g.F.Forward.forwarding c.args.forward.now))
          (c.field-field.ensures ∙ forwarding_read f)) c.set_field.ensures.written,
      c.set_field.ensures.laid_out,
    )

pub returns : goal.returns
returns g c = record {
  written = forwarding_ends c.loop-i.invariant.0 (omega (arith, c.requires.number, c.loop-i-test.false));
  laid_out = c.loop-i.invariant.1;
}
