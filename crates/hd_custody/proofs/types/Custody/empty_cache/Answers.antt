use Rattle.hd_custody.proofs.Basics.{Has, arith, calling, put_out, refl, subst, sym, with_slot, ◌+◌, ◌∙◌, ◌≢◌}
use Rattle.hd_custody.proofs.{HeldOnBlock.put_goes, HeldOnBlock.with_slot_has, HeldSlots.has_member, ReleaseSteps.sweep_step}
use Rattle.hd_custody.proofs.CallPhases.{seen_as, held_is, table_is, then_as}
use Rattle.hd_custody.proofs.types.Custody.empty_cache.Goals as goal

pub settle-requires : goal.settle-requires
settle-requires g c =
    let a = c.args.caller.now in
    let so = sweep_step {blocks = c.args.self.now.blocks} (calling a) c.begin-first.new.caller 0
    _ c.begin-first.result (omega arith)
    c.swept.ensures.value c.swept.ensures.kind c.begin-first.ensures.view in record {
      seat = table_is so ∙ c.requires.seat;
      slot = λ ne. (
          let f = (c.begin-first.ensures.offers ne).0 in
          let h = with_slot_has c.begin-first.result (c.args.kind + 1) a.view.held ne in
          ((f.0, f.1), subst (Has c.begin-first.result) (sym (held_is so)) (has_member _ h.0 _ h.1)));
    }

pub loop-n-init : goal.loop-n-init
loop-n-init g c =
    let a = c.args.caller.now in
    seen_as (then_as (put_out c.begin-first.result)
    (sweep_step (calling a) c.begin-first.new.caller 0 _ c.begin-first.result (omega arith)
    c.swept.ensures.value c.swept.ensures.kind c.begin-first.ensures.view)
    (c.settle.ensures.made c.args.kind 0))
    (put_goes c.begin-first.result (c.args.kind + 1) a.view.held
    (λ ne. (c.begin-first.ensures.offers ne).0.2))
    refl

pub exchange-slot-requires : goal.exchange-slot-requires
exchange-slot-requires g c = record {
  seat = table_is c.loop-n.invariant ∙ c.requires.seat;
  cell = c.swept-in-loop-n.ensures.cell;
  slot = λ ne. absurd (ne refl);
}

pub settle-requires-in-loop-n : goal.settle-requires-in-loop-n
settle-requires-in-loop-n g c =
    let slot = c.exchange-slot.result in
    let so = sweep_step {blocks = c.args.self.now.blocks} c.loop-n.caller c.exchange-slot.new.caller
    c.loop-n.n _ slot c.loop-n-test.true
    c.swept-in-loop-n.ensures.value c.swept-in-loop-n.ensures.kind c.exchange-slot.ensures.view in record {
      seat = table_is so ∙ table_is c.loop-n.invariant ∙ c.requires.seat;
      slot = λ ne. (
          let f = (c.exchange-slot.ensures.offers ne).0 in
          let h = with_slot_has slot (c.args.kind + 1) c.loop-n.caller.view.held ne in
          ((f.0, f.1), subst (Has slot) (sym (held_is so)) (has_member _ h.0 _ h.1)));
    }

pub loop-n-preserved : goal.loop-n-preserved
loop-n-preserved g c =
    let slot = c.exchange-slot.result in
    then_as (λ h. h) c.loop-n.invariant (seen_as (then_as (put_out slot)
    (sweep_step c.loop-n.caller c.exchange-slot.new.caller c.loop-n.n _ slot c.loop-n-test.true
    c.swept-in-loop-n.ensures.value c.swept-in-loop-n.ensures.kind c.exchange-slot.ensures.view)
    (c.settle-in-loop-n.ensures.made c.args.kind c.loop-n.n))
    (put_goes slot (c.args.kind + 1) c.loop-n.caller.view.held
    (λ ne. (c.exchange-slot.ensures.offers ne).0.2))
    refl)
