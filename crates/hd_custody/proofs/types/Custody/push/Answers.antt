use Rattle.hd_custody.proofs.Basics.{HasAs, List, ap, arith, calling, held_times, refl, subst, sym, with_slot, without, ℕ, ◌+◌, ◌∙◌, ◌∷◌, ◌≡◌, ◌≢◌}
use Rattle.hd_custody.proofs.HeldOnBlock.{put_goes, put_some, with_slot_some, with_slot_has}
use Rattle.hd_custody.proofs.CallPhases.{zero_not, seen_as, held_is, table_is, then_as}
use Rattle.hd_custody.proofs.ReleaseSteps.{push_step, still_none, below_none}
use Rattle.hd_custody.proofs.types.Custody.push.Goals as goal

pub loop-n-init : goal.loop-n-init
loop-n-init g c =
    let a = c.args.caller.now in record {
      left = λ ne. (
          let f = (c.begin-left.ensures.offers ne).0 in
          ((f.0, f.1), still_none c.begin-left.result c.args.slot a.view.held f.2));
      made = push_step (calling a) c.begin-left.new.caller 0 _ c.args.slot c.begin-left.result (omega arith)
          (λ e. (let low = c.requires.slot.0 in omega arith)) c.pushed.ensures.value c.pushed.ensures.kind
          c.begin-left.ensures.view;
    }

pub exchange-left-requires : goal.exchange-left-requires
exchange-left-requires g c =
    let so = c.loop-n.invariant.made in record {
      seat = table_is so ∙ c.requires.seat;
      cell = c.pushed-in-loop-n.ensures.cell;
      slot = λ _. subst (λ q. HasAs (c.loop-n.left, q + 1) c.loop-n.caller.view.held)
          (sym c.pushed-in-loop-n.ensures.kind)
          (subst (HasAs (c.loop-n.left, c.args.kind + 1)) (sym (held_is so))
          (with_slot_has c.loop-n.left (c.args.kind + 1) _ c.if-left-eq0.false));
    }

pub loop-n-preserved : goal.loop-n-preserved
loop-n-preserved g c =
    let k = c.args.kind in
    let left = c.loop-n.left in
    let next = c.exchange-left.result in
    let so = c.loop-n.invariant.made in
    let real = c.if-left-eq0.false in
    let rest : List (ℕ × ℕ) = without c.args.slot c.args.caller.now.view.held in
    let held = held_is so ∙ with_slot_some left (k + 1) rest real in record {
      left = λ ne. (
          let f = (c.exchange-left.ensures.offers ne).0 in
          ((f.0, f.1), below_none next left (k + 1) rest (ap (held_times next) (sym held) ∙ f.2)));
      made = seen_as (then_as (λ h. with_slot next (k + 1) (without left h))
          (seen_as so refl (zero_not left _ _ real))
          (push_step c.loop-n.caller c.exchange-left.new.caller c.loop-n.n _ left next c.loop-n-test.true real
          c.pushed-in-loop-n.ensures.value c.pushed-in-loop-n.ensures.kind c.exchange-left.ensures.view))
          (ap (with_slot next (k + 1)) (sym (put_some left _ real)
          ∙ put_goes left (k + 1) rest (λ ne. (c.loop-n.invariant.left ne).1))) refl;
    }
