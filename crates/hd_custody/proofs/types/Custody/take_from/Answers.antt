use Rattle.hd_custody.proofs.Basics.{Acting, BLOCKS, Has, HasRows, HasRowsAs, Made, ROWS, ap, arith, bit_at, bit_or, bit_xor, refl, rows, subst, sym, to_bank, to_look, without_rows, ℕ, ◌*◌, ◌++◌, ◌+◌, ◌^◌, ◌∙◌, ◌∷◌, ◌≡◌, ◌≢◌}
use Rattle.hd_custody.proofs.HeldOnBlock.{row_has, rows_none, rows_have, lowest_is, flip_within, one_stays, with_slot_some}
use Rattle.hd_custody.proofs.CallPhases.{due, zero_is, same_is, same_not, found_or_some, seen_as, held_is, table_is, then_as}
use Rattle.hd_custody.proofs.AllocateSteps.{set_real, mask_apart, look_again, rows_back, row_offers}
use Rattle.hd_custody.proofs.types.Custody.take_from.Goals as goal

pub returns-in_default-clause-made : goal.returns-in_default-clause-made
returns-in_default-clause-made g c =
    let none = c.in_default.ensures.none.0 refl in
    seen_as c.take_rows-mask.ensures.probed
    (ap (λ ps. ps ++ c.args.caller.now.view.held) (rows_none c.args.block c.take_rows-mask.result 0 none))
    (zero_is c.take_rows-mask.result _ _ none)

pub look-again-requires : goal.look-again-requires
look-again-requires g c = record {
  seat = table_is c.take_rows-mask.ensures.probed ∙ c.requires.seat;
  block = c.requires.block;
}

pub put_back-requires : goal.put_back-requires
put_back-requires g c =
    let so =
    look_again c.take_rows-mask.new.caller c.look-again.new.caller c.args.block c.take_rows-mask.result
    c.look-again.result c.args.caller.now.view.held c.requires.kinded
    (set_real c.take_rows-mask.result c.in-Some.row c.in-Some.ensures.set) c.take_rows-mask.ensures.probed
    c.look-again.ensures.view in record {
      seat = table_is so ∙ c.requires.seat;
      block = c.requires.block;
      slots = subst (HasRows c.args.block c.take_rows-mask.result) (sym (held_is so))
          (λ r lt set. row_has c.args.block c.take_rows-mask.result c.look-again.result r
          c.args.caller.now.view.held lt set);
    }

pub returns-then-again-kind-clause-made : goal.returns-then-again-kind-clause-made
returns-then-again-kind-clause-made g c =
    let so =
    look_again c.take_rows-mask.new.caller c.look-again.new.caller c.args.block c.take_rows-mask.result
    c.look-again.result c.args.caller.now.view.held c.requires.kinded
    (set_real c.take_rows-mask.result c.in-Some.row c.in-Some.ensures.set) c.take_rows-mask.ensures.probed
    c.look-again.ensures.view in
    rows_back c.look-again.new.caller c.put_back.new.caller c.args.block c.take_rows-mask.result
    c.look-again.result c.put_back.result c.args.caller.now.view.held
    (mask_apart g.W.Held c.args.caller.now.view c.args.block c.take_rows-mask.result
    c.take_rows-mask.ensures.fresh)
    (seen_as so refl
    (same_not c.look-again.result (c.args.kind + 1) _ _ (λ e. omega (arith, e, c.if-again-kind.true))))
    (due (BLOCKS + c.args.block) c.put_back.result (bit_or c.put_back.result c.take_rows-mask.result) _)
    c.put_back.ensures.view

pub share_out-requires : goal.share_out-requires
share_out-requires g c =
    let block = c.args.block in
    let mask = c.take_rows-mask.result in
    let held = c.args.caller.now.view.held in
    let so = look_again c.take_rows-mask.new.caller c.look-again.new.caller block mask
    c.look-again.result held c.requires.kinded
    (set_real mask c.in-Some.row c.in-Some.ensures.set) c.take_rows-mask.ensures.probed
    c.look-again.ensures.view in
    let same : c.look-again.result ≡ c.args.kind + 1 = omega (arith, c.if-again-kind.false) in
    let all : HasRowsAs block mask (c.args.kind + 1) c.look-again.new.caller.view.held =
    subst (HasRowsAs block mask (c.args.kind + 1))
    (sym (held_is so ∙ ap (λ y. rows block mask y ++ held) same))
    (rows_have block mask (c.args.kind + 1) held) in record {
      seat = table_is so ∙ c.requires.seat;
      kind = c.requires.kind;
      block = c.requires.block;
      rows = λ r lt set. all r lt (
          let within = flip_within mask c.in-Some.row c.in-Some.ensures.set r in
          let is = ap (λ m. bit_at (bit_xor mask m) r) c.bit.ensures.value in
          let bit = Rattle.std.proofs.lemmas.Nat.Bits.bit_at-lt mask r in
          omega (arith, within, is, bit, set));
    }

pub returns-clause-made : goal.returns-clause-made
returns-clause-made g c =
    let k = c.args.kind in
    let block = c.args.block in
    let row = c.in-Some.row in
    let mask = c.take_rows-mask.result in
    let held = c.args.caller.now.view.held in
    let slot : ℕ = ROWS * block + row in
    let so = look_again c.take_rows-mask.new.caller c.look-again.new.caller block mask
    c.look-again.result held c.requires.kinded
    (set_real mask row c.in-Some.ensures.set) c.take_rows-mask.ensures.probed c.look-again.ensures.view in
    let same : c.look-again.result ≡ k + 1 = omega (arith, c.if-again-kind.false) in
    let real : slot ≢ 0 = λ e. (let b = c.requires.block.0 in omega arith) in
    let apart = mask_apart g.W.Held c.args.caller.now.view block mask c.take_rows-mask.ensures.fresh in
    let low = lowest_is mask row c.in-Some.ensures.first in
    let bits = sym c.bit.ensures.value in
    let kept = seen_as so (ap (λ y. rows block mask y ++ held) same)
    (same_is c.look-again.result (k + 1) _ _ same
    ∙ ap (λ r. to_bank block (ROWS * block + r) 0 (bit_xor mask (2 ^ r))) low
    ∙ ap (λ m. to_bank block slot 0 (bit_xor mask m)) bits) in
    seen_as (then_as (without_rows block (bit_xor mask c.bit.result)) kept (c.share_out.ensures.made slot))
    (ap (λ m. without_rows block (bit_xor mask m) (rows block mask (k + 1) ++ held)) c.bit.ensures.value
    ∙ one_stays block mask row (k + 1) held c.in-Some.ensures.within c.in-Some.ensures.set apart
    ∙ sym (with_slot_some slot (k + 1) held real))
    (sym (found_or_some (to_look c.args.self.now.blocks (block + 1)) slot real))

pub returns-clause-offers : goal.returns-clause-offers
returns-clause-offers g c =
    row_offers g.W.Held c.args.block c.in-Some.row c.look-again.result c.in-Some.ensures.within
    c.take_rows-mask.ensures.probed
    (c.take_rows-mask.ensures.fresh c.in-Some.row c.in-Some.ensures.within c.in-Some.ensures.set)
    c.look-again.ensures.kind (omega (arith, c.if-again-kind.false))
