use Rattle.hd_custody.proofs.Basics.{Banked, HasAs, ROWS, bit_xor, refl, rules, subst, sym, ◌*◌, ◌+◌}
use Rattle.hd_custody.proofs.CallPhases.{if_true, if_false}
use Rattle.hd_custody.proofs.AllocateSteps.{banked_all, offer_full, offer_put}
use Rattle.hd_custody.proofs.types.Custody.offer.Goals as goal

pub returns-in_default : goal.returns-in_default
returns-in_default g c = record {
  banked = banked_all c.args.block c.args.i c.args.left c.args.caller.now c.requires.rows
      (c.in_default.ensures.none.0 refl);
}

pub bank-requires-clause-slot : goal.bank-requires-clause-slot
bank-requires-clause-slot g c _ =
    subst (λ q. HasAs (ROWS * c.args.block + c.in-Some.next, q + 1) c.args.caller.now.view.held)
    (sym c.reserved.ensures.kind)
    (c.requires.rows c.in-Some.next c.in-Some.ensures.within c.in-Some.ensures.set)

pub returns-then-not-bank : goal.returns-then-not-bank
returns-then-not-bank g c =
    let lost = if_false c.bank.result _ (search rules) c.bank.ensures.lost in
    record {
      banked = offer_full c.args.kind c.args.self.now.blocks c.args.caller.now c.bank.new.caller c.args.block
          c.args.i c.args.left c.in-Some.next
          c.reserved.result lost.0 c.requires.kind.1 c.requires.rows c.in-Some.ensures.set
          c.in-Some.ensures.within c.in-Some.ensures.first c.reserved.ensures.value lost.2 lost.1;
    }

pub returns : goal.returns
returns g c =
    record {
      banked = subst (λ m. Banked c.args.kind c.args.self.now.blocks c.args.block (c.args.i, c.args.left)
          (c.args.i + 1, bit_xor c.args.left m) c.args.caller.now c.bank.new.caller) (sym c.bit.ensures.value)
          (offer_put c.args.kind c.args.self.now.blocks c.args.caller.now c.bank.new.caller c.args.block
          c.args.i c.args.left c.in-Some.next
          c.reserved.result 0 c.requires.kind.1 c.requires.rows c.in-Some.ensures.set c.in-Some.ensures.within
          c.in-Some.ensures.first c.reserved.ensures.value
          (if_true c.bank.result _ (search rules) c.bank.ensures.won) refl c.requires.block.0);
    }
