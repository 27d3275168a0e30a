use Rattle.hd_store.proofs.StoreWords.{IsSome, Machine, arith, get, length, subst, sym, ◌<◌, ◌≡◌}
use Rattle.hd_store.proofs.FilledObjects.{fills-all, fills-first, fills-next, fills-within}
use Rattle.hd_store.proofs.contents.Contents.fill_object.Goals as goal

pub loop-i-init : goal.loop-i-init
loop-i-init c =
    fills-first c.args.self.now c.args.at c.args.value c.args.caller c.args.src.now c.write_value.new.self
    c.write_value.ensures

pub overflow_cast-index : goal.overflow_cast-index
overflow_cast-index c = omega (arith, c.loop-i-test.true, c.requires.few)

pub overflow_cast-from : goal.overflow_cast-from
overflow_cast-from c =
    let low = c.requires.sources c.loop-i.i (omega (arith, c.loop-i-test.true)) in omega (arith, low)

pub register-target-requires : goal.register-target-requires
register-target-requires c = (
  subst (λ (m : Machine). c.args.caller < m.numbers.callers) (sym c.loop-i.invariant) c.requires.caller,
  c.requires.sources c.loop-i.i (omega (arith, c.loop-i-test.true)),
)

pub set_field-requires-clause-known : goal.set_field-requires-clause-known
set_field-requires-clause-known c =
    subst (λ (m : Machine). IsSome (get m.names c.args.at.0)) (sym c.loop-i.invariant) c.requires.known

pub set_field-requires-clause-field : goal.set_field-requires-clause-field
set_field-requires-clause-field c =
    fills-within c.args.self.now c.args.at c.args.value c.args.caller c.args.src.now c.loop-i.i c.loop-i.self
    (omega (arith, c.loop-i-test.true)) c.requires.fields c.loop-i.invariant

pub set_field-requires-clause-named : goal.set_field-requires-clause-named
set_field-requires-clause-named c = c.register-target.ensures.named

pub loop-i-preserved : goal.loop-i-preserved
loop-i-preserved c =
    fills-next c.args.self.now c.args.at c.args.value c.args.caller c.args.src.now c.loop-i.i c.loop-i.self
    c.set_field.new.self c.register-target.result (omega (arith, c.loop-i-test.true)) c.loop-i.invariant
    c.register-target.ensures.value c.set_field.ensures

pub returns : goal.returns
returns c =
    let all : c.loop-i.i ≡ length c.args.src.now = omega (arith, c.loop-i-test.false, c.loop-i.auto.i-end) in
    fills-all c.args.self.now c.args.at c.args.value c.args.caller c.args.src.now c.loop-i.i c.loop-i.self
    all c.requires.fields c.loop-i.invariant
