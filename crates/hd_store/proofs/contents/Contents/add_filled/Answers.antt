use Rattle.hd_store.proofs.StoreWords.{IsObjectRefused, Machine, arith, subst, sym, ◌+◌, ◌<◌}
use Rattle.hd_store.proofs.HostedCalls.{added-fields, added-with}
use Rattle.hd_store.proofs.contents.Contents.add_filled.Goals as goal

pub add_object-requires-clause-fields : goal.add_object-requires-clause-fields
add_object-requires-clause-fields c = omega (arith, c.count_of-fields.ensures, c.requires.few)

pub fill_object-requires-clause-known : goal.fill_object-requires-clause-known
fill_object-requires-clause-known c = c.in-Ok.ensures.known

pub fill_object-requires-clause-caller : goal.fill_object-requires-clause-caller
fill_object-requires-clause-caller c =
    subst (λ (m : Machine). c.args.caller < m.numbers.callers) (sym c.in-Ok.ensures.made) c.requires.caller

pub fill_object-requires-clause-sources : goal.fill_object-requires-clause-sources
fill_object-requires-clause-sources c = c.requires.sources

pub fill_object-requires-clause-fields : goal.fill_object-requires-clause-fields
fill_object-requires-clause-fields c =
    added-fields c.args.self.now c.add_object.new.self c.args.caller c.args.fin c.in-Ok.at
    c.count_of-fields.result c.in-Ok.ensures.made c.args.src.now c.count_of-fields.ensures

pub returns-in-Ok-clause-made : goal.returns-in-Ok-clause-made
returns-in-Ok-clause-made c =
    added-with c.args.self.now c.add_object.new.self c.args.caller c.args.fin c.in-Ok.at
    c.count_of-fields.result c.in-Ok.ensures.made c.count_of-fields.ensures c.objects-added.ensures.heap
    c.in-Ok.ensures.kept c.in-Ok.ensures.fits c.fill_object.ensures

pub returns-in-Err-clause-refused : goal.returns-in-Err-clause-refused
returns-in-Err-clause-refused c =
    subst (λ n. IsObjectRefused c.args.self.now c.add_object.new.self (n + 3) c.in-Err.fault)
    c.count_of-fields.ensures c.in-Err.ensures.refused
