use Rattle.hd_store.proofs.StoreWords.{Machine, empty, last_serial, subst, sym, with_pinned, ◌+◌, ◌<◌, ◌^◌}
use Rattle.hd_model.proofs.RunCounts.{fresh}
use Rattle.hd_store.specs.Calls.{IsSound}
use Rattle.hd_store.proofs.ValueCalls.{object-called, object-sound}
use Rattle.hd_store.proofs.store.Store.new_object.Goals as goal

pub new_object-requires-clause-fresh : goal.new_object-requires-clause-fresh
new_object-requires-clause-fresh c =
    let m = c.self.inside.contents in
    fresh m.numbers (with_pinned m.state empty) c.args.caller c.self.invariant.well_formed
    (subst (λ (x : Machine). last_serial x.state c.args.caller + 1 < 2 ^ 32) (sym c.self.view_is)
    c.requires.serial)

pub invariant_of-self : goal.invariant_of-self
invariant_of-self c = subst IsSound (sym c.in_err-came.ensures.unchanged) c.self.invariant

pub invariant_of-self-2 : goal.invariant_of-self-2
invariant_of-self-2 c =
    object-sound c.args.d c.args.fields c.args.fin c.in_ok-came.came c.self.invariant c.self.view_is
    c.requires.caller
    (c.requires.register, c.requires.fields) c.requires.serial
    c.objects-before.ensures.heap c.objects-after.ensures.heap c.in_ok-came.ensures.done
    c.in_ok-came.ensures.names

pub returns : goal.returns
returns c =
    object-called c.args.d c.args.fields c.args.fin c.in_ok-came.came c.self.invariant c.self.view_is
    c.requires.caller
    (c.requires.register, c.requires.fields) c.requires.serial
    c.objects-before.ensures.heap c.objects-after.ensures.heap c.in_ok-came.ensures.done
    c.in_ok-came.ensures.names
