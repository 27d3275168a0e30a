use Rattle.hd_store.proofs.StoreWords.{Machine, empty, last_serial, subst, sym, with_pinned, ◌+◌, ◌<◌, ◌^◌}
use Rattle.hd_model.proofs.RunCounts.{fresh}
use Rattle.hd_store.specs.Calls.{IsSound}
use Rattle.hd_store.proofs.{HostedCalls.object-made, HostedCalls.object-made-sound, ValueCalls.known-in}
use Rattle.hd_store.proofs.store.Store.make_object.Goals as goal

pub make_filled-requires-clause-caller : goal.make_filled-requires-clause-caller
make_filled-requires-clause-caller c = known-in c.self.view_is c.requires.caller

pub make_filled-requires-clause-sources : goal.make_filled-requires-clause-sources
make_filled-requires-clause-sources c = c.requires.sources

pub make_filled-requires-clause-serial : goal.make_filled-requires-clause-serial
make_filled-requires-clause-serial c =
    subst (λ (x : Machine). last_serial x.state c.args.caller + 1 < 2 ^ 32) (sym c.self.view_is) c.requires.serial

pub make_filled-requires-clause-fresh : goal.make_filled-requires-clause-fresh
make_filled-requires-clause-fresh c =
    let m = c.self.inside.contents in
    fresh m.numbers (with_pinned m.state empty) c.args.caller c.self.invariant.well_formed
    (subst (λ (x : Machine). last_serial x.state c.args.caller + 1 < 2 ^ 32) (sym c.self.view_is)
    c.requires.serial)

pub invariant_of-self : goal.invariant_of-self
invariant_of-self c = subst IsSound (sym c.in_err-came.ensures.unchanged) c.self.invariant

pub invariant_of-self-2 : goal.invariant_of-self-2
invariant_of-self-2 c =
    object-made-sound c.args.d c.args.value c.args.fin c.args.src.now c.in_ok-came.came c.self.invariant
    c.self.view_is c.requires.caller c.requires.register c.requires.few c.requires.serial
    c.objects-before.ensures.heap c.objects-after.ensures.heap c.in_ok-came.ensures.done

pub returns : goal.returns
returns c =
    object-made c.args.d c.args.value c.args.fin c.args.src.now c.in_ok-came.came c.self.invariant
    c.self.view_is c.requires.caller c.requires.register c.requires.few c.requires.serial
    c.objects-before.ensures.heap c.objects-after.ensures.heap c.in_ok-came.ensures.done
