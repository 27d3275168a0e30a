use Rattle.hd_store.proofs.StoreWords.{Machine, ap, subst, sym, ◌∙◌}
use Rattle.hd_store.specs.{Calls.IsSound, Hosted.with_cleared}
use Rattle.hd_store.proofs.{HostedCalls.sound-cleared, ValueCalls.known-in}
use Rattle.hd_store.proofs.store.Store.clear_registers.Goals as goal

pub clear_registers-requires-clause-caller : goal.clear_registers-requires-clause-caller
clear_registers-requires-clause-caller c = known-in c.self.view_is c.requires.caller

pub invariant_of-self : goal.invariant_of-self
invariant_of-self c =
    subst IsSound (sym c.clear_registers.ensures)
    (sound-cleared c.self.inside.contents c.args.caller c.args.first c.args.n c.self.invariant
    (known-in c.self.view_is c.requires.caller))

pub returns : goal.returns
returns c =
    c.clear_registers.ensures
    ∙ ap (λ (x : Machine). record x { state = with_cleared x.state c.args.caller c.args.first c.args.n })
    c.self.view_is
