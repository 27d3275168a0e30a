use Rattle.hd_store.proofs.StoreWords.{parts, ◌*◌, ◌+◌}
use Rattle.hd_store.proofs.RootAccess.{register-is, register-within, root-named}
use Rattle.hd_store.proofs.parts.ContentsParts.register.Goals as goal
use Rattle.hd_model.specs.declared.limits.TheConstants.{REGISTERS}

pub returns-clause-value : goal.returns-clause-value
returns-clause-value c = register-is (parts c.self.inside) c.args.self.now c.self.view_is c.self.invariant
    c.args.caller c.args.d c.index.result.now c.requires.0 c.requires.1 c.index.ensures

pub returns-clause-named : goal.returns-clause-named
returns-clause-named c =
    let f = parts c.self.inside in
    root-named f c.args.self.now c.self.view_is c.self.invariant
    (REGISTERS * c.args.caller + c.args.d) c.index.result.now
    (register-within f c.args.self.now c.self.view_is c.self.invariant c.args.caller c.args.d
    c.requires.0 c.requires.1) c.index.ensures
