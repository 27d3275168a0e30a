use Rattle.hd_store.proofs.StoreWords.{parts, ◌*◌, ◌+◌}
use Rattle.hd_store.proofs.RootAccess.{stored-root, machine-register}
use Rattle.hd_store.proofs.parts.ContentsParts.set_register.Goals as goal
use Rattle.hd_model.specs.declared.limits.TheConstants.{REGISTERS}

pub invariant_of-self : goal.invariant_of-self
invariant_of-self c = stored-root (parts c.self.inside) c.args.self.now c.self.view_is c.self.invariant
    (REGISTERS * c.args.caller + c.args.d) c.args.v c.requires.named

pub returns : goal.returns
returns c = machine-register (parts c.self.inside) c.args.self.now c.self.view_is c.self.invariant
    c.args.caller c.args.d c.args.v c.requires.caller c.requires.register
