use Rattle.hd_store.proofs.StoreWords.{arith, length, machine_of, named_in, parts, subst, sym, with_static, ◌*◌, ◌+◌, ◌≡◌}
use Rattle.hd_store.proofs.RootAccess.{with_root, stored-root, machine-static}
use Rattle.hd_store.proofs.parts.ContentsParts.set_static.Goals as goal
use Rattle.hd_model.specs.declared.limits.TheConstants.{REGISTERS}

pub invariant_of-self : goal.invariant_of-self
invariant_of-self c = stored-root (parts c.self.inside) c.args.self.now c.self.view_is c.self.invariant
    (REGISTERS * c.len.result + c.args.k) c.args.v c.requires.named

pub returns : goal.returns
returns c =
    let f = parts c.self.inside in
    let callers : c.len.result ≡ length c.self.inside.handle_registers.items =
    omega (arith, c.len.ensures, c.self.inside.handle_registers.ok.0) in
    subst
    (λ n. machine_of (with_root f (REGISTERS * n + c.args.k) c.args.v)
    ≡ record c.args.self.now {
      state = with_static c.args.self.now.state c.args.k (named_in c.args.self.now.names c.args.v);
    }) (sym callers)
    (machine-static f c.args.self.now c.self.view_is c.self.invariant c.args.k c.args.v)
