use Rattle.hd_store.proofs.StoreWords.{arith, callers_of, get_or, length, parts, subst, ◌*◌, ◌+◌, ◌≡◌}
use Rattle.hd_store.proofs.RootAccess.{static-is, static-within, root-named}
use Rattle.hd_store.proofs.parts.ContentsParts.static_at.Goals as goal
use Rattle.hd_model.specs.declared.limits.TheConstants.{REGISTERS}

pub returns-clause-value : goal.returns-clause-value
returns-clause-value c =
    let f = parts c.self.inside in
    let callers : c.len.result ≡ length c.self.inside.handle_registers.items =
    omega (arith, c.len.ensures, c.self.inside.handle_registers.ok.0) in
    static-is f c.args.self.now c.self.view_is c.self.invariant c.args.k c.index.result.now c.requires
    (subst (λ n. c.index.result.now ≡ get_or c.self.inside.roots.items (REGISTERS * n + c.args.k)
    c.index.result.now)
    callers c.index.ensures)

pub returns-clause-named : goal.returns-clause-named
returns-clause-named c =
    let f = parts c.self.inside in
    let callers : c.len.result ≡ length c.self.inside.handle_registers.items =
    omega (arith, c.len.ensures, c.self.inside.handle_registers.ok.0) in
    root-named f c.args.self.now c.self.view_is c.self.invariant
    (REGISTERS * callers_of f + c.args.k) c.index.result.now
    (static-within f c.args.self.now c.self.view_is c.self.invariant c.args.k c.requires)
    (subst (λ n. c.index.result.now ≡ get_or c.self.inside.roots.items (REGISTERS * n + c.args.k)
    c.index.result.now)
    callers c.index.ensures)
