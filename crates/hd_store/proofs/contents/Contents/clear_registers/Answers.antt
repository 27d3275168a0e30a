use Rattle.hd_store.proofs.StoreWords.{Addr, IsStored, List, Machine, Option, ap, arith, callers_of, length, machine_of, parts, subst, sym, ◌∙◌, ◌≡◌}
use Rattle.hd_store.proofs.ClearedRoots.{nulls, roots_back}
use Rattle.hd_store.proofs.contents.Contents.clear_registers.Goals as goal

pub clear_roots-requires : goal.clear_roots-requires
clear_roots-requires c =
    let callers : callers_of (parts c.self.inside) ≡ c.args.self.now.numbers.callers =
    ap (λ (m : Machine). m.numbers.callers) c.self.view_is in
    omega (
      arith,
      callers,
      c.self.invariant.roots,
      c.requires.caller,
      c.requires.registers,
      ap length c.deref_mut.ensures.value,
    )

pub invariant_of-self : goal.invariant_of-self
invariant_of-self c =
    let back = roots_back _ _ _ c.clear_roots.ensures c.deref_mut.ensures.value c.self.inside.roots.ok.0 in
    subst (λ (xs : List (Option Addr)). IsStored (record (parts c.self.inside) { roots = xs })) (sym back)
    (nulls (parts c.self.inside) c.args.self.now c.self.view_is c.self.invariant c.args.caller c.args.first
    c.requires.caller c.args.n c.requires.registers).0

pub returns : goal.returns
returns c =
    let back = roots_back _ _ _ c.clear_roots.ensures c.deref_mut.ensures.value c.self.inside.roots.ok.0 in
    ap (λ (xs : List (Option Addr)). machine_of (record (parts c.self.inside) { roots = xs })) back
    ∙ (nulls (parts c.self.inside) c.args.self.now c.self.view_is c.self.invariant c.args.caller c.args.first
    c.requires.caller c.args.n c.requires.registers).1
