use Rattle.hd_custody.proofs.Basics.{Acting, Some, arith, changed, subst, sym, true, ◌≡◌}
use Rattle.hd_custody.proofs.{LeaveSteps.assign_steps, WordSteps.same_table}
use Rattle.hd_custody.proofs.types.Custody.assign.Goals as goal

pub store-requires : goal.store-requires
store-requires g c =
    let inner = c.caller.inside.inner in
    let block = c.requires.block in
    let world = c.requires.no_kind.0 in
    let now = subst (λ (a : Acting g.row.W.Denot). (a.view.has_gate ≡ true) × (a.view.taken ≡ Some world)
    × (changed a.view.changes (g.W.Held.kind world) c.args.block ≡ 0)) (sym c.caller.view_is)
    (c.requires.gate, c.requires.no_kind.1, c.requires.no_kind.2) in (
      same_table c.caller.view_is c.requires.seat c.self.view_is,
      omega (arith, c.self.invariant.0, block),
      assign_steps _ _ _ _ _ _ c.caller.invariant c.args.block
          c.args.kind world block.0.0 block.0.1 block.1 now.0 now.1 now.2,
    )
