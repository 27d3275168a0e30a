use Rattle.hd_custody.proofs.Basics.{HasAs, List, arith, cell_kind, ℕ, ◌+◌, ◌≢◌}
use Rattle.hd_custody.proofs.WordSteps.{exchange_steps, as_seen, same_table}
use Rattle.hd_custody.proofs.types.Custody.exchange.Goals as goal

pub swap-requires : goal.swap-requires
swap-requires g c =
    let P : List (ℕ × ℕ) → Type 0 = λ h. c.args.new ≢ 0 → HasAs (c.args.new, cell_kind c.args.word + 1) h in (
      same_table c.caller.view_is c.requires.seat c.self.view_is,
      omega (arith, c.self.invariant.0, c.requires.cell),
      exchange_steps _ _ _ _ _ _ c.caller.invariant c.args.word c.args.new c.requires.cell
          (as_seen P c.caller.view_is c.requires.slot),
    )
