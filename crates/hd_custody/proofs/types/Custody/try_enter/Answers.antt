use Rattle.hd_custody.proofs.Basics.{Acting, Known, List, Named, Option, Some, ap, rules, sym, ℕ, ◌∙◌, ◌∷◌}
use Rattle.atomic_table.specs.Table.{rest}
use Rattle.hd_custody.proofs.CallPhases.{if_true}
use Rattle.hd_custody.proofs.types.Custody.try_enter.Goals as goal

pub exchange-requires : goal.exchange-requires
exchange-requires g c =
    let W = g.row.W.Denot in
    let won = if_true c.win.result _ (search rules) c.win.ensures.won in
    let is = c.caller.view_is ∙ won.1 in
    let out = ap (λ (a : Acting W). a.out) is in (
      ap (λ (a : Acting W). a.table) is ∙ ap (λ (k : Known W). k.table) c.seat.view_is ∙ c.requires.seat
          ∙ ap (λ (n : Named). n.table) (sym c.self.view_is),
      (Some won.0, out ∙ ap (λ (l : List (ℕ × Option W)). (0, Some won.0) ∷ rest l) (sym out)),
    )
