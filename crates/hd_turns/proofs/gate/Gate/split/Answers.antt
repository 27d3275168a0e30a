use Rattle.std.proofs.Common.{rules, ap, ◌∙◌}
use Rattle.hd_turns.specs.Views.{Known}
use Rattle.hd_turns.proofs.TableSteps.{splits}
use Rattle.hd_turns.proofs.gate.Gate.split.Goals as goal

pub split_seat-requires : goal.split_seat-requires
split_seat-requires g c =
    let W = g.row.W.Denot in
    let last = ap (λ (k : Known W). k.view.is_last) c.last.view_is ∙ c.requires.last in
    (search rules, search rules, splits g.W.Turn.turn _ _ last)
