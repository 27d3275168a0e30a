use Rattle.std.proofs.Common.{ap, ◌∙◌}
use Rattle.hd_custody.specs.Views.{Known}
use Rattle.hd_custody_rows.specs.declared.blocks.Blocks.{Blocks}
use Rattle.hd_custody_rows.proofs.waking.take_turn.Goals as goal

pub returns : goal.returns
returns g c =
    let entered = c.enter-world.ensures.view in
    let taken = ap (λ (s : Known Blocks). s.view.taken) entered in
    let left = c.leave.ensures.view c.enter-world.result taken in record {
      seat = (
        ap (λ (s : Known Blocks). s.table) left ∙ ap (λ (s : Known Blocks). s.table) entered,
        ap (λ (s : Known Blocks). s.view.has_gate) left,
      );
    }
