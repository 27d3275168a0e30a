use Rattle.std.proofs.Common.{◌∙◌, ap}
use Rattle.hd_custody.specs.Views.{Known}
use Rattle.hd_custody_rows.specs.declared.blocks.Blocks.{Blocks}
use Rattle.hd_custody_rows.proofs.slots.grant.Goals as goal

pub returns-then-kind_word-ne0 : goal.returns-then-kind_word-ne0
returns-then-kind_word-ne0 g c =
    let entered = c.enter-world.ensures.view in
    let taken = ap (λ (s : Known Blocks). s.view.taken) entered in
    let left = c.leave.ensures.view c.enter-world.result taken in record {
      seat = (
        ap (λ (s : Known Blocks). s.table) left ∙ ap (λ (s : Known Blocks). s.table) entered,
        ap (λ (s : Known Blocks). s.view.has_gate) left,
      );
    }

pub returns : goal.returns
returns g c =
    let entered = c.enter-world.ensures.view in
    let granted = c.grant.ensures.view in
    let taken = ap (λ (s : Known Blocks). s.view.taken) granted
    ∙ ap (λ (s : Known Blocks). s.view.taken) entered in
    let left = c.leave-2.ensures.view c.enter-world.result taken in record {
      seat = (
        ap (λ (s : Known Blocks). s.table) left ∙ ap (λ (s : Known Blocks). s.table) granted
            ∙ ap (λ (s : Known Blocks). s.table) entered,
        ap (λ (s : Known Blocks). s.view.has_gate) left,
      );
    }
