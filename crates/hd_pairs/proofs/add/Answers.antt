use Rattle.std.proofs.Common.{◌∙◌, ap}
use Rattle.hd_custody.specs.Views.{Known}
use Rattle.hd_pairs.specs.declared.pages.Pages.{Pages}
use Rattle.hd_pairs.proofs.add.Goals as goal

pub returns-then-world-ge-BLOCKS : goal.returns-then-world-ge-BLOCKS
returns-then-world-ge-BLOCKS g c =
    let entered = c.enter-world.ensures.view in
    let taken = ap (λ (s : Known Pages). s.view.taken) entered in
    let left = c.leave.ensures.view c.enter-world.result taken in record {
      seat = (
        ap (λ (s : Known Pages). s.table) left ∙ ap (λ (s : Known Pages). s.table) entered,
        ap (λ (s : Known Pages). s.view.has_gate) left,
        ap (λ (s : Known Pages). s.view.number) left ∙ ap (λ (s : Known Pages). s.view.number) entered,
      );
    }

pub returns : goal.returns
returns g c =
    let entered = c.enter-world.ensures.view in
    let granted = c.grant.ensures.view in
    let taken = ap (λ (s : Known Pages). s.view.taken) granted
    ∙ ap (λ (s : Known Pages). s.view.taken) entered in
    let left = c.leave-2.ensures.view c.enter-world.result taken in record {
      seat = (
        ap (λ (s : Known Pages). s.table) left ∙ ap (λ (s : Known Pages). s.table) granted
            ∙ ap (λ (s : Known Pages). s.table) entered,
        ap (λ (s : Known Pages). s.view.has_gate) left,
        ap (λ (s : Known Pages). s.view.number) left ∙ ap (λ (s : Known Pages). s.view.number) granted
            ∙ ap (λ (s : Known Pages). s.view.number) entered,
      );
    }
