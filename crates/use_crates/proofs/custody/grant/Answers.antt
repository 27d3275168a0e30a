use Rattle.std.proofs.Common.{◌∙◌, ap}
use Rattle.hd_custody.specs.Views.{Known}
use Rattle.use_crates.specs.declared.custody.one_block.OneBlock.{OneBlock}
use Rattle.use_crates.proofs.custody.grant.Goals as goal

pub returns-then-kind_word-ne0 : goal.returns-then-kind_word-ne0
returns-then-kind_word-ne0 g c =
    let entered = c.enter-world.ensures.view in
    let taken = ap (λ (s : Known OneBlock). s.view.taken) entered in
    let left = c.leave.ensures.view c.enter-world.result taken in record {
      seat = (
        ap (λ (s : Known OneBlock). s.table) left ∙ ap (λ (s : Known OneBlock). s.table) entered,
        ap (λ (s : Known OneBlock). s.view.has_gate) left,
        ap (λ (s : Known OneBlock). s.view.number) left ∙ ap (λ (s : Known OneBlock). s.view.number) entered,
      );
    }

pub returns : goal.returns
returns g c =
    let entered = c.enter-world.ensures.view in
    let granted = c.grant.ensures.view in
    let taken = ap (λ (s : Known OneBlock). s.view.taken) granted
    ∙ ap (λ (s : Known OneBlock). s.view.taken) entered in
    let left = c.leave-2.ensures.view c.enter-world.result taken in record {
      seat = (
        ap (λ (s : Known OneBlock). s.table) left ∙ ap (λ (s : Known OneBlock). s.table) granted
            ∙ ap (λ (s : Known OneBlock). s.table) entered,
        ap (λ (s : Known OneBlock). s.view.has_gate) left,
        ap (λ (s : Known OneBlock). s.view.number) left ∙ ap (λ (s : Known OneBlock). s.view.number) granted
            ∙ ap (λ (s : Known OneBlock). s.view.number) entered,
      );
    }
