use Rattle.std.proofs.Common.{ap, ◌∙◌}
use Rattle.hd_ends.specs.Ends.{SharerView, first_of}
use Rattle.hd_ends.proofs.sharer.Sharer.first.Goals as goal

pub returns-clause-value : goal.returns-clause-value
returns-clause-value c = c.self.invariant.first_is ∙ ap (λ (s : SharerView). first_of s.end) c.self.view_is
