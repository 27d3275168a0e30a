use Rattle.std.proofs.Common.{take, ◌++◌, ◌≡◌}
use Rattle.std.specs.Prelude.{flat_map}
use Rattle.hd_view.specs.WhyText.{due_text}
use Rattle.hd_view.proofs.why_text.push_dues.Given as goal

abbrev pub invariant-loop-due : goal.invariant-loop-due
invariant-loop-due l = l.text ≡ l.fn.text ++ flat_map due_text (take l.due-index l.dues)
