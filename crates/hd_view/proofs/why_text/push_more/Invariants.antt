use Rattle.std.proofs.Common.{take, ◌++◌, ◌≡◌}
use Rattle.std.specs.Prelude.{flat_map}
use Rattle.hd_view.specs.WhyText.{another_word}
use Rattle.hd_view.proofs.why_text.push_more.Given as goal

abbrev pub invariant-loop-range : goal.invariant-loop-range
invariant-loop-range l = l.text ≡ l.fn.text ++ flat_map another_word (take l.range-index l.ranges)
