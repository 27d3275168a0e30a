use Rattle.std.proofs.Common.{length, ◌≡◌}
use Rattle.hd_view.specs.Inside.{AreDueTo}
use Rattle.hd_view.proofs.accepted.all_due.Given as goal

abbrev pub invariant-loop-caller : goal.invariant-loop-caller
invariant-loop-caller l =
    AreDueTo l.before l.caller l.dues.items × (l.caller-end ≡ l.before.numbers.callers)
    × (l.caller-end ≡ length l.before.lists)
