use Rattle.std.proofs.Common.{drop, ◌≡◌}
use Rattle.std.specs.List.{list_any}
use Rattle.hd_plain.specs.Inside.{is_marked}
use Rattle.hd_plain.specs.Levels.{is_in}
use Rattle.hd_plain.proofs.levels.has_any.Given as goal

abbrev pub invariant-loop-field : goal.invariant-loop-field
invariant-loop-field l =
    list_any (is_in (is_marked l.set)) (drop l.field-index l.fields)
    ≡ list_any (is_in (is_marked l.set)) l.fields
