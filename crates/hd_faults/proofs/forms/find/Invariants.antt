use Rattle.std.proofs.Common.{drop, map, ◌≡◌}
use Rattle.hd_model.specs.Grammar.{look_up}
use Rattle.hd_faults.specs.Inside.{row_seen}
use Rattle.hd_faults.proofs.forms.find.Given as goal

-- the rows that are left decide
abbrev pub invariant-rows : goal.invariant-rows
invariant-rows l =
    look_up l.name (map row_seen (drop l.row-index l.rows)) ≡ look_up l.name (map row_seen l.rows)
