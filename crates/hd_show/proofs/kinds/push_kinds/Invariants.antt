use Rattle.std.proofs.Common.{take, ◌++◌, ◌≡◌}
use Rattle.std.specs.Prelude.{flat_map}
use Rattle.hd_model.specs.Kinds.{all_kinds}
use Rattle.hd_model.specs.Text.{newline}
use Rattle.hd_seen.specs.Seen.{view_seen}
use Rattle.hd_show.specs.Inside.{rows_by}
use Rattle.hd_show.specs.Kinds.{kinds_header, of_kind}
use Rattle.hd_show.proofs.kinds.push_kinds.Given as goal

abbrev pub invariant-loop-kind : goal.invariant-loop-kind
invariant-loop-kind l =
    l.text
    ≡ (l.fn.text ++ (kinds_header ++ newline))
    ++ flat_map (of_kind (rows_by l.rows) (view_seen l.seen)) (take l.kind-index all_kinds)
