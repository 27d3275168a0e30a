use Rattle.std.proofs.Common.{None, sym, ◌++◌, ◌∙◌}
use Rattle.std.specs.Prelude.{flat_map}
use Rattle.std.proofs.lemmas.List.{append-nil}
use Rattle.hd_model.specs.Kinds.{all_kinds}
use Rattle.hd_model.specs.declared.data.Kind.TheVariants as kind
use Rattle.hd_model.specs.Text.{newline}
use Rattle.hd_seen.specs.Seen.{view_seen}
use Rattle.hd_show.specs.Inside.{rows_by}
use Rattle.hd_show.specs.Kinds.{kind_row, kinds_header, of_kind}
use Rattle.hd_show.proofs.Cells.{joined}
use Rattle.hd_show.proofs.Tables.{list_end, list_next}
use Rattle.hd_show.proofs.kinds.push_kinds.Goals as goal

pub loop-kind-init : goal.loop-kind-init
loop-kind-init c =
    c.in_ok-push.ensures
    ∙ sym (append-nil (c.args.text.now ++ (kinds_header ++ newline)))

pub loop-kind-preserved : goal.loop-kind-preserved
loop-kind-preserved c =
    list_next (of_kind (rows_by c.args.rows.now) (view_seen c.args.seen.now)) all_kinds
    c.loop-kind.kind-index kind.Short c.loop-kind-test.true (c.args.text.now ++ (kinds_header ++ newline))
    c.loop-kind.text c.push_kind.new.text c.loop-kind.invariant c.in_ok-push_kind.ensures

pub returns : goal.returns
returns c =
    let rows = rows_by c.args.rows.now in
    let seen = view_seen c.args.seen.now in
    let last = kind_row rows seen None in
    joined c.args.text.now ((kinds_header ++ newline) ++ (flat_map (of_kind rows seen) all_kinds ++ last))
    newline c.push_kind-2.new.text c.push-2.new.self
    (list_end (of_kind rows seen) all_kinds c.loop-kind.kind-index c.loop-kind-test.false c.args.text.now
    (kinds_header ++ newline) c.loop-kind.text c.loop-kind.invariant last c.push_kind-2.new.text
    c.in_ok-push_kind-2.ensures)
    c.in_ok-push-2.ensures
