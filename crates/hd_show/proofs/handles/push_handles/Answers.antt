use Rattle.std.proofs.Common.{sym, ◌++◌, ◌∙◌}
use Rattle.std.proofs.lemmas.List.{append-nil}
use Rattle.hd_model.specs.Text.{newline}
use Rattle.hd_show.specs.Handles.{handle_row, handles_header}
use Rattle.hd_show.proofs.Tables.{list_end}
use Rattle.hd_show.proofs.handles.push_handles.Goals as goal

pub loop-handle-init : goal.loop-handle-init
loop-handle-init c =
    c.in_ok-push.ensures
    ∙ sym (append-nil (c.args.text.now ++ (handles_header ++ newline)))

pub returns : goal.returns
returns c =
    list_end handle_row c.args.handles.now c.loop-handle.handle-index c.loop-handle-test.false c.args.text.now
    (handles_header ++ newline) c.loop-handle.text c.loop-handle.invariant
    newline c.push-2.new.self c.in_ok-push-2.ensures
