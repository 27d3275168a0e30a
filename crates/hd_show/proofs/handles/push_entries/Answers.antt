use Rattle.std.proofs.Common.{sym, ◌++◌, ◌∙◌}
use Rattle.std.proofs.lemmas.List.{append-nil}
use Rattle.hd_model.specs.Text.{newline}
use Rattle.hd_show.specs.Handles.{entry_row, entries_header}
use Rattle.hd_show.proofs.Tables.{list_end}
use Rattle.hd_show.proofs.handles.push_entries.Goals as goal

pub loop-entry-init : goal.loop-entry-init
loop-entry-init c =
    c.in_ok-push.ensures
    ∙ sym (append-nil (c.args.text.now ++ (entries_header ++ newline)))

pub returns : goal.returns
returns c =
    list_end entry_row c.args.entries.now c.loop-entry.entry-index c.loop-entry-test.false c.args.text.now
    (entries_header ++ newline) c.loop-entry.text c.loop-entry.invariant
    newline c.push-2.new.self c.in_ok-push-2.ensures
