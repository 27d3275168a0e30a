use Rattle.std.proofs.Common.{List, Option, ap, ◌++◌, ◌∙◌, ◌≡◌, ℕ}
use Rattle.hd_model.specs.declared.data.Id.{Id}
use Rattle.hd_model.specs.declared.data.Slot.{Slot}
use Rattle.hd_seen.specs.Seen.{Picture, view_seen}
use Rattle.hd_seen.specs.declared.SeenEntry.{SeenEntry}
use Rattle.hd_show.specs.Handles.{entries_text}
use Rattle.hd_show.specs.Lists.{board_text, queue_text, statics_text}
use Rattle.hd_show.specs.Registers.{registers_text}
use Rattle.hd_show.proofs.Cells.{joined, joined_last}
use Rattle.hd_show.proofs.push_rest.Goals as goal

pub returns : goal.returns
returns c =
    let p : Picture = view_seen c.args.seen.now in
    let old : List ℕ = c.args.text.now in
    let queue : List ℕ = queue_text p.queue in
    let entries : List ℕ = entries_text p.entries in
    let registers : List ℕ = registers_text p.registers p.handle_registers in
    let statics : List ℕ = statics_text p.statics in
    let first : c.push_queue.new.text ≡ old ++ queue =
    c.in_ok-push_queue.ensures ∙ ap (λ (ids : List Id). old ++ queue_text ids) c.deref.ensures.value in
    let second : c.push_entries.new.text ≡ c.push_queue.new.text ++ entries =
    c.in_ok-push_entries.ensures
    ∙ ap (λ (es : List SeenEntry). c.push_queue.new.text ++ entries_text es) c.deref-2.ensures.value in
    let third : c.push_registers.new.text ≡ c.push_entries.new.text ++ registers =
    c.in_ok-push_registers.ensures
    ∙ ap (λ (rs : List (List (Option Id))). c.push_entries.new.text ++ registers_text rs c.deref-4.result.now)
    c.deref-3.ensures.value
    ∙ ap (λ (rs : List (List (Option Slot))). c.push_entries.new.text ++ registers_text p.registers rs)
    c.deref-4.ensures.value in
    joined_last c.push_board.result old (((queue ++ entries) ++ registers) ++ statics) (board_text p.board)
    c.push_statics.new.text c.push_board.new.text
    (joined old ((queue ++ entries) ++ registers) statics c.push_registers.new.text c.push_statics.new.text
    (joined old (queue ++ entries) registers c.push_entries.new.text c.push_registers.new.text
    (joined old queue entries c.push_queue.new.text c.push_entries.new.text first second)
    third) c.in_ok-push_statics.ensures)
    c.push_board.ensures
