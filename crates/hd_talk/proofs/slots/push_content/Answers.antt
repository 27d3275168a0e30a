use Rattle.std.proofs.Common.{List, ap, subst, ℕ, ◌++◌, ◌==◌, ◌∙◌, ◌≡◌}
use Rattle.std.specs.Prelude.{IfOk, find}
use Rattle.hd_seen.specs.declared.SeenEntry.{SeenEntry}
use Rattle.hd_seen.specs.declared.SeenHandle.{SeenHandle}
use Rattle.hd_show.proofs.Cells.{joined_last}
use Rattle.hd_talk.specs.Slots.{line_of, slot_words}
use Rattle.hd_talk.proofs.slots.push_content.Goals as goal

pub returns : goal.returns
returns c =
    let old : List ℕ = c.args.text.now.items in
    let begun : List ℕ = c.push_line.new.text.items in
    let now : List ℕ = c.push_found.new.text.items in
    let slot : ℕ = c.args.slot.0 in
    let handles : List SeenHandle = c.args.seen.now.handles.items in
    let entries : List SeenEntry = c.args.seen.now.entries.items in
    let handle : c.handle_in-handle.result ≡ find (λ (h : SeenHandle). h.slot.0 == slot) handles =
    c.handle_in-handle.ensures ∙ ap (find (λ (h : SeenHandle). h.slot.0 == slot)) c.deref.ensures.value in
    let entry : c.entry_in-entry.result ≡ find (λ (e : SeenEntry). e.slot.0 == slot) entries =
    c.entry_in-entry.ensures ∙ ap (find (λ (e : SeenEntry). e.slot.0 == slot)) c.deref-2.ensures.value in
    let found : List ℕ = line_of (find (λ (h : SeenHandle). h.slot.0 == slot) handles)
    (find (λ (e : SeenEntry). e.slot.0 == slot) entries) in
    joined_last c.push_found.result old (slot_words slot) found begun now
    (c.in_ok-push_line.ensures ∙ ap (λ (ws : List ℕ). old ++ ws) c.slot_line.ensures)
    (subst (λ (xs : List ℕ). IfOk c.push_found.result (λ _. now ≡ begun ++ xs))
    (λ i. line_of (handle i) (entry i)) c.push_found.ensures)
