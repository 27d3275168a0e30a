use Rattle.std.proofs.Common.{List, ap, subst, ◌++◌, ◌∙◌, ◌≡◌}
use Rattle.std.specs.Prelude.{IfOk}
use Rattle.hd_seen.specs.Seen.{Picture, view_seen}
use Rattle.hd_seen.specs.declared.SeenBlock.{SeenBlock}
use Rattle.hd_seen.specs.declared.SeenHandle.{SeenHandle}
use Rattle.hd_show.specs.Blocks.{RowCounts, blocks_text, rows_of}
use Rattle.hd_show.specs.Handles.{handles_text}
use Rattle.hd_show.specs.Kinds.{kinds_text}
use Rattle.hd_show.proofs.Cells.{joined, joined_last}
use Rattle.hd_show.proofs.push_table.Goals as goal

pub returns : goal.returns
returns c =
    let p : Picture = view_seen c.args.seen.now in
    let handles : c.push_handles.new.text ≡ c.args.text.now ++ handles_text p.handles =
    c.in_ok-push_handles.ensures
    ∙ ap (λ (hs : List SeenHandle). c.args.text.now ++ handles_text hs) c.deref.ensures.value in
    let kinds : c.push_kinds.new.text ≡ c.push_handles.new.text ++ kinds_text (rows_of p) p =
    c.in_ok-push_kinds.ensures
    ∙ ap (λ (r : RowCounts). c.push_handles.new.text ++ kinds_text r p) c.in_ok-rows.ensures in
    joined_last c.push_blocks.result c.args.text.now
    (handles_text p.handles ++ kinds_text (rows_of p) p) (blocks_text (rows_of p) p.blocks)
    c.push_kinds.new.text c.push_blocks.new.text
    (joined c.args.text.now (handles_text p.handles) (kinds_text (rows_of p) p) c.push_handles.new.text
    c.push_kinds.new.text handles kinds)
    (subst (λ (bs : List SeenBlock). IfOk c.push_blocks.result
    (λ _. c.push_blocks.new.text ≡ c.push_kinds.new.text ++ blocks_text (rows_of p) bs))
    c.deref-2.ensures.value
    (subst (λ (r : RowCounts). IfOk c.push_blocks.result
    (λ _. c.push_blocks.new.text ≡ c.push_kinds.new.text ++ blocks_text r c.deref-2.result.now))
    c.in_ok-rows.ensures c.push_blocks.ensures))
