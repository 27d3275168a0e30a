use Rattle.std.proofs.Common.{ap, arith, map, sym, ◌++◌, ◌*◌, ◌+◌, ◌∙◌, ◌≡◌}
use Rattle.std.specs.FinMap.{get}
use Rattle.std.specs.Option.{option_to_list}
use Rattle.hd_model.specs.declared.limits.TheConstants.{ROWS}
use Rattle.hd_seg.specs.Mapped.{entries_of}
use Rattle.hd_seen.specs.Seen.{handle_seen}
use Rattle.hd_store.specs.Store.{Machine}
use Rattle.hd_snapshot.proofs.Ranges.{all_read, none_read, read-more}
use Rattle.hd_snapshot.proofs.StoreSlots.{handle_block, slot_below}
use Rattle.hd_snapshot.proofs.rows.handles.Goals as goal

pub loop-number-init : goal.loop-number-init
loop-number-init c =
    c.new-seen.ensures.items ∙ none_read (get c.args.store.now.state.handles)
    (handle_seen c.args.store.now.ages) 0

pub loop-number-preserved : goal.loop-number-preserved
loop-number-preserved c =
    c.in_ok-add.ensures
    ∙ (λ i. c.loop-number.invariant i ++ option_to_list (c.handle_in-handle.ensures i))
    ∙ sym (read-more (get c.args.store.now.state.handles)
    (handle_seen c.args.store.now.ages) 0 c.loop-number.number
    c.loop-number.number (omega arith))

pub returns : goal.returns
returns c =
    let blocks = ap (λ (m : Machine). m.numbers.blocks) c.contents-contents.ensures.value in
    let end : c.loop-number.number ≡ ROWS * (c.args.store.now.numbers.blocks + 1) = omega (arith, blocks) in
    c.loop-number.invariant
    ∙ ap (map (handle_seen c.args.store.now.ages))
    (ap (λ n. entries_of 0 n (get c.args.store.now.state.handles)) end
    ∙ all_read c.args.store.now.state.handles (ROWS * (c.args.store.now.numbers.blocks + 1)) (λ q x is.
    slot_below q c.args.store.now.numbers.blocks (handle_block c.contents-contents.ensures.sound q x is).1))
