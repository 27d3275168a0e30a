use Rattle.std.proofs.Common.{ap, append_assoc, arith, sym, ◌++◌, ◌+◌, ◌∙◌, ◌≡◌, is_some}
use Rattle.std.proofs.lemmas.List.{append-nil}
use Rattle.std.specs.FinMap.{get}
use Rattle.std.specs.List.{filter_map}
use Rattle.std.specs.Option.{option_and_then, option_to_list}
use Rattle.hd_scan.proofs.EntryRanges.{entries-are}
use Rattle.hd_seen.specs.Seen.{data_seen}
use Rattle.hd_seg.specs.Mapped.{entries_of}
use Rattle.hd_snapshot.proofs.Ranges.{kept-more, none_kept}
use Rattle.hd_snapshot.proofs.blocks.add_data.Goals as goal

pub loop-i-init : goal.loop-i-init
loop-i-init c =
    sym (append-nil c.args.seen.now.items)
    ∙ ap (λ l. c.args.seen.now.items ++ l) (none_kept (get c.args.table.now.uses) data_seen 1)

pub loop-i-preserved : goal.loop-i-preserved
loop-i-preserved c =
    let uses = get c.args.table.now.uses in
    c.in_ok-add.ensures
    ∙ (λ j. c.loop-i.invariant j ++ option_to_list (c.data_at-block.ensures j))
    ∙ append_assoc c.args.seen.now.items (filter_map data_seen (entries_of 1 c.loop-i.i uses))
    (option_to_list (option_and_then (λ u. data_seen (c.loop-i.i + 1, u)) (uses (c.loop-i.i + 1))))
    ∙ ap (λ l. c.args.seen.now.items ++ l)
    (sym (kept-more uses data_seen 1 c.loop-i.i (c.loop-i.i + 1) (omega arith)))

pub returns : goal.returns
returns c =
    let uses = get c.args.table.now.uses in
    let end : c.loop-i.i ≡ c.args.table.now.blocks = omega (arith, c.requires) in
    c.loop-i.invariant
    ∙ ap (λ l. c.args.seen.now.items ++ filter_map data_seen l)
    (ap (λ n. entries_of 1 n uses) end
    ∙ sym (entries-are c.args.table.now.uses 1 c.args.table.now.blocks (λ q u is.
    let it = c.given-given.ensures.table.uses q (ap is_some is) in
    (it.0, omega (arith, it.1)))))
