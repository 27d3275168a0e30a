use Rattle.std.proofs.Common.{rules, false, ◌≡◌}
use Rattle.hd_scan.proofs.Basics.{ROWS, option_to_list, sym, ◌*◌, ◌++◌, ◌∙◌}
use Rattle.hd_scan.proofs.RootLists.{none_holds, none_yet, one_more, of_kind, no_roots}
use Rattle.hd_scan.proofs.gathering.roots_of_block.Goals as goal

pub loop-row-init : goal.loop-row-init
loop-row-init c = c.new-roots.ensures.items ∙ none_yet c.args.seg.now (ROWS * c.args.block)

pub root_at-root-requires : goal.root_at-root-requires
root_at-root-requires c =
    of_kind c.args.seg.now c.in-Rows.ensures.table c.args.block c.in-Rows.kind c.loop-row.row
    c.loop-row-test.true c.in-Rows.ensures.value

pub loop-row-preserved : goal.loop-row-preserved
loop-row-preserved c =
    c.in_ok-add.ensures ∙ (λ i. c.loop-row.invariant i ++ option_to_list (c.root_at-root.ensures i))
    ∙ sym (one_more c.args.seg.now (ROWS * c.args.block) c.loop-row.row)

pub returns-then-not-may_hold : goal.returns-then-not-may_hold
returns-then-not-may_hold c =
    let never : c.may_hold.result ≡ false = search rules in
    c.new-roots.ensures.items
    ∙ none_holds c.args.seg.now c.in-Rows.ensures.table c.args.block c.in-Rows.kind c.in-Rows.ensures.value
    (c.may_hold.ensures never)

pub returns-in_default : goal.returns-in_default
returns-in_default c =
    c.new-roots.ensures.items
    ∙ no_roots c.args.seg.now c.block_kind.ensures.table c.args.block c.block_kind.result
    c.block_kind.ensures.value c.in_default.not-Rows
