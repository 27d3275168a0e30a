use Rattle.std.proofs.Common.{◌∙◌, ◌*◌, ◌++◌, ◌≡◌, sym, ap, arith}
use Rattle.hd_model.specs.declared.limits.TheConstants.{ROWS}
use Rattle.hd_model.specs.RootText.{roots_in}
use Rattle.hd_model.specs.Table.{row_at}
use Rattle.hd_seg.specs.Mapped.{entries_of}
use Rattle.hd_scan.specs.Gathering.{root_by}
use Rattle.hd_scan.proofs.RootLists.{none_yet, next_block, all_rows}
use Rattle.hd_scan.proofs.gathering.gather_in_turn.Goals as goal

pub loop-i-init : goal.loop-i-init
loop-i-init c = c.new-roots.ensures.items ∙ none_yet c.args.seg.now ROWS

pub loop-i-preserved : goal.loop-i-preserved
loop-i-preserved c =
    c.in_ok-extend_from_slice.ensures.items
    ∙ (λ k. c.loop-i.invariant k ++ (c.deref.ensures.value ∙ c.in_ok-part.ensures) k)
    ∙ sym (next_block c.args.seg.now c.loop-i.i)

pub returns : goal.returns
returns c =
    let end : c.loop-i.i ≡ c.args.seg.now.blocks = omega (arith, c.requires) in
    c.loop-i.invariant ∙ ap (λ n. roots_in root_by (entries_of ROWS (ROWS * n) (row_at c.args.seg.now))) end
    ∙ all_rows c.args.seg.now c.given-given.ensures.table
