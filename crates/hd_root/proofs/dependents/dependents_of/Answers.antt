use Rattle.std.proofs.Common.{◌<◌, sym, ap, subst}
use Rattle.std.specs.Option.{option_map_or}
use Rattle.hd_model.specs.declared.data.Kind.TheVariants as kind
use Rattle.hd_model.specs.Table.{chain_of, has_handles}
use Rattle.hd_root.proofs.LinkRows.{left_from, on_at, block_use, block_bounds, chain_next, chain_falls, chain_end}
use Rattle.hd_root.proofs.dependents.dependents_of.Goals as goal

pub add_links_of_block-requires-clause-low : goal.add_links_of_block-requires-clause-low
add_links_of_block-requires-clause-low c =
    let links = c.loop-block.dependents in
    (block_bounds c.args.seg.now c.first-block.ensures.table links links c.in-Some.at
    (on_at c.in-Some.is c.loop-block.invariant)).0

pub add_links_of_block-requires-clause-high : goal.add_links_of_block-requires-clause-high
add_links_of_block-requires-clause-high c =
    let links = c.loop-block.dependents in
    (block_bounds c.args.seg.now c.first-block.ensures.table links links c.in-Some.at
    (on_at c.in-Some.is c.loop-block.invariant)).1

pub after-block-requires : goal.after-block-requires
after-block-requires c =
    let links = c.loop-block.dependents in
    ap has_handles (block_use c.args.seg.now c.first-block.ensures.table links links c.in-Some.at
    (on_at c.in-Some.is c.loop-block.invariant))

pub loop-block-smaller : goal.loop-block-smaller
loop-block-smaller c =
    let t = c.args.seg.now in
    subst
    (λ o. option_map_or (left_from (chain_of t kind.Dependent)) c.after-block.result 0
    < option_map_or (left_from (chain_of t kind.Dependent)) o 0)
    (sym c.in-Some.is)
    (chain_falls t c.first-block.ensures.table c.loop-block.dependents c.add_links_of_block.new.dependents
    c.in-Some.at (on_at c.in-Some.is c.loop-block.invariant) c.after-block.result c.after-block.ensures.value)

pub loop-block-preserved : goal.loop-block-preserved
loop-block-preserved c =
    chain_next c.args.seg.now c.first-block.ensures.table c.loop-block.dependents
    c.add_links_of_block.new.dependents
    c.in-Some.at (on_at c.in-Some.is c.loop-block.invariant) c.after-block.result c.after-block.ensures.value
    c.in_ok-add_links_of_block.ensures

pub returns : goal.returns
returns c =
    chain_end c.args.seg.now c.first-block.ensures.table c.loop-block.dependents
    (on_at c.in_default.is c.loop-block.invariant)
