use Rattle.std.proofs.Common.{ap, append_assoc, sym, take, ◌++◌, ◌∙◌}
use Rattle.std.specs.Prelude.{flat_map, slice_index_or}
use Rattle.hd_model.specs.Kinds.{all_kinds}
use Rattle.hd_model.specs.declared.data.Kind.TheVariants as kind
use Rattle.hd_seen.specs.Seen.{chain_seen}
use Rattle.hd_snapshot.proofs.Chains.{lists-more}
use Rattle.hd_snapshot.proofs.blocks.add_chains.Goals as goal

pub loop-kind-preserved : goal.loop-kind-preserved
loop-kind-preserved c =
    let i = c.loop-kind.kind-index in
    let seen = chain_seen c.args.table.now in
    c.in_ok-add_chain.ensures
    ∙ ap (λ l. l ++ seen (slice_index_or all_kinds i kind.Short)) c.loop-kind.invariant
    ∙ append_assoc c.args.seen.now.items (flat_map seen (take i all_kinds))
    (seen (slice_index_or all_kinds i kind.Short))
    ∙ ap (λ l. c.args.seen.now.items ++ l)
    (sym (lists-more seen all_kinds i kind.Short c.loop-kind-test.true))
