use Rattle.std.proofs.Common.{rules}
use Rattle.hd_store.proofs.StoreWords.{Machine, WeakTable, ap, arith, buckets_of, get, get-empty, nat_cmp, true, ◌∙◌, ◌≡◌}
use Rattle.hd_store.proofs.WeakRoom.{large_buckets}
use Rattle.hd_model.specs.declared.limits.TheConstants.{CALLERS}
use Rattle.hd_store.proofs.contents.Contents.first_table.Goals as goal

pub returns-clause-table : goal.returns-clause-table
returns-clause-table c = λ gets.
    let n = c.args.self.now.numbers in
    let yes_it_lacks : c.lacks_table.result ≡ true = search rules in
    let lacks = c.lacks_table.ensures.lacks yes_it_lacks in
    let blocks : c.blocks-blocks.result ≡ n.blocks = omega (
      arith,
      c.blocks-blocks.ensures.value,
      c.self.invariant.clumps,
      ap (λ (m : Machine). m.numbers.blocks) c.self.view_is,
    ) in (
      record {
        blocks_are = ap (λ (w : WeakTable). w.blocks) c.in_ok-table.ensures ∙ blocks;
        buckets_are = ap (λ (w : WeakTable). w.buckets) c.in_ok-table.ensures ∙ c.buckets_for.ensures.value
            ∙ ap (λ b. buckets_of b CALLERS) blocks ∙ large_buckets n.blocks CALLERS n.callers lacks.0;
      },
      λ slot. ap (λ (w : WeakTable). get w.held slot) c.in_ok-table.ensures ∙ get-empty nat_cmp slot,
      lacks.1,
    )
