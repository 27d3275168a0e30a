use Rattle.hd_mark.proofs.Basics.{and_parts, arith, ◌<◌}
use Rattle.std.proofs.Common.{ap, length, ℕ}
use Rattle.std.proofs.lemmas.List.{length-replicate, length-set}
use Rattle.hd_mark.proofs.CondemnedWalks.{bare_covers, bare_placed, bare_table, placed_covers, placed_next}
use Rattle.hd_mark.proofs.indexes.Indexes.of.Goals.{In-Some}
use Rattle.hd_mark.proofs.indexes.Indexes.of.Goals as goal

pub returns-then-extent-eq0 : goal.returns-then-extent-eq0
returns-then-extent-eq0 c =
    let made = c.in_ok-indexes.ensures in
    record {
      table = bare_table _ c.args.extent.end made 0 (omega arith);
      covers = bare_covers _ c.args.extent.end made c.args.heap.now c.args.n c.args.extent.regions
          c.requires.extent.regions c.if-extent-eq0.true;
      span = λ a has.
          let above = c.requires.extent.above a has in
          omega (arith, above, ap length made, length-replicate {A = ℕ} c.args.extent.end 0);
    }

pub loop-region-init : goal.loop-region-init
loop-region-init c = record {
  placed = bare_placed _ c.args.extent.end c.in_ok-indexes.ensures c.args.heap.now c.args.n
      c.regions-held.ensures.sound;
  long = omega (arith, ap length c.in_ok-indexes.ensures, length-replicate {A = ℕ} c.args.extent.end 0);
}

within : (c : In-Some) → c.in-Some.region < c.args.extent.end
within c =
    let next = c.in-Some.ensures.walk in
    let above = c.requires.extent.above next.at (and_parts _ _ next.member).0 in
    omega (arith, above, next.region)

pub index_mut-requires : goal.index_mut-requires
index_mut-requires c =
    omega (arith, within (goal.at.index_mut-requires c).In-Some, c.loop-region.invariant.long)

pub overflow_add-regions : goal.overflow_add-regions
overflow_add-regions c =
    let low = within (goal.at.overflow_add-regions c).In-Some in
    let beyond = c.in-Some.ensures.walk.beyond in
    omega (arith, c.loop-region.invariant.placed.few, beyond, low, c.requires.extent.small)

pub loop-region-preserved : goal.loop-region-preserved
loop-region-preserved c =
    let low = within (goal.at.loop-region-preserved c).In-Some in
    let long = c.loop-region.invariant.long in
    let same = length-set c.loop-region.indexes.items c.in-Some.region c.loop-region.regions in
    record {
      placed = placed_next c.in-Some.ensures.walk c.loop-region.indexes.items c.loop-region.invariant.placed
          (omega (arith, low, long)) (omega (arith, long, c.requires.extent.small));
      long = omega (arith, same, long);
    }

pub returns : goal.returns
returns c = record {
  table = c.loop-region.invariant.placed.table;
  covers = placed_covers c.loop-region.invariant.placed c.in_default.ensures.walk;
  span = λ a has.
      let above = c.requires.extent.above a has in omega (arith, above, c.loop-region.invariant.long);
}
