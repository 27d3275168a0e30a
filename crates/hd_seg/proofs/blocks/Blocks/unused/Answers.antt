use Rattle.hd_seg.proofs.Basics.{Uses, ap, arith, len, use_at}
use Rattle.hd_seg.proofs.FunctionMaps.{len-mapped_le}
use Rattle.hd_seg.proofs.blocks.Blocks.unused.Goals as goal

pub overflow_sub-result : goal.overflow_sub-result
overflow_sub-result c =
    let known = len-mapped_le 1 c.self.inside.number (use_at c.self.inside.table.items) in
    omega (arith, c.self.invariant.0.counted, known)

pub returns : goal.returns
returns c = record {
  value = (let known = len-mapped_le 1 c.self.inside.number (use_at c.self.inside.table.items) in
      let also = ap (λ (u : Uses). len u.table.uses) c.self.view_is in
      let more = ap (λ (u : Uses). u.table.blocks) c.self.view_is in
      omega (arith, c.self.invariant.0.counted, known, also, more));
}
