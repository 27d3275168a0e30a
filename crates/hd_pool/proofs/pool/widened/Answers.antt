use Rattle.hd_pool.proofs.Basics.{KindBlocks, None, NumberSet, ap, arith, get_or_read, kind_at, length, sym, ◌<◌, ◌∙◌, ◌≡◌}
use Rattle.hd_pool.proofs.MovedLists.{moved_none, moved_on}
use Rattle.hd_pool.proofs.pool.widened.Goals as goal

pub loop-block-init : goal.loop-block-init
loop-block-init c = record {
  stride = ap (λ (r : KindBlocks). r.stride) c.in_ok-after.ensures;
  ready_room = omega (arith, ap (λ (r : KindBlocks). r.room) c.in_ok-after.ensures);
  room = omega (arith, ap (λ (s : NumberSet). s.room) c.in_ok-whole.ensures);
  ready = moved_none (ap (λ (r : KindBlocks). r.members) c.in_ok-after.ensures);
  wholes = moved_none (ap (λ (s : NumberSet). s.members) c.in_ok-whole.ensures);
}

pub loop-block-preserved : goal.loop-block-preserved
loop-block-preserved c =
    let was = c.loop-block.invariant in
    let kinds = c.args.kinds.now.items in
    let block = c.loop-block.block in
    let within : block < length kinds = omega (arith, c.loop-block-test.true, c.len-block-end.ensures, c.args.kinds.now.ok.0) in
    let low : block < c.args.stride = omega (arith, within, c.requires.wide) in
    let read : kind_at kinds block ≡ c.index.result.now =
    sym (get_or_read kinds block c.index.result.now within c.index.ensures None) in
    record {
      stride = ap (λ (r : KindBlocks). r.stride) c.move_block.ensures.ready ∙ was.stride;
      ready_room = omega (arith, ap (λ (r : KindBlocks). r.room) c.move_block.ensures.ready, was.ready_room);
      room = omega (arith, ap (λ (s : NumberSet). s.room) c.move_block.ensures.wholes, was.room);
      ready = moved_on c.index.result.now was.ready read low was.stride
          (ap (λ (r : KindBlocks). r.members) c.move_block.ensures.ready);
      wholes = moved_on c.index.result.now was.wholes read low was.stride
          (ap (λ (s : NumberSet). s.members) c.move_block.ensures.wholes);
    }
