use Rattle.hd_heap.proofs.Basics.{IsFreed, arith, refl}
use Rattle.hd_heap.proofs.Areas.{area_empty, falses}
use Rattle.hd_heap.proofs.area.Area.free.Goals as goal

pub returns : goal.returns
returns c =
    let freed : IsFreed _ = record {
      held = refl;
      contents_are = c.requires.empty;
      cards = falses 8;
      live = refl;
      count = refl;
    } in
    record { area = area_empty _ freed c.requires.laid_out (omega arith) refl; freed = freed }
