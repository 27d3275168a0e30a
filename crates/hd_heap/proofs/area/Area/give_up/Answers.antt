use Rattle.hd_heap.proofs.Basics.{false, length-replicate, refl}
use Rattle.hd_heap.proofs.Areas.{area_empty, falses}
use Rattle.hd_heap.proofs.area.Area.give_up.Goals as goal

pub returns-clause-freed : goal.returns-clause-freed
returns-clause-freed c = record {
  held = refl;
  contents_are = c.reset.ensures.empty;
  cards = falses 8;
  live = refl;
  count = refl;
}

pub returns-clause-area : goal.returns-clause-area
returns-clause-area c =
    area_empty _ (returns-clause-freed c) c.reset.ensures.laid_out c.requires.area.generation
    (length-replicate 8 false)
