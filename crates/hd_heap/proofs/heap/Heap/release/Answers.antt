use Rattle.hd_heap.proofs.Basics.{◌∙◌}
use Rattle.hd_heap.proofs.RegionGiveUp.{released}
use Rattle.hd_heap.proofs.heap.Heap.release.Goals as goal

pub returns : goal.returns
returns c = c.give_up.ensures
    ∙ released c.args.self.now c.args.region c.regions-regions.ensures.sound c.requires.no_object
