-- The vectors of a table, as its fields have them.
use Rattle.hd_seg.proofs.Basics.{Vectors}
use Rattle.hd_seg.specs.declared.seg.Seg.TheInside.{Inside}

abbrev pub vectors : Inside → Vectors
vectors s = record { targets = s.targets.items; extras = s.extras.items; masks = s.masks.items }
