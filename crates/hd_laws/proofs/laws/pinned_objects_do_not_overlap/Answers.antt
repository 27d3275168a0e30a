use Rattle.hd_model.proofs.AddressesApart.{pinned_objects_do_not_overlap}
use Rattle.hd_laws.proofs.laws.pinned_objects_do_not_overlap.Goals as goal

pub returns : goal.returns
returns c = pinned_objects_do_not_overlap
