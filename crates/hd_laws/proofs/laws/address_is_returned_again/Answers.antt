use Rattle.hd_laws.proofs.PinnedAddressReads.{address_is_returned_again}
use Rattle.hd_laws.proofs.laws.address_is_returned_again.Goals as goal

pub returns : goal.returns
returns c = address_is_returned_again
