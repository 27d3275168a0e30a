use Rattle.hd_laws.proofs.PinnedAddressReads.{pinned_address_is_read_back}
use Rattle.hd_laws.proofs.laws.pinned_address_is_read_back.Goals as goal

pub returns : goal.returns
returns c = pinned_address_is_read_back
