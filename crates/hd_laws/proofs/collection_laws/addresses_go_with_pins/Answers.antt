use Rattle.hd_laws.proofs.WorkedChoices.{addresses_go_with_pins}
use Rattle.hd_laws.proofs.collection_laws.addresses_go_with_pins.Goals as goal

pub returns : goal.returns
returns c = addresses_go_with_pins
