use Rattle.hd_laws.proofs.WorkedChoices.{addresses_are_these}
use Rattle.hd_laws.proofs.command_laws.addresses_are_these.Goals as goal

pub returns : goal.returns
returns c = addresses_are_these
