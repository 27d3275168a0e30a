use Rattle.hd_laws.proofs.FreeAddresses.{runs_are_never_stuck}
use Rattle.hd_laws.proofs.laws.runs_are_never_stuck.Goals as goal

pub returns : goal.returns
returns c = runs_are_never_stuck
