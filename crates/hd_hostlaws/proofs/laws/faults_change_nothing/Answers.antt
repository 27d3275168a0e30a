use Rattle.hd_hostlaws.proofs.Faults.{faults_change_nothing}
use Rattle.hd_hostlaws.proofs.laws.faults_change_nothing.Goals as goal

pub returns : goal.returns
returns c = faults_change_nothing
