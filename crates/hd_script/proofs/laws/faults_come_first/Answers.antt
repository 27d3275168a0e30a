use Rattle.hd_script.proofs.FirstFault as laws
use Rattle.hd_script.proofs.laws.faults_come_first.Goals as goal

pub returns : goal.returns
returns c = laws.faults_come_first
