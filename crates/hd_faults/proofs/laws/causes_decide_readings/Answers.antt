use Rattle.hd_faults.proofs.CauseReadings.{causes_decide_readings}
use Rattle.hd_faults.proofs.laws.causes_decide_readings.Goals as goal

pub returns : goal.returns
returns c = causes_decide_readings
